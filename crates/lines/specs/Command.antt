-- What a request asks for, apart from the bytes that it was written in.
use Rattle.std.specs.Prelude.{ℕ, Bool, List, ℤ}
use Rattle.lines.specs.declared.Verb.{Verb}
use Rattle.lines.specs.declared.Fault.{Fault}

-- What a storage command brings: `block` is the data without the CR LF that closes it.
pub record Item : Type 0 where
  pub key : List ℕ
  pub flags : ℕ
  pub exptime : ℤ
  pub block : List ℕ

-- One command with its values. `Get true` is gets; its keys are in the order written.
pub data Command : Type 0 where
  Get : Bool → List (List ℕ) → Command
  Store : Verb → Item → Command
  Delete : List ℕ → Command
  Touch : List ℕ → ℤ → Command
  FlushAll : Command
  Version : Command
  Quit : Command
  Stats : Command

-- What the bytes of a request say: a command, or the first fault in the order of judging.
pub data Reading : Type 0 where
  Asks : Command → Reading
  Faulty : Fault → Reading
