-- The replies of the table, as values. How they are written is in Render.
use Rattle.std.specs.Prelude.{ℕ, Bool, List}
use Rattle.replies.specs.declared.kinds.Text.{Text}
use Rattle.replies.specs.declared.kinds.Figures.{Figures}

-- one record as `get` and `gets` show it: its key, its flags, its data and its cas number
pub record Shown : Type 0 where
  pub key : List ℕ
  pub flags : ℕ
  pub block : List ℕ
  pub cas : ℕ

pub data Reply : Type 0 where
  -- one fixed line
  Line : Text → Reply
  -- the records found, in the order asked for; `true` where cas numbers are written, as `gets` does
  Values : Bool → List Shown → Reply
  -- the figures of `stats`
  Statistics : Figures → Reply
  -- no bytes at all, as `quit` answers
  Silent : Reply
