use Rattle.std.proofs.Common.{ℕ, List, ◌++◌, subst}
use Rattle.replies.specs.Growth.{Wrote}
use Rattle.replies.specs.Render.{crlf}
use Rattle.replies.proofs.Writes.{both}
use Rattle.replies.proofs.output.Writer.text.Goals as goal

pub returns : goal.returns
returns c =
    let W : List ℕ → Type 0 = λ ws. Wrote (ws ++ crlf) c.args.self.now c.put-2.new.self in
    subst W c.words.ensures (both c.put.ensures c.put-2.ensures)
