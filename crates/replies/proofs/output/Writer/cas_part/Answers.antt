use Rattle.std.proofs.Common.{ℕ, is_some, unwrap_or, Option, sym, subst}
use Rattle.replies.specs.Growth.{Wrote}
use Rattle.replies.specs.Render.{cas_part}
use Rattle.replies.proofs.Writes.{both}
use Rattle.replies.proofs.output.Writer.cas_part.Goals as goal

pub returns-in-Some : goal.returns-in-Some
returns-in-Some c =
    let W : Option ℕ → Type 0 = λ o. Wrote (cas_part (is_some o) (unwrap_or o 0)) c.args.self.now c.put_number.new.self in
    subst W (sym c.in-Some.is) (both c.put.ensures c.put_number.ensures)
