use Rattle.std.proofs.Common.{arith, rules}
use Rattle.replies.specs.Reply.{Line}
use Rattle.replies.proofs.Callers.{replied}
use Rattle.replies.proofs.Fits.{every_reply_fits}
use Rattle.replies_demo.proofs.fixed.Goals as goal

pub returns : goal.returns
returns c =
    let short = every_reply_fits (Line c.args.line) tt in
    let whole = replied (Line c.args.line) c.new-writer.ensures.empty c.text.ensures in
    record { within = omega (arith, short, whole.count, c.len.ensures); replied = search rules }
