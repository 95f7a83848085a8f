use Rattle.std.proofs.Common.{arith, rules}
use Rattle.replies.specs.Reply.{Statistics}
use Rattle.replies.proofs.Callers.{Fresh, room_reply, replied}
use Rattle.replies.proofs.Fits.{every_reply_fits}
use Rattle.replies_demo.proofs.counted.Goals as goal

pub statistics-requires : goal.statistics-requires
statistics-requires c =
    let fresh : Fresh c.new-writer.result = search rules in
    room_reply (Statistics c.args.figures.now) c.requires.fair fresh

pub returns : goal.returns
returns c =
    let short = every_reply_fits (Statistics c.args.figures.now) c.requires.fair in
    let whole = replied (Statistics c.args.figures.now) c.new-writer.ensures.empty c.statistics.ensures in
    record { within = omega (arith, short, whole.count, c.len.ensures); replied = search rules }
