use Rattle.std.proofs.Common.{refl}
use Rattle.sizing.proofs.Counts.{least, at_most}
use Rattle.sizing.proofs.tally.asking.pages_for.Goals as goal

pub returns : goal.returns
returns c =
    record { value = refl; least = least c.args.records c.args.chunks c.requires; bound = at_most c.args.records c.args.chunks c.requires }
