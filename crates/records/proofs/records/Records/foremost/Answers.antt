use Rattle.recency.specs.Lists.{foremost}
use Rattle.records.proofs.Maps.{foremost_on}
use Rattle.records.proofs.Picks.{picked_held}
use Rattle.records.proofs.records.Records.foremost.Goals as goal

pub returns-clause-held : goal.returns-clause-held
returns-clause-held c = picked_held c.args.self.now.slab c.args.self.now.sound c.args.class foremost c.foremost.result c.foremost.ensures foremost_on
