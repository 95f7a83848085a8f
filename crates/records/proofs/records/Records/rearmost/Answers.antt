use Rattle.std.proofs.Common.{true}
use Rattle.recency.specs.Lists.{rearmost}
use Rattle.model.specs.Store.{last}
use Rattle.slabs.specs.Slabs.{rows_of, layout}
use Rattle.records.specs.Reading.{record_at}
use Rattle.records.proofs.Maps.{map_rear, rearmost_on}
use Rattle.records.proofs.Picks.{picked_held, picked_shown}
use Rattle.records.proofs.records.Records.rearmost.Goals as goal

pub returns : goal.returns
returns c =
    let s = c.args.self.now.slab in
    record {
      held = picked_held s c.args.self.now.sound c.args.class rearmost c.rearmost.result c.rearmost.ensures rearmost_on;
      shown = λ setup memory ks. picked_shown s c.args.self.now.sound c.args.class rearmost c.rearmost.result c.rearmost.ensures (last (λ _. true)) setup memory ks (map_rear (record_at (layout s) (rows_of s) memory));
    }
