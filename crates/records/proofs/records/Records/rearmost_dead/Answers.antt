use Rattle.std.proofs.Common.{ℕ, Bool, get_or, rules}
use Rattle.recency.specs.Lists.{rearmost}
use Rattle.model.specs.Records.{dead, dead_at}
use Rattle.model.specs.Store.{last}
use Rattle.slabs.specs.Lists.{keep}
use Rattle.slabs.specs.Rows.{blank}
use Rattle.slabs.specs.Slabs.{rows_of, layout}
use Rattle.records.specs.Reading.{record_at}
use Rattle.records.proofs.Maps.{map_rear_that, rearmost_that_on}
use Rattle.records.proofs.Picks.{picked_held, picked_shown}
use Rattle.records.proofs.records.Records.rearmost_dead.Goals as goal

pub returns : goal.returns
returns c =
    let s = c.args.self.now.slab in
    let test : ℕ → Bool = λ i. dead_at c.args.second (get_or (rows_of s) i blank).tag.expiry in
    let told = c.rearmost_picked.ensures test (λ i b k. search rules) in
    record {
      held = picked_held s c.args.self.now.sound c.args.class (λ ids. rearmost (keep test ids)) c.rearmost_picked.result told (rearmost_that_on test);
      shown = λ setup memory ks. picked_shown s c.args.self.now.sound c.args.class (λ ids. rearmost (keep test ids)) c.rearmost_picked.result told (last (dead c.args.second)) setup memory ks (map_rear_that (dead c.args.second) (record_at (layout s) (rows_of s) memory));
    }
