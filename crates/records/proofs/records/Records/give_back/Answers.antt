use Rattle.std.proofs.Common.{◌<◌, length, arith}
use Rattle.slabs.specs.Slabs.{homes_of}
use Rattle.records.proofs.Chaining.{within}
use Rattle.records.proofs.Granting.{free_not, granted_not, held_before, held_after, shows_shifted}
use Rattle.records.proofs.Indexing.{reindexed_by}
use Rattle.records.proofs.records.Records.give_back.Goals as goal

pub invariant_of-self-clause-indexed : goal.invariant_of-self-clause-indexed
invariant_of-self-clause-indexed c =
    let t = c.args.self.now in
    let row = c.args.grant.row in
    let new = c.give_back.new.self in
    let went = c.give_back.ensures.returned in
    let lt : row < length (homes_of t.slab) = within (homes_of t.slab) row (rw c.requires.granted (omega arith)) in
    let before = held_before t.slab new row _ _ went c.requires.granted lt (granted_not c.args.grant.class) (free_not c.args.grant.class) in
    let after = held_after t.slab new row _ _ went c.requires.granted lt (granted_not c.args.grant.class) (free_not c.args.grant.class) in
    reindexed_by t new c.give_back.ensures.rests before after

pub returns-clause-shown : goal.returns-clause-shown
returns-clause-shown c =
    let s = c.args.self.now.slab in
    let grant = c.args.grant in
    let lt : grant.row < length (homes_of s) = within (homes_of s) grant.row (rw c.requires.granted (omega arith)) in
    shows_shifted s c.give_back.new.self grant.row _ _ c.give_back.ensures.returned c.requires.granted lt (granted_not grant.class) (free_not grant.class) (λ e. omega arith) c.give_back.ensures.rests
