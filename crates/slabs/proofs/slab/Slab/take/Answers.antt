use Rattle.std.proofs.Common.{get_or, refl, ap, ◌∙◌, arith}
use lib.ListN.{length-map}
use Rattle.std.proofs.lemmas.List.{get_or-set_same}
use Rattle.slabs.specs.declared.class.Stand.TheVariants.{Free}
use Rattle.slabs.specs.Lists.{granted_of}
use Rattle.slabs.specs.Slabs.{rows_of, homes_of}
use Rattle.slabs.proofs.Sounds.{row_within}
use Rattle.slabs.proofs.Ends.{first_names}
use Rattle.slabs.proofs.slab.Slab.take.Goals as goal

pub shift-requires-clause-home : goal.shift-requires-clause-home
shift-requires-clause-home c = first_names c.args.self.now c.requires c.args.class c.in_ok-row.row Free c.in_ok-row.ensures

pub returns-clause-taken : goal.returns-clause-taken
returns-clause-taken c =
    let s = c.args.self.now in
    let class = c.args.class in
    let row = c.in_ok-row.row in
    let told = c.shift.ensures in
    let within = row_within s c.requires row class Free (first_names s c.requires class row Free c.in_ok-row.ensures) in
    record {
      of = refl;
      granted = ap (λ hs. get_or hs row 0) told.shifted.homes ∙ get_or-set_same (homes_of s) row (granted_of class) 0 (omega (arith, length-map (rows_of s) (λ r. r.home)));
      shifted = told.shifted;
    }
