use Rattle.std.proofs.Common.{map, sym, ap, ◌∙◌, arith}
use Rattle.recency.specs.Lists.{rearmost}
use Rattle.slabs.specs.declared.class.Stand.TheVariants.{Held}
use Rattle.slabs.specs.Classes.{no_class, at_stand}
use Rattle.slabs.specs.Lists.{held_of}
use Rattle.slabs.specs.Slabs.{rows_of}
use Rattle.slabs.proofs.Ends.{beyond, classes_long}
use Rattle.slabs.proofs.slab.Slab.rearmost.Goals as goal

pub returns-in_err-get : goal.returns-in_err-get
returns-in_err-get c = λ ls f. let past = c.in_err-get.ensures.lookup.3 in c.from_residual.ensures ∙ sym (ap rearmost (beyond c.args.self.now c.requires ls f Held c.args.class (omega (arith, classes_long c.args.self.now c.requires))))

pub returns : goal.returns
returns c = λ ls f.
    let s = c.args.self.now in
    let there = c.in_ok-get.ensures.lookup.3 in
    let read = f.reads c.args.class Held (omega (arith, classes_long s c.requires)) in
    let same = c.at.ensures ∙ ap (λ x. at_stand x Held) (there.1 no_class) in
    c.back.ensures (map (λ row. row.next) (rows_of s)) (map (λ row. row.prev) (rows_of s)) (ls (held_of c.args.class)) (rw same read)
