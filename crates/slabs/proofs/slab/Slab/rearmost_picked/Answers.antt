use Rattle.std.proofs.Common.{ℕ, ◌<◌, true, false, List, map, get_or, Some, sym, ◌∙◌, subst, arith}
use native.Mathlib.Bridge.{le_prop}
use mathlib.Core.Logic.{∥∥₁_elim}
use Rattle.std.specs.Fn.{FnReturnsAt}
use Rattle.std.proofs.lemmas.Fn.{says_at}
use Rattle.std.proofs.lemmas.List.{get_or_default}
use Rattle.slabs.specs.declared.class.Stand.TheVariants.{Held}
use Rattle.slabs.specs.Rows.{blank}
use Rattle.slabs.specs.Classes.{list_at}
use Rattle.slabs.specs.Lists.{held_of}
use Rattle.slabs.specs.Slabs.{rows_of, Lists}
use Rattle.slabs.proofs.Ends.{listed_within}
use Rattle.slabs.proofs.Sounds.{class_few}
use Rattle.slabs.proofs.Walks.{Walked, NonePicked, walk_finds, walk_goes, walk_home, walk_holds, walk_on, walk_less, left_ahead}
use Rattle.slabs.proofs.slab.Slab.rearmost_picked.Goals as goal

pub index-requires : goal.index-requires
index-requires g c =
    let s = c.args.self.now in
    let i = c.in-Some.i in
    let class = c.args.class in
    let says = FnReturnsAt g.F.Fn c.args.test in
    let home = walk_home says s c.requires.sound class i (λ ls f. subst (λ a. Walked (ls (held_of class)) a (NonePicked says (rows_of s))) c.in-Some.is (c.loop-at.invariant ls f)) in
    omega (arith, listed_within s c.requires.sound i (omega arith))

pub returns-then-test : goal.returns-then-test
returns-then-test g c = λ picks same ls f.
    let s = c.args.self.now in
    let i = c.in-Some.i in
    let class = c.args.class in
    let says = FnReturnsAt g.F.Fn c.args.test in
    let w : (ls : ℕ → List ℕ) → Lists s ls → Walked (ls (held_of class)) (Some i) (NonePicked says (rows_of s)) = λ ls f. subst (λ a. Walked (ls (held_of class)) a (NonePicked says (rows_of s))) c.in-Some.is (c.loop-at.invariant ls f) in
    let home = walk_home says s c.requires.sound class i w in
    let row = get_or_default (rows_of s) i blank c.index.result.now (listed_within s c.requires.sound i (omega arith)) ∙ sym c.index.ensures in
    let told : says (get_or (rows_of s) i blank) true = subst (λ x. says x true) (sym row) (says_at g.F.Fn c.test.ensures c.if-test.true) in
    walk_finds says (rows_of s) (ls (held_of class)) picks same i (sym (same i true told)) (w ls f)

pub ahead_of-at-requires-clause-held : goal.ahead_of-at-requires-clause-held
ahead_of-at-requires-clause-held g c =
    let s = c.args.self.now in
    let class = c.args.class in
    let says = FnReturnsAt g.F.Fn c.args.test in
    walk_holds says s c.requires.sound class c.in-Some.i (λ ls f. subst (λ a. Walked (ls (held_of class)) a (NonePicked says (rows_of s))) c.in-Some.is (c.loop-at.invariant ls f))

pub loop-at-smaller : goal.loop-at-smaller
loop-at-smaller g c =
    let s = c.args.self.now in
    let i = c.in-Some.i in
    let class = c.args.class in
    let says = FnReturnsAt g.F.Fn c.args.test in
    let w : (ls : ℕ → List ℕ) → Lists s ls → Walked (ls (held_of class)) (Some i) (NonePicked says (rows_of s)) = λ ls f. subst (λ a. Walked (ls (held_of class)) a (NonePicked says (rows_of s))) c.in-Some.is (c.loop-at.invariant ls f) in
    ∥∥₁_elim c.requires.sound le_prop (λ z.
    subst (λ o. left_ahead (map (λ row. row.prev) (rows_of s)) c.ahead_of-at.result < left_ahead (map (λ row. row.prev) (rows_of s)) o) (sym c.in-Some.is)
    (walk_less (list_at s.classes.all class Held) says (rows_of s) (z.lists (held_of class)) i c.ahead_of-at.result
    (z.listed.reads class Held (class_few s c.requires.sound i class Held (walk_home says s c.requires.sound class i w))) (w z.lists z.listed) (walk_on says s c.requires.sound class i w c.ahead_of-at.result c.ahead_of-at.ensures z.lists z.listed)))

pub loop-at-preserved : goal.loop-at-preserved
loop-at-preserved g c = λ ls f.
    let s = c.args.self.now in
    let i = c.in-Some.i in
    let class = c.args.class in
    let says = FnReturnsAt g.F.Fn c.args.test in
    let w : (ls : ℕ → List ℕ) → Lists s ls → Walked (ls (held_of class)) (Some i) (NonePicked says (rows_of s)) = λ ls f. subst (λ a. Walked (ls (held_of class)) a (NonePicked says (rows_of s))) c.in-Some.is (c.loop-at.invariant ls f) in
    let home = walk_home says s c.requires.sound class i w in
    let row = get_or_default (rows_of s) i blank c.index.result.now (listed_within s c.requires.sound i (omega arith)) ∙ sym c.index.ensures in
    let told : says (get_or (rows_of s) i blank) false = subst (λ x. says x false) (sym row) (says_at g.F.Fn c.test.ensures c.if-test.false) in
    walk_goes says (rows_of s) (ls (held_of class)) i c.ahead_of-at.result told (w ls f) (walk_on says s c.requires.sound class i w c.ahead_of-at.result c.ahead_of-at.ensures ls f)
