use Rattle.std.proofs.Common.{◌≡◌, ◌<◌, true, false, [], ◌∷◌, ◌++◌, map, length, get_or, sym, ap, ◌∙◌, subst, ⊎_elim, arith}
use Rattle.std.specs.Fn.{FnReturnsAt}
use Rattle.std.proofs.lemmas.Fn.{says_at}
use Rattle.recency.specs.Lists.{rearmost}
use Rattle.slabs.specs.declared.class.Stand.TheVariants.{Held}
use Rattle.slabs.specs.Rows.{blank, RowsRead}
use Rattle.slabs.specs.Classes.{no_class, at_stand, list_at}
use Rattle.slabs.specs.Lists.{held_of, keep}
use Rattle.slabs.specs.Slabs.{rows_of}
use Rattle.slabs.proofs.Ends.{beyond}
use Rattle.slabs.proofs.Walks.{Counted, counted_starts, counted_all, counted_within, counted_goes, walk_finds}
use Rattle.slabs.proofs.slab.Slab.rearmost_that.Goals as goal

pub returns-in_err-get-clause-found : goal.returns-in_err-get-clause-found
returns-in_err-get-clause-found g c = λ known picks same ls f.
    let past = c.in_err-get.ensures.lookup.3 in
    let gone : ls (held_of c.args.class) ≡ [] =
    ⊎_elim
    (λ (few : c.args.class < 33). absurd (omega arith))
    (λ sound. beyond c.args.self.now sound ls f Held c.args.class (omega arith))
    known in
    c.from_residual.ensures ∙ sym (ap (λ ids. rearmost (keep picks ids)) gone)

pub loop-init : goal.loop-init
loop-init g c = λ ls f.
    let s = c.args.self.now in
    let there = c.in_ok-get.ensures.lookup.3 in
    let read = f.reads c.args.class Held (omega arith) in
    let same = ◌∙◌ {b = at_stand c.in_ok-get.field-0.now Held} c.at-chunks.ensures (ap (λ x. at_stand x Held) (there.1 no_class)) in
    counted_starts (FnReturnsAt g.F.Fn c.args.test) (rows_of s) (ls (held_of c.args.class)) c.back-at.result
    (c.back-at.ensures (map (λ row. row.next) (rows_of s)) (map (λ row. row.prev) (rows_of s)) (ls (held_of c.args.class)) (rw same read))

pub returns-in_err-row-clause-found : goal.returns-in_err-row-clause-found
returns-in_err-row-clause-found g c = λ known picks same ls f.
    let s = c.args.self.now in
    let says = FnReturnsAt g.F.Fn c.args.test in
    let xs = ls (held_of c.args.class) in
    let there = c.in_ok-get.ensures.lookup in
    let past = c.in_err-row.ensures.lookup.3 in
    let all = ap length c.deref.ensures.value in
    let w = subst (λ a. Counted says (rows_of s) xs c.loop.counter a) c.in_ok-i.was (c.loop.invariant ls f) in
    absurd (omega (arith, counted_within says (rows_of s) xs (list_at s.classes.all c.args.class Held) (f.reads c.args.class Held (omega arith)) c.loop.counter c.in_ok-i.i w))

pub returns-then-test-clause-found : goal.returns-then-test-clause-found
returns-then-test-clause-found g c = λ known picks same ls f.
    let s = c.args.self.now in
    let i = c.in_ok-i.i in
    let says = FnReturnsAt g.F.Fn c.args.test in
    let xs = ls (held_of c.args.class) in
    let w = subst (λ a. Counted says (rows_of s) xs c.loop.counter a) c.in_ok-i.was (c.loop.invariant ls f) in
    let told : says (get_or (rows_of s) i blank) true = subst (λ x. says x true) (◌∙◌ {b = get_or c.deref.result.now i blank} ((c.in_ok-row.ensures.lookup.3).1 blank) (ap (λ rows. get_or rows i blank) c.deref.ensures.value)) (says_at g.F.Fn c.test.ensures c.if-test.true) in
    walk_finds says (rows_of s) xs picks same i (sym (same i true told)) w.0

pub loop-preserved : goal.loop-preserved
loop-preserved g c = λ ls f.
    let s = c.args.self.now in
    let i = c.in_ok-i.i in
    let says = FnReturnsAt g.F.Fn c.args.test in
    let xs = ls (held_of c.args.class) in
    let list = list_at s.classes.all c.args.class Held in
    let there = c.in_ok-get.ensures.lookup in
    let w = subst (λ a. Counted says (rows_of s) xs c.loop.counter a) c.in_ok-i.was (c.loop.invariant ls f) in
    let told : says (get_or (rows_of s) i blank) false = subst (λ x. says x false) (◌∙◌ {b = get_or c.deref.result.now i blank} ((c.in_ok-row.ensures.lookup.3).1 blank) (ap (λ rows. get_or rows i blank) c.deref.ensures.value)) (says_at g.F.Fn c.test.ensures c.if-test.false) in
    counted_goes says (rows_of s) xs list (f.reads c.args.class Held (omega arith)) c.loop.counter i w c.ahead_of-at.result told (λ a b read. c.ahead_of-at.ensures list a b (subst (λ rows. RowsRead list rows (a ++ i ∷ b)) (sym c.deref-in-loop.ensures.value) read))

pub returns-clause-found : goal.returns-clause-found
returns-clause-found g c = λ known picks same ls f.
    let s = c.args.self.now in
    let there = c.in_ok-get.ensures.lookup.3 in
    let chunks = ◌∙◌ {b = at_stand c.in_ok-get.field-0.now Held} c.at-chunks.ensures (ap (λ x. at_stand x Held) (there.1 no_class)) in
    let long = ap (λ x. x.count) chunks ∙ f.counted c.args.class Held (omega arith) in
    counted_all (FnReturnsAt g.F.Fn c.args.test) (rows_of s) (ls (held_of c.args.class)) c.loop.counter c.loop.at (omega arith) (c.loop.invariant ls f) picks same
