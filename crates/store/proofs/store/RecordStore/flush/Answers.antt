use Rattle.std.proofs.Common.{ℕ, ◌+◌, List, length, None, refl, ap, ◌∙◌, arith}
use Rattle.model.specs.Setup.{Setup}
use Rattle.model.specs.Sound.{Numbered}
use Rattle.model.specs.Store.{Store}
use Rattle.store.specs.Showing.{Shows}
use Rattle.store.specs.Flushing.{Flushing}
use Rattle.store.proofs.Flushed.{flushed, flushed_on}
use Rattle.store.proofs.store.RecordStore.flush.Goals as goal
use Rattle.store.proofs.store.RecordStore.flush.Goals.{After-flush_class}

pub loop-class-init : goal.loop-class-init
loop-class-init c = (refl, λ setup n memory s at sh. record { left = s; same = refl; emptied = λ d low lt. absurd (omega arith); shown = sh })

-- one more class was flushed
one_more : (c : After-flush_class) (setup : Setup) (n : ℕ) (memory : List ℕ) (s : Store) (at : ℕ) → Shows setup n c.args.self.now memory None s → Flushing setup n c.flush_class.new.self memory at s (c.loop-class.class + 1)
one_more c setup n memory s at sh =
    let f = c.loop-class.invariant.1 setup n memory s at sh in
    let num : Numbered setup c.loop-class.class = record { low = c.loop-class.auto.class; high = omega (arith, ap length sh.sizes, c.loop-class-test.true, c.classes-classes.ensures) } in
    flushed_on f (c.flush_class.ensures.shown setup n memory f.left at f.shown num f.emptied)

pub loop-class-preserved : goal.loop-class-preserved
loop-class-preserved c = (c.flush_class.ensures.pages ∙ c.loop-class.invariant.0, one_more (goal.at.loop-class-preserved c).After-flush_class)

pub returns-2-clause-shown : goal.returns-2-clause-shown
returns-2-clause-shown c = λ setup n memory s at few sh.
    flushed at s (c.loop-class.class + 1) (omega (arith, ap length sh.sizes, c.classes-classes.ensures)) (one_more (goal.at.returns-2-clause-shown c).After-flush_class setup n memory s at sh)

pub returns-clause-shown : goal.returns-clause-shown
returns-clause-shown c =
    λ setup n memory s at few sh. flushed at s c.loop-class.class (omega (arith, ap length sh.sizes, c.loop-class-test.false, c.classes-classes.ensures)) (c.loop-class.invariant.1 setup n memory s at sh)
