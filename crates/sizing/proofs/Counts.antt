-- What follows for pages, chunks and classes. Assumes nothing.
use Rattle.std.proofs.Common.{◌≡◌, ℕ, zero, suc, refl, ◌+◌, ◌-◌, ◌*◌, ◌<◌, ◌≤◌, length, None, unwrap_or, sym, ap, ⊎_elim, mul-le-mul_right, mod-lt, suc-mul, mul-le-mul_left, div-add-mod', arith}
use Rattle.std.proofs.lemmas.Bool.Decides.{leb_tells}
use Rattle.plan.specs.Classes.{size_at, of_class, chunks_of}
use Rattle.plan.specs.declared.plan.Plan.{Plan}
use Rattle.plan.specs.Plans.{plan_sizes}
use Rattle.plan.proofs.Made.{listed}
use Rattle.plan.proofs.Ask.{has_class, unknown}
use Rattle.sizing.specs.declared.tally.Tally.{Tally}
use Rattle.sizing.specs.Totals.{records_at}
use Rattle.sizing.specs.Pages.{Least, pages_for, pages_at, pages_up_to}

-- one page fewer gives that many chunks fewer
page_fewer : (chunks fewer pages : ℕ) → fewer < pages → fewer * chunks + chunks ≤ pages * chunks
page_fewer chunks fewer pages lt =
    let m : suc fewer * chunks ≤ pages * chunks = mul-le-mul_right chunks lt in
    let e = suc-mul fewer chunks in
    omega arith

-- rounding up gives the least number of pages
pub least : (records chunks : ℕ) → 0 < chunks → Least records chunks (pages_for records chunks)
least records chunks pos =
    let whole = div-add-mod' (records + (chunks - 1)) chunks in
    let less = mod-lt (records + (chunks - 1)) pos in
    record {
      enough = omega arith;
      no_fewer = λ fewer lt. let f = page_fewer chunks fewer (pages_for records chunks) lt in omega arith;
    }

-- which is no more than one for each record
pub at_most : (records chunks : ℕ) → 0 < chunks → pages_for records chunks ≤ records
at_most records chunks pos =
    let each : records * 1 ≤ records * chunks = mul-le-mul_left records pos in
    ⊎_elim (λ t. t.1)
    (λ f. let few = (least records chunks pos).no_fewer records f.1 in absurd (omega arith))
    (leb_tells (pages_for records chunks) records)

-- the pages of a class that the plan has
pub pages_known : (tally : Tally) (class : ℕ) → 1 ≤ class → class ≤ length (plan_sizes tally.plan) → pages_at tally class ≡ pages_for (records_at tally class) (chunks_of (size_at (plan_sizes tally.plan) class))
pages_known tally class low high = rw (has_class (plan_sizes tally.plan) class low high)

-- and of one that it has not
pub pages_unknown : (tally : Tally) (class : ℕ) → None ≡ of_class chunks_of (plan_sizes tally.plan) class → 0 ≡ pages_at tally class
pages_unknown tally class h =
    sym (ap (λ o. unwrap_or o 0) (unknown chunks_of (λ size. pages_for (records_at tally class) (chunks_of size)) (plan_sizes tally.plan) class h))

-- the classes up to one, and those before it
pub up_to : (tally : Tally) (class : ℕ) → 1 ≤ class → pages_up_to tally class ≡ pages_up_to tally (class - 1) + pages_at tally class
up_to tally zero low = absurd (omega arith)
up_to tally (suc class) low = let e : suc class - 1 ≡ class = omega arith in rw e refl

-- a plan has a class
pub some_class : (plan : Plan) → 0 < length (plan_sizes plan)
some_class plan = (listed plan).some
