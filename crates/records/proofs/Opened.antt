-- What is shown at the opening: no records. Assumes nothing.
use Rattle.std.proofs.Common.{◌≡◌, ℕ, ◌-◌, ◌*◌, ◌<◌, ◌≤◌, cond, ◌&&◌, eqb, leb, List, [], length, get_or, take, replicate, sym, refl, ap, ◌∙◌, ⊎_elim, arith}
use native.Mathlib.Bridge.{le_prop}
use mathlib.Core.Logic.{∥∥₁_elim}
use lib.ListN.{length-replicate}
use Rattle.std.proofs.lemmas.Bool.{cases_lt, cases_Bool, eq-eqb, ne_eqb, cond-true, cond-false, le-leb, leb-true, and_from, and_parts}
use Rattle.std.proofs.lemmas.List.{get_or-replicate}
use Rattle.recency.specs.Numbers.{count, none}
use Rattle.plan.specs.declared.plan.Plan.{Plan}
use Rattle.plan.specs.Plans.{plan_sizes}
use Rattle.plan.specs.Classes as plan
use Rattle.slabs.specs.declared.slab.Slab.{Slab}
use Rattle.slabs.specs.Lists.{held_of}
use Rattle.slabs.specs.Layouts.{class_at}
use Rattle.slabs.specs.Openings.{Opened, pages_of}
use Rattle.slabs.specs.Slabs.{Lists, Sound, Holds, rows_of, homes_of, layout}
use Rattle.model.specs.Setup.{Setup}
use Rattle.model.specs.Store.{bare}
use Rattle.model.specs.Sound.{Numbered}
use Rattle.model.proofs.Chains.{sound_empty}
use Rattle.records.specs.Kept.{NoGrant}
use Rattle.records.specs.Showing.{Cut, ShowsRecords}

module _ (s : Slab) (empty : Lists s (λ _. [])) where
  -- no row is in a list
  pub homeless : (i : ℕ) → get_or (homes_of s) i 0 ≡ 0
  homeless i =
      ⊎_elim
      (λ (some : 0 < get_or (homes_of s) i 0).
      let h = get_or (homes_of s) i 0 in
      let one = empty.named h i some ∙ cond-true (eqb h h) 1 0 (eq-eqb h h refl) in
      absurd (omega arith))
      (λ no. omega arith)
      (cases_lt 0 (get_or (homes_of s) i 0))

  pub none_held : (i : ℕ) → Holds s i → ⊥
  none_held i h = let z = homeless i in omega (arith, h)

  pub none_granted : NoGrant s
  none_granted i class h = let z = homeless i in omega (arith, h)

  pub none_exact : (i : ℕ) → count i [] ≡ cond (eqb (get_or (homes_of s) i 0) (held_of (class_at (layout s) i))) 1 0
  none_exact i = sym (cond-false _ 1 0 (ne_eqb _ _ (none_held i)))

module _ (the_plan : Plan) (rows : ℕ) (s : Slab) (t : ∥ Sound s ∥₁) (empty : Lists s (λ _. [])) (opened : Opened (plan_sizes the_plan) rows s) where
  -- so few rows that each has a number
  pub rows_few : length (rows_of s) ≤ none
  rows_few = let n = ap length opened.blank_rows ∙ length-replicate (85 * pages_of rows) _ in omega arith

  no_share : (class : ℕ) → 0 < class → get_or (layout s).shares class 0 ≡ 0
  no_share class pos =
      let low : get_or (layout s).shares class 0 ≤ 0 = ∥∥₁_elim t le_prop (λ z.
      let e = z.placed.shared class pos ∙ ap (λ g. count class (take g s.owners)) opened.none_given in omega arith) in
      omega arith

  module _ (setup : Setup) (memory : List ℕ) (same : setup.sizes ≡ plan_sizes the_plan) where
    there : {X : Type 0} (class : ℕ) → Numbered setup class → (x y : X) → cond (leb 1 class && leb class (length (plan_sizes the_plan))) x y ≡ x
    there class num x y =
        cond-true _ x y (and_from _ _ (le-leb 1 class num.low) (le-leb class (length (plan_sizes the_plan)) (let e = ap length same in let h = num.high in omega arith)))

    cut_planned : Cut setup (layout s)
    cut_planned =
        record {
          sizes = λ class num. opened.class_sizes class ∙ there class num _ 0 ∙ ap (λ xs. plan.size_at xs class) (sym same);
          chunks = λ class num. opened.class_chunks class ∙ there class num _ 0 ∙ ap (λ xs. plan.chunks_of (plan.size_at xs class)) (sym same);
          only = λ class some.
              ⊎_elim
              (λ yes.
              let parts = and_parts _ _ yes in
              record { low = leb-true _ _ parts.0; high = let h = leb-true _ _ parts.1 in let e = ap length same in omega arith })
              (λ no. absurd (let e = opened.class_chunks class ∙ cond-false _ _ 0 no in omega arith))
              (cases_Bool (leb 1 class && leb class (length (plan_sizes the_plan))));
        }

    pub opened_shows : ShowsRecords setup s memory (replicate (length setup.sizes) bare)
    opened_shows =
        record {
          kept = sound_empty setup;
          cut = cut_planned;
          classed = λ i h. absurd (none_held s empty i h);
          lists = λ _. [];
          listed = empty;
          shown = λ class low high.
              get_or-replicate (length setup.sizes) (class - 1) bare bare (omega arith)
              ∙ (λ i. record { pages = sym (no_share class (omega arith)) i; records = [] });
          hashed = λ i h. absurd (none_held s empty i h);
        }
