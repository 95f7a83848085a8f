-- An opening that is not refused has a lawful plan. Assumes nothing.
use Rattle.std.proofs.Common.{◌≡◌, ℕ, Bool, true, false, not, None, Option, refl, arith}
use Rattle.refusals.specs.declared.Refusal.{Refusal}
use Rattle.refusals.specs.declared.Refusal.TheVariants as refusal
use Rattle.plan.specs.Sizes.{lawful}
use Rattle.model.specs.Calls.{refuse_if}
use Rattle.model.specs.Promises.{OpeningsArePlanned}

not_refused : (b : Bool) (rest : Option Refusal) → refuse_if (not b) refusal.Plan rest ≡ None → b ≡ true
not_refused true rest e = refl
not_refused false rest e = let z : ◌≡◌ {A = ℕ} 0 1 = cc in absurd (omega arith)

pub openings_are_planned : OpeningsArePlanned
openings_are_planned o e =
    record {
      begin = o.begin;
      percent = o.percent;
      lawfully = not_refused (lawful o.begin o.percent) _ e;
      sizes = refl;
    }
