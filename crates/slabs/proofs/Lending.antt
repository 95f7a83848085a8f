-- The rows of a slab after they were lent as a slice and written back.
use Rattle.std.proofs.Common.{◌≡◌, ℕ, List, length, Vec, vec_items, sym, ap, ◌∙◌, subst}
use Rattle.std.specs.declared.alloc.Global.{Global}
use Rattle.std.specs.Vec.{with_items}
use Rattle.std.proofs.lemmas.List.{with_items_is}
use Rattle.slabs.specs.declared.row.Row.{Row}
use Rattle.slabs.specs.declared.class.Class.{Class}
use Rattle.slabs.specs.Rows.{homes, rests}
use Rattle.slabs.specs.Lists.{Family}

module _ (v : Vec Row Global) (lent ws : List Row) (is : lent ≡ vec_items v) (long : length ws ≡ v.len) where
  pub rows_back : vec_items (with_items v ws) ≡ ws
  rows_back = with_items_is v ws long

  pub lists_back : (classes classes' : List Class) (order : (ℕ → List ℕ) → ℕ → List ℕ) → ((ls : ℕ → List ℕ) → Family classes lent ls → Family classes' ws (order ls)) → (ls : ℕ → List ℕ) → Family classes (vec_items v) ls → Family classes' (vec_items (with_items v ws)) (order ls)
  lists_back classes classes' order step ls f = subst (λ rows. Family classes' rows (order ls)) (sym rows_back) (step ls (subst (λ rows. Family classes rows ls) (sym is) f))

  pub homes_back : (change : List ℕ → List ℕ) → homes ws ≡ change (homes lent) → homes (vec_items (with_items v ws)) ≡ change (homes (vec_items v))
  homes_back change e = ap homes rows_back ∙ e ∙ ap (λ rows. change (homes rows)) is

  pub rests_back : rests ws ≡ rests lent → rests (vec_items (with_items v ws)) ≡ rests (vec_items v)
  rests_back e = ap rests rows_back ∙ e ∙ ap rests is
