-- An array that a closure made, where each call leaves what it captured.
use Rattle.std.proofs.Common.{◌≡◌, ℕ, zero, suc, ◌+◌, ◌<◌, ◌≤◌, List, get_or, sym, subst, ⊎_elim, arith}
use Rattle.std.proofs.lemmas.Bool.{cases_eq}
use Rattle.std.specs.Array.{IsFromFnResultFrom}
use Rattle.std.specs.Fn.{Mut, Called}

module _ {F B : Type 0} (g : Mut F (ℕ × Unit {0}) B) (P : ℕ → B → Type 0) (f : F) (call : (i : ℕ) (y : B) (q : F) → Called g f (i, tt) y q → (q ≡ f) × P i y) where
  -- each element has what its call gave
  pub made_each : (ys : List B) (i n : ℕ) → IsFromFnResultFrom g f ys i n → (k : ℕ) (d : B) → i ≤ k → k < i + n → P k (get_or ys k d)
  made_each ys i zero made k d low high = absurd (omega arith)
  made_each ys i (suc n) made k d low high =
      let told = call i made.1 made.0 made.3 in
      ⊎_elim
      (λ (e : k ≡ i). subst (λ j. P j (get_or ys j d)) (sym e) (subst (λ y. P i y) (sym (made.2.1 d)) told.1))
      (λ ne. made_each ys (i + 1) n (subst (λ q. IsFromFnResultFrom g q ys (i + 1) n) told.0 made.4) k d (omega arith) (omega arith))
      (cases_eq k i)
