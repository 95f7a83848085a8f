-- Lists of sessions: one of a caller, and in the order of their last seconds.
use Rattle.std.specs.Prelude.{◌≡◌, ℕ, ◌≤◌, Bool, true, List, [], ◌∷◌, ◌++◌, length, filter}
use Rattle.std.specs.List.{AllByRecursion}
use Rattle.model.specs.Calls.{Session, of_caller, busy, idle_enough, served}

-- no caller has two sessions
abbrev pub Distinct : List Session → Type 0
Distinct xs = (caller : ℕ) → length (filter (of_caller caller) xs) ≤ 1

-- no session was served later than now
abbrev pub Until : ℕ → List Session → Type 0
Until now xs = AllByRecursion (λ x. x.last ≤ now) xs

-- no session has a later last second than one in front of it
abbrev pub Descending : List Session → Type 0
Descending [] = Unit {0}
Descending (x ∷ xs) = Until x.last xs × Descending xs

-- the last session, if there is one, is not idle long enough
abbrev pub EndsBusy : ℕ → ℕ → List Session → Type 0
EndsBusy now limit xs = (ys : List Session) (x : Session) → xs ≡ ys ++ x ∷ [] → busy now limit x ≡ true

-- the last session was idle long enough, and `ys` are those in front of it
abbrev pub LastIdle : ℕ → ℕ → List Session → List Session → Type 0
LastIdle now limit xs ys = (x : Session) × (xs ≡ ys ++ x ∷ []) × (idle_enough now limit x ≡ true)

-- `ys` is what is left of `xs` when the last n, each of which was idle long enough, were closed
abbrev pub Swept : ℕ → ℕ → List Session → ℕ → List Session → Type 0
Swept now limit xs n ys = (zs : List Session) × (xs ≡ ys ++ zs) × AllByRecursion (λ x. idle_enough now limit x ≡ true) zs × (n ≡ length zs)

-- The clock never runs back, so that a list which is in order stays so, and no session is later than the clock: when
-- a session is served now, when sessions are closed, and when time goes on.
pub record OrderStays : Type 0 where
  pub at_first : (now : ℕ) → Descending [] × Until now []
  pub served_now : (caller now : ℕ) (xs : List Session) → Until now xs → Descending xs → Descending (served caller now xs) × Until now (served caller now xs)
  pub closed : (kept : Session → Bool) (now : ℕ) (xs : List Session) → Until now xs → Descending xs → Descending (filter kept xs) × Until now (filter kept xs)
  pub later : (now then : ℕ) (xs : List Session) → now ≤ then → Until now xs → Until then xs
