-- When a caller is admitted, over a list of sessions.
use Rattle.std.specs.Prelude.{◌≡◌, ℕ, Bool, List, length, is_some, None, Option, nat_le, nat_lt}
use Rattle.refusals.specs.declared.Refusal.{Refusal}
use Rattle.refusals.specs.declared.Refusal.TheVariants as refusal
use Rattle.model.specs.Calls.{Session, State, of_caller, refuse_if, is_open, refuse_admit}
use Rattle.model.specs.Store.{first}

-- whether a caller has a session
abbrev pub has_session : ℕ → List Session → Bool
has_session caller xs = is_some (first (of_caller caller) xs)

-- why a caller is not admitted, if it is not
abbrev pub refuse_entry : ℕ → List Session → Option Refusal
refuse_entry caller xs =
    refuse_if (nat_lt 4194303 caller) refusal.CallerTooLarge
    (refuse_if (has_session caller xs) refusal.CallerOpen
    (refuse_if (nat_le 64 (length xs)) refusal.SessionsFull None))

-- both are what the reference table says of its sessions
abbrev pub AsTheReferenceTable : Type 0
AsTheReferenceTable = (caller : ℕ) (s : State) → (has_session caller s.sessions ≡ is_open caller s) × (refuse_entry caller s.sessions ≡ refuse_admit caller s)
