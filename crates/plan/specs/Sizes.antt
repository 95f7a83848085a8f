-- The sizes of a plan's chunks, and which plans are lawful.
use Rattle.std.specs.Prelude.{◌≡◌, ℕ, zero, suc, ◌+◌, ◌*◌, ◌/◌, ◌%◌, ◌<◌, ◌≤◌, Bool, true, false, cond, ◌&&◌, List, [], ◌∷◌, length, ◌==◌, nat_le}

-- The bytes of a page.
abbrev pub page : ℕ
page = 4096

-- The size after this one: that many percent of it, rounded down, and then up to a multiple of 8.
abbrev pub next_size : ℕ → ℕ → ℕ
next_size percent size = (size * percent / 100 + 7) / 8 * 8

-- What it means that a list holds the sizes from `size` on: each is the next size of the one before it
-- as long as that is at most 2,048, and one last class of a whole page follows.
pub data Follows (percent : ℕ) : ℕ → List ℕ → Type 0 where
  ends : {size : ℕ} → 2048 < next_size percent size → Follows percent size (size ∷ page ∷ [])
  goes : {size : ℕ} {sizes : List ℕ} → next_size percent size ≤ 2048 → Follows percent (next_size percent size) sizes → Follows percent size (size ∷ sizes)

-- The first sizes of that list, where it is cut after `most` of them.
abbrev pub sizes_from : ℕ → ℕ → ℕ → List ℕ
sizes_from percent size zero = []
sizes_from percent size (suc most) =
    size ∷ cond (nat_le (next_size percent size) 2048) (sizes_from percent (next_size percent size) most) (page ∷ [])

-- The sizes of a plan, class 1 first. No lawful plan has more than 32 classes, so that more than 33 sizes are never looked at.
unfoldable pub sizes_of : ℕ → ℕ → List ℕ
sizes_of first percent = sizes_from percent first 33

-- A first size and a percent from which a plan may be made.
abbrev pub fair_start : ℕ → ℕ → Bool
fair_start first percent =
    nat_le 48 first && nat_le first 1024 && first % 8 == 0 && nat_le 110 percent && nat_le percent 200

-- A plan is lawful when its start is fair and it has at most 32 classes. A further rule for plans belongs here.
abbrev pub lawful : ℕ → ℕ → Bool
lawful first percent = fair_start first percent && nat_le (length (sizes_of first percent)) 32

-- Why a plan is refused: its start is not fair, or its sizes, however they are written down, are more than 32.
pub record Refused (first percent : ℕ) : Type 0 where
  pub unlawful : lawful first percent ≡ false
  pub too_long : fair_start first percent ≡ true → (sizes : List ℕ) → Follows percent first sizes → 32 < length sizes
