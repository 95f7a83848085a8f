-- What a hash table holds. `heads` is the first row of each slot's chain, `link` the column of each row's next one
-- in its chain, `hash` the column of the rows' hashes, and `ids` the numbers of the rows held, in any order.
use Rattle.std.specs.Prelude.{◌≡◌, ℕ, ◌/◌, ◌<◌, ◌≤◌, cond, List, [], ◌∷◌, map, length, ◌==◌, slice_index, slice_index_or}
use Rattle.recency.specs.Numbers.{none, count}
use Rattle.chained.specs.Growth.{slot}
use Rattle.chained.specs.declared.table.Chains.{Chains}

-- the rows of a chain that begins at the number `from`, each naming the next one; the last one names none
abbrev pub Chain : List ℕ → ℕ → List ℕ → Type 0
Chain link from [] = from ≡ none
Chain link from (i ∷ ids) = (from ≡ i) × (i < length link) × Chain link (slice_index_or link i none) ids

-- the rows of one slot are those rows held whose hash belongs to it
abbrev pub Slot : ℕ × ℕ → List ℕ → List ℕ → List ℕ → List ℕ → ℕ → Type 0
Slot size heads link hash ids s =
    (chain : List ℕ) × Chain link (slice_index_or heads s none) chain × ((i : ℕ) → count i chain ≡ cond (slot size (slice_index hash i) == s) (count i ids) 0)

-- the table of this size holds the rows `ids`, and no others. (A slot past those in use belongs to no hash, so that
-- it is empty.)
pub record Holds (size : ℕ × ℕ) (heads link hash ids : List ℕ) : Type 0 where
  -- no row has the number that stands for no row
  pub few : length link ≤ none
  pub least : 16 ≤ size.0
  pub room : size.0 ≤ length heads
  pub limit : length heads ≤ 16384
  pub moving : size.1 ≤ size.0 / 2
  -- no row is held twice
  pub once : (i : ℕ) → count i ids ≤ 1
  pub slots : (s : ℕ) → Slot size heads link hash ids s

-- the size of a table
abbrev pub size : Chains → ℕ × ℕ
size table = (table.slots, table.unmoved)

-- over these slots and rows, whose links and hashes the first two functions tell, the table holds the rows `ids`
abbrev pub Keeps : {R : Type 0} → (R → ℕ) → (R → ℕ) → Chains → List ℕ → List R → List ℕ → Type 0
Keeps link_of hash_of table heads rows ids = Holds (size table) heads (map link_of rows) (map hash_of rows) ids

-- the rows of a list, put before others one by one
abbrev pub poured : List ℕ → List ℕ → List ℕ
poured [] ids = ids
poured (x ∷ rest) ids = poured rest (x ∷ ids)
