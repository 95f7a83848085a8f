-- Keys of rows. A key is a list of numbers: the bytes of a text, or one number. `key_of` tells the key of a row by its
-- number and the row.
use Rattle.std.specs.Prelude.{◌≡◌, ℕ, List, ◌≢◌, slice_index_or}
use Rattle.recency.specs.Numbers.{count}

-- the row i has this key
abbrev pub HasKey : {R : Type 0} → (ℕ → R → List ℕ) → List R → ℕ → List ℕ → Type 0
HasKey {R} key_of rows i key = (d : R) → key_of i (slice_index_or rows i d) ≡ key

-- no row of `ids` that keeps its key's hash has this key
abbrev pub NoKey : {R : Type 0} → (ℕ → R → List ℕ) → (R → ℕ) → (List ℕ → ℕ) → List R → List ℕ → List ℕ → Type 0
NoKey {R} key_of hash_of hashed rows ids key =
    (i : ℕ) (d : R) → count i ids ≡ 1 → hash_of (slice_index_or rows i d) ≡ hashed (key_of i (slice_index_or rows i d)) → key_of i (slice_index_or rows i d) ≢ key

-- no two rows of `ids` have the same key
abbrev pub OneRowAKey : {R : Type 0} → (ℕ → R → List ℕ) → List R → List ℕ → Type 0
OneRowAKey {R} key_of rows ids =
    (i j : ℕ) (d : R) → count i ids ≡ 1 → count j ids ≡ 1 → key_of i (slice_index_or rows i d) ≡ key_of j (slice_index_or rows j d) → i ≡ j

-- the key of the row i is none of the keys of `ids`
abbrev pub NewKey : {R : Type 0} → (ℕ → R → List ℕ) → List R → List ℕ → ℕ → Type 0
NewKey {R} key_of rows ids i = (k : ℕ) (d : R) → count k ids ≡ 1 → key_of k (slice_index_or rows k d) ≢ key_of i (slice_index_or rows i d)
