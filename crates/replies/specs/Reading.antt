-- How a client reads the bytes of a get's reply back: words up to a space or CR, and the data by its length.
use Rattle.std.specs.Prelude.{◌≡◌, ℕ, zero, suc, ◌+◌, ◌<◌, Bool, true, false, cond, List, [], ◌∷◌, map, length, take, drop, Some, None, codes, Option, ◌==◌, nat_lt}
use Rattle.std.specs.Str.Parse.{digits_value}
use Rattle.std.specs.List.{flat_map, AllByRecursion}
use Rattle.replies.specs.Reply.{Shown}
use Rattle.replies.specs.Render.{value_lines, end_line}
use Rattle.replies.specs.Fair.{FairShown}

-- the word at the front: up to the first space or control byte
abbrev pub word : List ℕ → List ℕ
word [] = []
word (b ∷ bs) = cond (nat_lt b 33) [] (b ∷ word bs)

-- what stands behind that word and the one byte that ends it
abbrev pub past : List ℕ → List ℕ
past [] = []
past (b ∷ bs) = cond (nat_lt b 33) bs (past bs)

-- whether two texts are the same
abbrev pub same : List ℕ → List ℕ → Bool
same [] [] = true
same [] (c ∷ cs) = false
same (b ∷ bs) [] = false
same (b ∷ bs) (c ∷ cs) = cond (b == c) (same bs cs) false

-- The first line of a record has the words VALUE, key, flags, length and, where cas numbers are written, the cas number.
-- Behind its CR LF stands the data: as many bytes as the length says, whatever they are.
abbrev pub data_at : Bool → List ℕ → List ℕ
data_at true bs = drop 1 (past (past (past (past (past bs)))))
data_at false bs = drop 1 (past (past (past (past bs))))

abbrev pub length_of : List ℕ → ℕ
length_of bs = digits_value 10 (word (past (past (past bs))))

-- no cas number is read where none is written
abbrev pub cas_of : Bool → List ℕ → ℕ
cas_of true bs = digits_value 10 (word (past (past (past (past bs)))))
cas_of false bs = 0

-- the record at the front
abbrev pub first_shown : Bool → List ℕ → Shown
first_shown numbered bs =
    record {
      key = word (past bs);
      flags = digits_value 10 (word (past (past bs)));
      block = take (length_of bs) (data_at numbered bs);
      cas = cas_of numbered bs;
    }

-- what stands behind that record: behind its data and the CR LF of that
abbrev pub after_first : Bool → List ℕ → List ℕ
after_first numbered bs = drop (length_of bs + 2) (data_at numbered bs)

-- a record read before others
abbrev pub before : Shown → Option (List Shown) → Option (List Shown)
before s None = None
before s (Some xs) = Some (s ∷ xs)

-- at most n records, and then the line END and nothing more
abbrev pub read_up_to : ℕ → Bool → List ℕ → Option (List Shown)
read_up_to zero numbered bs = cond (same bs end_line) (Some []) None
read_up_to (suc n) numbered bs =
    cond (same (word bs) (codes "VALUE"))
    (before (first_shown numbered bs) (read_up_to n numbered (after_first numbered bs)))
    (cond (same bs end_line) (Some []) None)

-- the records that a get's reply shows; there are no more of them than bytes
abbrev pub read_back : Bool → List ℕ → Option (List Shown)
read_back numbered bs = read_up_to (length bs) numbered bs

-- what a reply tells of a record: all of it, or all but the cas number
abbrev pub told : Bool → Shown → Shown
told true s = s
told false s = record { key = s.key; flags = s.flags; block = s.block; cas = 0 }

-- a record that the table can hold, and whose key has no space and no control byte; of its data nothing is asked
pub record Readable (s : Shown) : Type 0 where
  pub fair : FairShown s
  pub plain : AllByRecursion (λ b. 32 < b) s.key

-- Where `bs` are the lines of records shown, and `reply` is the whole reply of a get, the records are read back from it:
-- keys, flags and data, and the cas numbers where they are written; also where the data holds CR LF or END.
abbrev pub ReadsBack : List ℕ → List ℕ → Type 0
ReadsBack bs reply =
    (numbered : Bool) (xs : List Shown) → AllByRecursion Readable xs → bs ≡ flat_map (value_lines numbered) xs → read_back numbered reply ≡ Some (map (told numbered) xs)
