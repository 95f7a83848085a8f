-- What a line says: a kind of record, or what is wrong with it.
use Rattle.std.specs.Prelude.{◌≡◌, ℕ, ◌<◌, Bool, true, cond, not, ◌&&◌, List, length, Ok, Err, Result, ◌==◌}
use Rattle.sizing.specs.declared.kind.Kind.{Kind}
use Rattle.sizing.specs.declared.kind.Field.{Field}
use Rattle.sizing.specs.declared.kind.Field.TheVariants.{Key, Block, Count}
use Rattle.sizing.specs.declared.kind.Fault.{Fault}
use Rattle.sizing.specs.declared.kind.Fault.TheVariants.{Words, NotNumber, OutOfRange}
use Rattle.sizing.specs.Words.{first_word, after_word, all_digits, decimal}
use Rattle.sizing.specs.Fields.{in_range}

-- A word in the place of this number. NotNumber: it has a byte that is no digit. OutOfRange: it writes a number that
-- is too small or too large for its place.
abbrev pub field_in : Field → List ℕ → Result ℕ Fault
field_in field word =
    cond (all_digits word) (cond (in_range field (decimal word)) (Ok (decimal word)) (Err (OutOfRange field))) (Err (NotNumber field))

abbrev pub empty : List ℕ → Bool
empty word = length word == 0

-- the line has a third word and no fourth
abbrev pub three_words : List ℕ → Bool
three_words line =
    not (empty (first_word (after_word (after_word line)))) && empty (first_word (after_word (after_word (after_word line))))

-- the words of such a line, none of which is empty
pub record ThreeWords (line key block count : List ℕ) : Type 0 where
  pub three : three_words line ≡ true
  pub first : key ≡ first_word line
  pub second : block ≡ first_word (after_word line)
  pub third : count ≡ first_word (after_word (after_word line))
  pub some : (0 < length key) × (0 < length block) × (0 < length count)

-- the kind that three numbers tell of, or the fault of the first that has one
abbrev pub kind_of : Result ℕ Fault → Result ℕ Fault → Result ℕ Fault → Result Kind Fault
kind_of (Err fault) block count = Err fault
kind_of (Ok key) (Err fault) count = Err fault
kind_of (Ok key) (Ok block) (Err fault) = Err fault
kind_of (Ok key) (Ok block) (Ok count) = Ok (record { key = key; block = block; count = count })

-- What a line says. Words: it is not three words.
abbrev pub kind_in : List ℕ → Result Kind Fault
kind_in line =
    cond (three_words line)
    (kind_of (field_in Key (first_word line)) (field_in Block (first_word (after_word line))) (field_in Count (first_word (after_word (after_word line)))))
    (Err Words)
