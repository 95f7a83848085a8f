-- What is said of a line that is left out, of a kind of record that goes to no class, and of a class that lacks pages.
use Rattle.std.specs.Prelude.{ℕ, List, ◌++◌, codes}
use Rattle.std.specs.Fmt.{decimal}
use Rattle.sizing.specs.declared.kind.Field.{Field}
use Rattle.sizing.specs.declared.kind.Field.TheVariants.{Key, Block, Count}
use Rattle.sizing.specs.declared.kind.Fault.{Fault}
use Rattle.sizing.specs.declared.kind.Fault.TheVariants.{Words, NotNumber, OutOfRange}
use Rattle.sizing.specs.declared.tally.Unplaced.{Unplaced}
use Rattle.sizing.specs.declared.tally.Unplaced.TheVariants.{TooLarge, Uncountable}
use Rattle.sizing.specs.declared.tally.Shortage.{Shortage}

abbrev pub field_text : Field → List ℕ
field_text Key = codes "key-bytes"
field_text Block = codes "data-bytes"
field_text Count = codes "count"

abbrev pub fault_text : Fault → List ℕ
fault_text Words = codes "not three numbers, key-bytes data-bytes count"
fault_text (NotNumber field) = field_text field ++ codes " is not a number"
fault_text (OutOfRange Key) = codes "key-bytes is not from 1 to 250"
fault_text (OutOfRange Block) = codes "data-bytes is not from 0 to 60000"
fault_text (OutOfRange Count) = codes "count is not from 1 to 18446744073709551615, the most that is counted"

abbrev pub unplaced_text : Unplaced → List ℕ
unplaced_text TooLarge = codes "too large"
unplaced_text Uncountable = codes "its class would have more than 18446744073709551615 records, the most that is counted"

abbrev pub shortage_text : Shortage → List ℕ
shortage_text shortage = codes "class " ++ (decimal shortage.class ++ (codes " is the first that is short, by " ++ decimal shortage.lacks))
