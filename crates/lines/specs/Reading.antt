-- What the bytes of a request say. A request is judged in this order: its word and the count of its tokens; its key and numbers; the
-- bytes behind the line.
use Rattle.std.specs.Prelude.{ℕ, ◌+◌, Bool, true, false, cond, ◌&&◌, List, [], ◌∷◌, length, take, drop, ℤ, Some, None, Option, ◌==◌, nat_le, slice_index_or}
use Rattle.lines.specs.declared.Fault.TheVariants.{Unknown, BadLine, BadData}
use Rattle.lines.specs.declared.Verb.{Verb}
use Rattle.lines.specs.declared.Verb.TheVariants.{Set, Add, Replace, Cas}
use Rattle.lines.specs.declared.words.Word.{Word}
use Rattle.lines.specs.declared.words.Word.TheVariants as word
use Rattle.lines.specs.Command.{Reading, Asks, Faulty, Command, Get, Store, Delete, Touch, FlushAll, Version, Quit, Stats}
use Rattle.lines.specs.Numbers.{key_of, good_keys, flags_of, size_of, cas_of, exptime_of}
use Rattle.lines.specs.Tokens.{crlf, line_end, tokens}
use Rattle.lines.specs.Words.{named}
use Rattle.std.specs.Str.{bytes_eq}

-- Second: each token writes what it should, or else the fault of a bad line.
abbrev pub given : {A : Type 0} → Option A → (A → Reading) → Reading
given None f = Faulty BadLine
given (Some a) f = f a

-- Third: nothing stands behind the line.
abbrev pub alone : List ℕ → Command → Reading
alone [] c = Asks c
alone (b ∷ bs) c = Faulty BadData

-- Third: behind the line stand exactly `size` bytes, the block, and then CR LF.
abbrev pub with_block : ℕ → List ℕ → (List ℕ → Command) → Reading
with_block size rest c = cond (bytes_eq (drop size rest) crlf) (Asks (c (take size rest))) (Faulty BadData)

-- A storage command from its values: a value that is missing makes a bad line.
abbrev pub gathered : Option (List ℕ) → Option ℕ → Option ℤ → Option ℕ → Option Verb → List ℕ → Reading
gathered key flags exptime size verb rest =
    given key (λ k.
    given flags (λ f.
    given exptime (λ e.
    given size (λ n.
    given verb (λ v.
    with_block n rest (λ b. Store v (record { key = k; flags = f; exptime = e; block = b })))))))

-- A storage command from the tokens behind its word: key, flags, exptime and length of the block.
abbrev pub storage : Option Verb → List (List ℕ) → List ℕ → Reading
storage verb args rest =
    gathered (key_of (slice_index_or args 0 [])) (flags_of (slice_index_or args 1 [])) (exptime_of (slice_index_or args 2 [])) (size_of (slice_index_or args 3 [])) verb rest

-- The verb of a cas with that number.
abbrev pub cas_verb : Option ℕ → Option Verb
cas_verb None = None
cas_verb (Some n) = Some (Cas n)

-- The keys of a get.
abbrev pub retrieval : Bool → List (List ℕ) → List ℕ → Reading
retrieval cas args rest = cond (good_keys args) (alone rest (Get cas args)) (Faulty BadLine)

-- Whether a command has so many tokens behind its word.
abbrev pub takes : Word → ℕ → Bool
takes word.Set n = n == 4
takes word.Add n = n == 4
takes word.Replace n = n == 4
takes word.Cas n = n == 5
takes word.Get n = nat_le 1 n && nat_le n 4
takes word.Gets n = nat_le 1 n && nat_le n 4
takes word.Delete n = n == 1
takes word.Touch n = n == 2
takes word.FlushAll n = n == 0
takes word.Version n = n == 0
takes word.Quit n = n == 0
takes word.Stats n = n == 0

-- A line by its word: `args` are the tokens behind the word, as many as it takes, and `rest` the bytes behind the line's CR LF.
abbrev pub worded : Word → List (List ℕ) → List ℕ → Reading
worded word.Set args rest = storage (Some Set) args rest
worded word.Add args rest = storage (Some Add) args rest
worded word.Replace args rest = storage (Some Replace) args rest
worded word.Cas args rest = storage (cas_verb (cas_of (slice_index_or args 4 []))) args rest
worded word.Get args rest = retrieval false args rest
worded word.Gets args rest = retrieval true args rest
worded word.Delete args rest = given (key_of (slice_index_or args 0 [])) (λ k. alone rest (Delete k))
worded word.Touch args rest = given (key_of (slice_index_or args 0 [])) (λ k. given (exptime_of (slice_index_or args 1 [])) (λ e. alone rest (Touch k e)))
worded word.FlushAll args rest = alone rest FlushAll
worded word.Version args rest = alone rest Version
worded word.Quit args rest = alone rest Quit
worded word.Stats args rest = alone rest Stats

-- First: a known word with as many tokens as it takes, or else the fault of an unknown line.
abbrev pub by_word : Option Word → List (List ℕ) → List ℕ → Reading
by_word None args rest = Faulty Unknown
by_word (Some w) args rest = cond (takes w (length args)) (worded w args rest) (Faulty Unknown)

-- A line by its tokens; the first is its word, and a line of none is unknown.
abbrev pub judged : List (List ℕ) → List ℕ → Reading
judged [] rest = Faulty Unknown
judged (w ∷ args) rest = by_word (named w) args rest

-- The reading of bytes whose line ends at a place; with no line end in reach there is no line to know.
abbrev pub read_at : Option ℕ → List ℕ → Reading
read_at None bytes = Faulty Unknown
read_at (Some end) bytes = judged (tokens (take end bytes)) (drop (end + 2) bytes)

-- What the bytes of a request say.
abbrev pub reading : List ℕ → Reading
reading bytes = read_at (line_end bytes) bytes
