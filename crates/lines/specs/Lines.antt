-- A line of the code with its tokens, and what its parts are read as.
use Rattle.std.specs.Prelude.{◌≡◌, ℕ, ◌+◌, ◌<◌, true, false, List, [], length, take, drop, Some, None, Option, Result, MatchResult, slice_index_or}
use Rattle.lines.specs.declared.Fault.{Fault}
use Rattle.lines.specs.declared.Fault.TheVariants.{BadLine, BadData}
use Rattle.lines.specs.declared.line.Line.{Line}
use Rattle.lines.specs.declared.request.Part.{Part}
use Rattle.lines.specs.Numbers.{key_of}
use Rattle.lines.specs.Requests.{Lies}
use Rattle.lines.specs.Spans.{CutAt}
use Rattle.lines.specs.Tokens.{tokens, crlf}
use Rattle.std.specs.Str.{bytes_eq}

-- The tokens of the line.
abbrev pub toks : Line → List (List ℕ)
toks l = tokens (take l.end l.bytes.now)

-- The tokens behind the word.
abbrev pub args : Line → List (List ℕ)
args l = drop 1 (toks l)

-- The bytes behind the line.
abbrev pub rest : Line → List ℕ
rest l = drop (l.end + 2) l.bytes.now

-- The line is cut into its tokens.
abbrev pub Cut : Line → Type 0
Cut l = CutAt l.bytes.now l.end l.tokens.items

-- A token that should write a value: that value, or the fault of a bad line.
abbrev pub Writes : {A : Type 0} → Option A → Result A Fault → Type 0
Writes o r = MatchResult r (λ x. o ≡ Some x) (λ f. (o ≡ None) × (f ≡ BadLine))

-- A token that should be a key.
abbrev pub KeyRead : Line → ℕ → Result Part Fault → Type 0
KeyRead l i r =
    MatchResult r (λ p. (key_of (slice_index_or (toks l) i []) ≡ Some p.bytes.now) × Lies l.bytes.now p)
    (λ f. (key_of (slice_index_or (toks l) i []) ≡ None) × (f ≡ BadLine))

-- Bytes behind the line that should be a block of `size` bytes and its CR LF.
abbrev pub BlockRead : Line → ℕ → Result Part Fault → Type 0
BlockRead l size r =
    MatchResult r (λ p. (bytes_eq (drop size (rest l)) crlf ≡ true) × (p.bytes.now ≡ take size (rest l)) × Lies l.bytes.now p)
    (λ f. (bytes_eq (drop size (rest l)) crlf ≡ false) × (f ≡ BadData))

-- Bytes behind the line that should be none.
abbrev pub Ended : Line → Result (Unit {0}) Fault → Type 0
Ended l r = MatchResult r (λ _. rest l ≡ []) (λ f. (0 < length (rest l)) × (f ≡ BadData))
