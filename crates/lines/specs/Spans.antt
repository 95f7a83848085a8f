-- Tokens by their places in the line.
use Rattle.std.specs.Prelude.{◌≡◌, ℕ, ◌+◌, ◌<◌, ◌≤◌, List, map, length, take, drop, slice_index_or}
use Rattle.lines.specs.declared.tokens.Span.{Span}
use Rattle.lines.specs.Tokens.{tokens}

-- The bytes of a span.
abbrev pub span_bytes : List ℕ → Span → List ℕ
span_bytes line s = take s.len (drop s.at line)

-- The span at a place of a list of them.
abbrev pub nth_span : List Span → ℕ → Span
nth_span spans i = slice_index_or spans i (record { at = 0; len = 0 })

-- Each of the first `count` spans lies within the line.
abbrev pub Inside : List ℕ → List Span → ℕ → Type 0
Inside line spans count = (i : ℕ) → i < count → (nth_span spans i).at + (nth_span spans i).len ≤ length line

-- At most six spans are the tokens of the line, in their order.
pub record Splits (line : List ℕ) (spans : List Span) : Type 0 where
  pub few : length spans ≤ 6
  pub inside : Inside line spans (length spans)
  pub all : map (span_bytes line) spans ≡ tokens line

-- The line that ends at a place is cut into its tokens, and its CR LF lies within the bytes.
pub record CutAt (bytes : List ℕ) (end : ℕ) (spans : List Span) : Type 0 where
  pub ended : end + 2 ≤ length bytes
  pub split : Splits (take end bytes) spans
