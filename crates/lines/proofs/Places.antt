-- Parts of the bytes brought, and their places.
use Rattle.std.proofs.Common.{◌≡◌, ℕ, ◌+◌, ◌-◌, ◌<◌, ◌≤◌, List, [], map, length, get_or, take, drop, sym, ap, ◌∙◌, arith}
use Rattle.lines.specs.declared.request.Part.{Part}
use Rattle.lines.specs.declared.tokens.Span.{Span}
use Rattle.lines.specs.Requests.{Lies}
use Rattle.lines.specs.Spans.{span_bytes, nth_span, Splits}
use Rattle.lines.specs.Tokens.{tokens}
use Rattle.std.proofs.lemmas.List.{drop-take, get_or-map, length-drop, length-map, length-take, take-take}

-- A part that is cut out at a place lies there.
pub lies_at : (bytes : List ℕ) (at len : ℕ) (part : Part) → at + len ≤ length bytes → part.at ≡ at → part.bytes.now ≡ take len (drop at bytes) → Lies bytes part
lies_at bytes at len part fits place text =
    let size : length part.bytes.now ≡ len = ap length text ∙ simp (length-take, length-drop) (omega arith) in
    record {
      within = omega (arith, size);
      same = ap (λ n. take n (drop part.at bytes)) size ∙ ap (λ n. take len (drop n bytes)) place ∙ sym text;
    }

-- A part of the front of the bytes is the same part of the bytes.
pub part_of_front : (bytes : List ℕ) (front at len : ℕ) → at + len ≤ front → take len (drop at (take front bytes)) ≡ take len (drop at bytes)
part_of_front bytes front at len fits =
    let split : front ≡ at + (front - at) = omega arith in
    ap (λ n. take len (drop at (take n bytes))) split
    ∙ ap (take len) (drop-take at (front - at) bytes)
    ∙ take-take len (front - at) (drop at bytes) (omega arith)

-- The bytes of the spans, by their number.
pub nth_bytes : (line : List ℕ) (spans : List Span) (i : ℕ) → i < length spans → get_or (map (span_bytes line) spans) i [] ≡ span_bytes line (nth_span spans i)
nth_bytes line spans i h = get_or-map (span_bytes line) spans i (record { at = 0; len = 0 }) [] h

pub count_splits : (line : List ℕ) (spans : List Span) → Splits line spans → length (tokens line) ≡ length spans
count_splits line spans split = sym (ap length split.all) ∙ length-map spans (span_bytes line)
