-- The tokens found so far, and those ahead.
use Rattle.std.proofs.Common.{◌≡◌, ℕ, ◌-◌, ◌<◌, ◌≤◌, List, [], ◌∷◌, ◌++◌, map, length, take, drop, sym, ap, ◌∙◌, ⊎_elim, arith}
use Rattle.lines.specs.declared.tokens.Span.{Span}
use Rattle.lines.specs.Spans.{span_bytes, nth_span, Inside, Splits}
use Rattle.lines.specs.Tokens.{tokens}
use Rattle.std.proofs.Math.Seq.{get_or-append_seam}
use Rattle.std.proofs.lemmas.List.{append_assoc, append-nil, get_or_append_left, length-append, length-map, map-append}
use Rattle.std.proofs.lemmas.Bool.{cases_eq}

pub record Sofar (line : List ℕ) (spans : List Span) (at : ℕ) : Type 0 where
  pub few : length spans ≤ 6
  pub here : at ≤ length line
  pub inside : Inside line spans (length spans)
  pub all : map (span_bytes line) spans ++ tokens (drop at line) ≡ tokens line

module _ (line : List ℕ) (spans : List Span) (at : ℕ) (so : Sofar line spans at) where
  pub sofar_token : (start end : ℕ) → length spans < 6 → start < end → end ≤ length line
      → tokens (drop at line) ≡ tokens (drop start line) → tokens (drop start line) ≡ take (end - start) (drop start line) ∷ tokens (drop end line)
      → Sofar line (spans ++ record { at = start; len = end - start } ∷ []) end
  sofar_token start end room a b gap cut =
      let s : Span = record { at = start; len = end - start } in
      let found = map (span_bytes line) spans in
      record {
        few = omega (arith, length-append spans (s ∷ []));
        here = b;
        inside = λ i h. ⊎_elim
            (λ (e : i ≡ length spans).
            let same : nth_span (spans ++ s ∷ []) i ≡ s = ap (nth_span (spans ++ s ∷ [])) e ∙ get_or-append_seam spans s [] _ in
            omega (arith, ap (λ (x : Span). x.at) same, ap (λ (x : Span). x.len) same))
            (λ ne.
            let before : i < length spans = omega (arith, length-append spans (s ∷ [])) in
            let same : nth_span (spans ++ s ∷ []) i ≡ nth_span spans i = get_or_append_left spans (s ∷ []) _ i before in
            omega (arith, so.inside i before, ap (λ (x : Span). x.at) same, ap (λ (x : Span). x.len) same))
            (cases_eq i (length spans));
        all =
            ap (λ ts. ts ++ tokens (drop end line)) (map-append (span_bytes line) spans (s ∷ []))
            ∙ append_assoc found (take (end - start) (drop start line) ∷ []) (tokens (drop end line))
            ∙ ap (λ ts. found ++ ts) (sym (gap ∙ cut))
            ∙ so.all;
      }

  -- One token more than there is room for.
  pub sofar_full : length spans ≡ 6 → 0 < length (tokens (drop at line)) → 6 < length (tokens line)
  sofar_full full more =
      omega (arith, length-map spans (span_bytes line), ap length so.all, length-append (map (span_bytes line) spans) (tokens (drop at line)))

  -- No token is left.
  pub sofar_done : tokens (drop at line) ≡ [] → Splits line spans
  sofar_done none = record {
    few = so.few;
    inside = so.inside;
    all = sym (append-nil (map (span_bytes line) spans)) ∙ ap (λ ts. map (span_bytes line) spans ++ ts) (sym none) ∙ so.all;
  }
