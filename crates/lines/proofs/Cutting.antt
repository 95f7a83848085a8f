-- A line cut at its spaces, from the left.
use Rattle.std.proofs.Common.{◌≡◌, ℕ, suc, ◌+◌, ◌<◌, ◌≤◌, ◌≢◌, T, Bool, true, false, cond, not, ◌==◌, List, [], ◌∷◌, length, get_or, take, drop, Some, None, sym, refl, ap, ◌∙◌, subst, arith}
use Rattle.lines.specs.Tokens.{onto, pieces, filled, tokens}
use Rattle.std.specs.List.{position_or_len, position}
use Rattle.std.specs.Option.{unwrap_or}
use Rattle.std.proofs.lemmas.Bool.{cond-true, cond-false, eq-eqb, eqb-true, ne_eqb, not-true}
use Rattle.std.proofs.lemmas.Bool.Decides.{nat_tests}
use Rattle.std.proofs.lemmas.List.{drop-drop, drop_all, drop_more, get_or-drop, length-drop}
use Rattle.std.proofs.lemmas.List.Quantifiers.{position-Some}
use Rattle.std.proofs.lemmas.List.Folds.{length-prefix_len}
use Rattle.std.proofs.lemmas.List.Sums.{position_or_len_is, prefix_len-le-length, prefix_len_stops}

-- Bytes put before the first piece.
abbrev pub glued : List ℕ → List (List ℕ) → List (List ℕ)
glued [] ps = ps
glued (c ∷ cs) ps = onto c (glued cs ps)

glued_first : (run : List ℕ) (ps : List (List ℕ)) → glued run ([] ∷ ps) ≡ run ∷ ps
glued_first [] ps = refl
glued_first (c ∷ run) ps = ap (onto c) (glued_first run ps)

filled_first : (run : List ℕ) (ps : List (List ℕ)) → 0 < length run → filled (run ∷ ps) ≡ run ∷ filled ps
filled_first [] ps some = absurd (omega arith)
filled_first (c ∷ run) ps some = refl

-- A run that a space or the end follows is a token.
pub cut_here : (run rest : List ℕ) → 0 < length run → (0 < length rest → get_or rest 0 0 ≡ 32) → filled (glued run (pieces rest)) ≡ run ∷ tokens rest
cut_here run [] some space = ap filled (glued_first run []) ∙ filled_first run [] some
cut_here run (c ∷ rest) some space =
    let here : pieces (c ∷ rest) ≡ [] ∷ pieces rest = cond-true _ _ _ (eq-eqb c 32 (space (omega arith))) in
    ap (λ ps. filled (glued run ps)) here
    ∙ ap filled (glued_first run (pieces rest))
    ∙ filled_first run (pieces rest) some
    ∙ ap (λ ps. run ∷ filled ps) (sym here)

-- How far it is to the first byte that is no space, and to the first that is one; or to the end.
abbrev pub gap : List ℕ → ℕ
gap xs = position_or_len (λ b. not (b == 32)) xs

abbrev pub run : List ℕ → ℕ
run xs = position_or_len (λ b. b == 32) xs

-- Spaces in front are no token.
pub gap_past : (xs : List ℕ) → tokens xs ≡ tokens (drop (gap xs) xs)
gap_past [] = refl
gap_past (c ∷ cs) = by (c == 32) refl (gap_past cs)
  where
    by : (b : Bool) → (c == 32) ≡ b → tokens cs ≡ tokens (drop (gap cs) cs) → filled (cond b ([] ∷ pieces cs) (onto c (pieces cs))) ≡ tokens (drop (cond (not (not b)) (1 + gap cs) 0) (c ∷ cs))
    by true e rec = let next : suc (gap cs) ≡ 1 + gap cs = omega arith in rec ∙ ap (λ k. tokens (drop k (c ∷ cs))) next
    by false e rec = ap filled (sym (cond-false _ _ _ e))

-- The bytes in front that are no spaces are those of the first piece.
run_glued : (xs : List ℕ) → pieces xs ≡ glued (take (run xs) xs) (pieces (drop (run xs) xs))
run_glued [] = refl
run_glued (c ∷ cs) = by (c == 32) refl (run_glued cs)
  where
    by : (b : Bool) → (c == 32) ≡ b → pieces cs ≡ glued (take (run cs) cs) (pieces (drop (run cs) cs))
        → cond b ([] ∷ pieces cs) (onto c (pieces cs)) ≡ glued (take (cond (not b) (1 + run cs) 0) (c ∷ cs)) (pieces (drop (cond (not b) (1 + run cs) 0) (c ∷ cs)))
    by true e rec = sym (cond-true _ _ _ e)
    by false e rec =
        let next : suc (run cs) ≡ 1 + run cs = omega arith in ap (onto c) rec ∙ ap (λ k. glued (take k (c ∷ cs)) (pieces (drop k (c ∷ cs)))) next

turned : (b : Bool) → not b ≡ false → b ≡ true
turned true e = refl
turned false e = sym e

-- If there are any, they are the first token.
pub run_cut : (xs : List ℕ) → 0 < run xs → tokens xs ≡ take (run xs) xs ∷ tokens (drop (run xs) xs)
run_cut xs some =
    let long : length (take (run xs) xs) ≡ run xs = length-prefix_len (λ b. not (b == 32)) xs in
    ap filled (run_glued xs)
    ∙ cut_here (take (run xs) xs) (drop (run xs) xs) (omega arith)
    (λ h.
    let stops = prefix_len_stops (λ b. not (b == 32)) xs 0 (omega (arith, length-drop (run xs) xs)) in
    let zero : run xs + 0 ≡ run xs = omega arith in
    get_or-drop (run xs) xs 0 0 ∙ ap (λ k. get_or xs k 0) zero ∙ eqb-true _ 32 (turned _ stops))

-- Where the next token begins: at the first byte that is no space.
pub gap_found : (line : List ℕ) (at n : ℕ) → at ≤ length line → position (λ b. not (b == 32)) (drop at line) ≡ Some n
    → (at + n < length line) × (get_or line (at + n) 0 ≢ 32) × (tokens (drop at line) ≡ tokens (drop (at + n) line))
gap_found line at n fits e =
    let ahead = drop at line in
    let h = position-Some (λ b. not (b == 32)) ahead n 0 e in
    let far : gap ahead ≡ n = position_or_len_is (λ b. not (b == 32)) ahead n 0 (omega (arith, h.0)) h.2 (λ _. h.1) in (
      omega (arith, h.0, length-drop at line),
      λ space. subst T (sym (eq-eqb (get_or ahead n 0) 32 (get_or-drop at line n 0 ∙ space)) ∙ not-true (get_or ahead n 0 == 32) h.1) tt,
      gap_past ahead ∙ ap (λ k. tokens (drop k ahead)) far ∙ ap tokens (drop-drop n at line),
    )

-- None is ahead where each byte is a space.
pub gap_none : (xs : List ℕ) → position (λ b. not (b == 32)) xs ≡ None → tokens xs ≡ []
gap_none xs e =
    let bound = prefix_len-le-length (λ b. not (not (b == 32))) xs in
    let far : length xs ≤ gap xs = grind (arith, nat_tests) in
    gap_past xs ∙ ap tokens (drop_all (gap xs) xs far)

-- Where a token ends: at the next space, or with the line.
pub run_end : (line : List ℕ) (at : ℕ) → at < length line → get_or line at 0 ≢ 32
    → (0 < run (drop at line)) × (at + run (drop at line) ≤ length line)
run_end line at fits other = (
  subst (λ xs. 0 < run xs) (sym (drop_more line at 0 fits)) (rw (ne_eqb (get_or line at 0) 32 other) (omega arith)),
  omega (arith, length-drop at line, prefix_len-le-length (λ b. not (b == 32)) (drop at line)),
)

pub to_space : (xs : List ℕ) → unwrap_or (position (λ b. b == 32) xs) (length xs) ≡ run xs
to_space xs =
    let bound = prefix_len-le-length (λ b. not (b == 32)) xs in
    grind (arith, nat_tests)
