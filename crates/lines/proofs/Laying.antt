-- Tokens laid out in a line, and the line in a request.
use Rattle.std.proofs.Common.{◌≡◌, ℕ, zero, suc, ◌+◌, ◌-◌, ◌<◌, ◌≤◌, Bool, true, false, ◌&&◌, eqb, leb, List, [], ◌∷◌, ◌++◌, length, get_or, take, drop, replicate, Some, sym, refl, ap, ◌∙◌, arith}
use lib.Seq.{take-append-add}
use Rattle.lines.proofs.Cutting.{cut_here, glued}
use Rattle.lines.specs.Grammar.{spaced}
use Rattle.lines.specs.Numbers.{key_byte, key_bytes}
use Rattle.lines.specs.Reading.{judged, read_at, reading}
use Rattle.lines.specs.Tokens.{crlf, filled, first_crlf, later, line_end, onto, pieces, tokens}
use Rattle.std.proofs.lemmas.List.{drop_at, drop-drop, get_or-replicate, length-replicate, take_at}
use Rattle.std.proofs.lemmas.Bool.{and_from, and_left, and_parts, cond-false}
use Rattle.std.proofs.lemmas.Bool.Decides.{nat_tests}
use Rattle.std.specs.List.{AllByRecursion}

-- Some bytes, none of them a space or a control byte.
abbrev pub Solid : List ℕ → Type 0
Solid t = (0 < length t) × (key_bytes t ≡ true)

-- Bytes with no control byte.
abbrev pub plain : List ℕ → Bool
plain [] = true
plain (b ∷ bs) = leb 32 b && plain bs

plain_append : (xs ys : List ℕ) → plain xs ≡ true → plain ys ≡ true → plain (xs ++ ys) ≡ true
plain_append [] ys p q = q
plain_append (x ∷ xs) ys p q = let h = and_parts (leb 32 x) (plain xs) p in and_from _ _ h.0 (plain_append xs ys h.1 q)

plain_key : (t : List ℕ) → key_bytes t ≡ true → plain t ≡ true
plain_key [] h = refl
plain_key (b ∷ bs) h =
    let p = and_parts (key_byte b) (key_bytes bs) h in
    let q : leb 32 b ≡ true = let e : key_byte b ≡ true = p.0 in grind (arith, nat_tests) in
    and_from _ _ q (plain_key bs p.1)

plain_spaces : (n : ℕ) → plain (replicate n 32) ≡ true
plain_spaces zero = refl
plain_spaces (suc n) = plain_spaces n

pub plain_spaced : (extra : ℕ → ℕ) (ts : List (List ℕ)) → AllByRecursion Solid ts → plain (spaced extra ts) ≡ true
plain_spaced extra [] h = plain_spaces (extra 0)
plain_spaced extra (t ∷ []) h =
    plain_append (replicate (extra 0) 32) _ (plain_spaces (extra 0)) (plain_append t _ (plain_key t h.0.1) (plain_spaces (extra 1)))
plain_spaced extra (t ∷ u ∷ ts) h =
    plain_append (replicate (extra 0) 32) _ (plain_spaces (extra 0))
    (plain_append t _ (plain_key t h.0.1) (plain_spaced (λ i. extra (suc i)) (u ∷ ts) h.1))

-- The tokens of a line that was laid out are those that it was laid out of.
tokens_lead : (n : ℕ) (xs : List ℕ) → tokens (replicate n 32 ++ xs) ≡ tokens xs
tokens_lead zero xs = refl
tokens_lead (suc n) xs = tokens_lead n xs

tokens_spaces : (n : ℕ) → tokens (replicate n 32) ≡ []
tokens_spaces zero = refl
tokens_spaces (suc n) = tokens_spaces n

pieces_run : (t rest : List ℕ) → key_bytes t ≡ true → pieces (t ++ rest) ≡ glued t (pieces rest)
pieces_run [] rest h = refl
pieces_run (b ∷ t) rest h =
    let p = and_parts (key_byte b) (key_bytes t) h in
    let other : eqb b 32 ≡ false = let e : key_byte b ≡ true = p.0 in grind (arith, nat_tests) in
    cond-false _ _ _ other ∙ ap (onto b) (pieces_run t rest p.1)

tokens_run : (t rest : List ℕ) → Solid t → (0 < length rest → get_or rest 0 0 ≡ 32) → tokens (t ++ rest) ≡ t ∷ tokens rest
tokens_run t rest h space = ap filled (pieces_run t rest h.1) ∙ cut_here t rest h.0 space

pub tokens_spaced : (extra : ℕ → ℕ) (ts : List (List ℕ)) → AllByRecursion Solid ts → tokens (spaced extra ts) ≡ ts
tokens_spaced extra [] h = tokens_spaces (extra 0)
tokens_spaced extra (t ∷ []) h =
    tokens_lead (extra 0) (t ++ replicate (extra 1) 32)
    ∙ tokens_run t (replicate (extra 1) 32) h.0 (λ some. get_or-replicate (extra 1) 0 32 0 (omega (arith, length-replicate {A = ℕ} (extra 1) 32)))
    ∙ ap (λ us. t ∷ us) (tokens_spaces (extra 1))
tokens_spaced extra (t ∷ u ∷ ts) h =
    let more = spaced (λ i. extra (suc i)) (u ∷ ts) in
    tokens_lead (extra 0) (t ++ (32 ∷ more))
    ∙ tokens_run t (32 ∷ more) h.0 (λ some. refl)
    ∙ ap (λ us. t ∷ us) (tokens_spaced (λ i. extra (suc i)) (u ∷ ts) h.1)

-- The line ends where it was made to end.
crlf_after : (xs rest : List ℕ) → plain xs ≡ true → first_crlf (xs ++ (13 ∷ 10 ∷ rest)) ≡ Some (length xs)
crlf_after [] rest h = refl
crlf_after (b ∷ xs) rest h =
    let p = and_parts (leb 32 b) (plain xs) h in
    let other : eqb b 13 ≡ false = let e : leb 32 b ≡ true = p.0 in grind (arith, nat_tests) in
    cond-false _ _ _ (and_left _ _ other) ∙ ap later (crlf_after xs rest p.1)

module _ (line rest : List ℕ) (h : plain line ≡ true) (fits : length line + 2 ≤ 2048) where
  end_is : line_end (line ++ (crlf ++ rest)) ≡ Some (length line)
  end_is =
      let k = 2046 - length line in
      let all : 2048 ≡ length line + suc (suc k) = omega arith in
      ap (λ n. first_crlf (take n (line ++ (crlf ++ rest)))) all
      ∙ ap first_crlf (take-append-add line (crlf ++ rest) (suc (suc k)))
      ∙ crlf_after line (take k rest) h

  pub reading_is : reading (line ++ (crlf ++ rest)) ≡ judged (tokens line) rest
  reading_is =
      let bytes = line ++ (crlf ++ rest) in
      ap (λ o. read_at o bytes) end_is
      ∙ ap (λ ls. judged (tokens ls) (drop (length line + 2) bytes)) (take_at line (crlf ++ rest) (length line) refl)
      ∙ ap (judged (tokens line)) (sym (drop-drop 2 (length line) bytes) ∙ ap (drop 2) (drop_at line (crlf ++ rest) (length line) refl))
