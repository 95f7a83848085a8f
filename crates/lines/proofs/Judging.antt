-- The reading of a line by its tokens.
use Rattle.std.proofs.Common.{◌≡◌, ℕ, suc, ◌+◌, ◌<◌, ◌≤◌, Bool, true, false, cond, eqb, List, [], ◌∷◌, length, take, drop, Some, None, Option, refl, ap, ◌∙◌, arith}
use Rattle.lines.specs.declared.Fault.TheVariants.{Unknown}
use Rattle.lines.specs.declared.words.Word.{Word}
use Rattle.lines.specs.declared.words.Word.TheVariants as word
use Rattle.lines.specs.Command.{Faulty}
use Rattle.lines.specs.Reading.{by_word, judged, read_at, reading, takes}
use Rattle.lines.specs.Tokens.{crlf, first_crlf, later, line_end, tokens}
use Rattle.lines.specs.Words.{named}
use Rattle.std.proofs.lemmas.List.{length-take}
use Rattle.std.proofs.lemmas.Bool.{and_parts, cond-false, false≢true}
use Rattle.std.proofs.lemmas.Bool.Decides.{nat_tests}
use Rattle.std.specs.Str.{bytes_eq}

-- A CR LF that was found lies within the list.
two_bytes : (b : ℕ) (bs : List ℕ) → bytes_eq (take 2 (b ∷ bs)) crlf ≡ true → 1 ≤ length bs
two_bytes b [] e = absurd (false≢true (and_parts (eqb b 13) false e).1)
two_bytes b (c ∷ bs) e = omega arith

crlf_at : (b : ℕ) (bs : List ℕ) (n : ℕ) (t : Bool) (o : Option ℕ) → bytes_eq (take 2 (b ∷ bs)) crlf ≡ t → first_crlf bs ≡ o
    → cond t (Some 0) (later o) ≡ Some n → ((m : ℕ) → first_crlf bs ≡ Some m → m + 2 ≤ length bs) → n + 2 ≤ length (b ∷ bs)
crlf_at b bs n true o t e found inside = let zero : 0 ≡ n = cc in omega (arith, two_bytes b bs t)
crlf_at b bs n false None t e found inside = let z : ◌≡◌ {A = ℕ} 0 1 = cc in omega arith
crlf_at b bs n false (Some m) t e found inside = let next : suc m ≡ n = cc in omega (arith, inside m e)

crlf_inside : (xs : List ℕ) (n : ℕ) → first_crlf xs ≡ Some n → n + 2 ≤ length xs
crlf_inside [] n e = let z : ◌≡◌ {A = ℕ} 0 1 = cc in omega arith
crlf_inside (b ∷ bs) n e = crlf_at b bs n _ _ refl refl e (crlf_inside bs)

pub line_inside : (bytes : List ℕ) (end : ℕ) → line_end bytes ≡ Some end → end + 2 ≤ length bytes
line_inside bytes end e = omega (arith, crlf_inside (take 2048 bytes) end e, length-take 2048 bytes)

-- A line of too many tokens.
takes_few : (w : Word) (n : ℕ) → 5 < n → takes w n ≡ false
takes_few word.Set n h = grind (arith, nat_tests)
takes_few word.Add n h = grind (arith, nat_tests)
takes_few word.Replace n h = grind (arith, nat_tests)
takes_few word.Cas n h = grind (arith, nat_tests)
takes_few word.Get n h = grind (arith, nat_tests)
takes_few word.Gets n h = grind (arith, nat_tests)
takes_few word.Delete n h = grind (arith, nat_tests)
takes_few word.Touch n h = grind (arith, nat_tests)
takes_few word.FlushAll n h = grind (arith, nat_tests)
takes_few word.Version n h = grind (arith, nat_tests)
takes_few word.Quit n h = grind (arith, nat_tests)
takes_few word.Stats n h = grind (arith, nat_tests)

by_word_many : (o : Option Word) (args : List (List ℕ)) (rest : List ℕ) → 5 < length args → by_word o args rest ≡ Faulty Unknown
by_word_many None args rest h = refl
by_word_many (Some w) args rest h = cond-false _ _ _ (takes_few w (length args) h)

judged_many : (ts : List (List ℕ)) (rest : List ℕ) → 6 < length ts → judged ts rest ≡ Faulty Unknown
judged_many [] rest h = refl
judged_many (w ∷ args) rest h = by_word_many (named w) args rest (omega arith)

module _ (bytes : List ℕ) (end : ℕ) (e : line_end bytes ≡ Some end) where
  at_end : reading bytes ≡ judged (tokens (take end bytes)) (drop (end + 2) bytes)
  at_end = ap (λ o. read_at o bytes) e

  pub reading_many : 6 < length (tokens (take end bytes)) → reading bytes ≡ Faulty Unknown
  reading_many h = at_end ∙ judged_many (tokens (take end bytes)) (drop (end + 2) bytes) h
