-- The list of words as the code holds it.
use Rattle.std.proofs.Common.{◌≡◌, ℕ, Bool, true, false, cond, List, [], ◌∷◌, map, Some, Option, refl, ap, ◌∙◌, Bor}
use Rattle.lines.specs.declared.words.Word.{Word}
use Rattle.lines.specs.Words.{Entry, named_in}
use Rattle.std.specs.List.{find}
use Rattle.std.specs.Option.{option_map}
use Rattle.std.specs.Str.{bytes_eq}

-- A pair of the code's list as an entry of the list of words.
abbrev pub entry : Bor (List ℕ) × Word → Entry
entry p = record { text = p.0.now; word = p.1 }

module _ (token : List ℕ) where
  -- Whether a pair is the token's.
  abbrev pub is_named : Bor (List ℕ) × Word → Bool
  is_named p = bytes_eq token p.0.now

  found_by : (p : Bor (List ℕ) × Word) (o : Option (Bor (List ℕ) × Word)) (b : Bool)
      → option_map (λ (q : Bor (List ℕ) × Word). q.1) (cond b (Some p) o) ≡ cond b (Some p.1) (option_map (λ (q : Bor (List ℕ) × Word). q.1) o)
  found_by p o true = refl
  found_by p o false = refl

  pub found_word : (ps : List (Bor (List ℕ) × Word)) → option_map (λ (q : Bor (List ℕ) × Word). q.1) (find is_named ps) ≡ named_in (map entry ps) token
  found_word [] = refl
  found_word (p ∷ ps) = found_by p (find is_named ps) (is_named p) ∙ ap (cond (is_named p) (Some p.1)) (found_word ps)
