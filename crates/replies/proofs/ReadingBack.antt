-- The bytes of a get's reply are read back.
use Rattle.std.proofs.Common.{◌≡◌, ℕ, zero, suc, ◌+◌, ◌^◌, ◌<◌, ◌≤◌, Bool, true, false, ltb, List, [], ◌∷◌, ◌++◌, map, length, take, drop, Some, codes, decimal, sym, refl, ap, ◌∙◌, arith, rules}
use Rattle.std.specs.Str.Parse.{digits_value, AllDigits}
use Rattle.std.specs.List.{flat_map, AllByRecursion}
use Rattle.std.proofs.lemmas.List.{append_assoc, length-append, take_at, drop_at, drop-drop}
use Rattle.std.proofs.lemmas.Fmt.{decimal_is_IsNumeral}
use Rattle.std.proofs.lemmas.Str.Parse.{digit_from_value}
use Rattle.replies.specs.Reply.{Shown}
use Rattle.replies.specs.Render.{crlf, value_head, cas_part, value_lines, end_line}
use Rattle.replies.proofs.Lengths.{length_value_lines}
use Rattle.replies.specs.Reading.{word, past, data_at, length_of, cas_of, first_shown, after_first, before, read_up_to, read_back, told, Readable, ReadsBack}

-- a byte above 32 ends no word, and one up to 32 does
goes_on : (b : ℕ) → 32 < b → ltb b 33 ≡ false
goes_on b h = search rules

-- a word is read up to the byte that ends it
word_at : (ws : List ℕ) (e : ℕ) (rest : List ℕ) → AllByRecursion (λ b. 32 < b) ws → ltb e 33 ≡ true → word (ws ++ (e ∷ rest)) ≡ ws
word_at [] e rest all ends = rw ends
word_at (b ∷ ws) e rest all ends = rw (goes_on b all.0) (ap (λ xs. b ∷ xs) (word_at ws e rest all.1 ends))

past_at : (ws : List ℕ) (e : ℕ) (rest : List ℕ) → AllByRecursion (λ b. 32 < b) ws → ltb e 33 ≡ true → past (ws ++ (e ∷ rest)) ≡ rest
past_at [] e rest all ends = rw ends
past_at (b ∷ ws) e rest all ends = rw (goes_on b all.0) (past_at ws e rest all.1 ends)

-- digits are part of a word
digits_plain : (ds : List ℕ) → AllDigits 10 ds → AllByRecursion (λ b. 32 < b) ds
digits_plain [] d = tt
digits_plain (c ∷ cs) d = (omega (arith, digit_from_value c d.0), digits_plain cs d.1)

number_plain : (n : ℕ) → n < 2 ^ 64 → AllByRecursion (λ b. 32 < b) (decimal n)
number_plain n h = digits_plain (decimal n) (decimal_is_IsNumeral n h).0.1

-- a number is read back, and what stands behind it
number_at : (n e : ℕ) (rest : List ℕ) → n < 2 ^ 64 → ltb e 33 ≡ true → digits_value 10 (word (decimal n ++ (e ∷ rest))) ≡ n
number_at n e rest h ends = ap (digits_value 10) (word_at (decimal n) e rest (number_plain n h) ends) ∙ (decimal_is_IsNumeral n h).1

past_number : (n e : ℕ) (rest : List ℕ) → n < 2 ^ 64 → ltb e 33 ≡ true → past (decimal n ++ (e ∷ rest)) ≡ rest
past_number n e rest h ends = past_at (decimal n) e rest (number_plain n h) ends

-- what stands behind the length: the cas number where there is one, CR LF, the data, and more
abbrev behind : Bool → Shown → List ℕ → List ℕ
behind true s rest = 32 ∷ (decimal s.cas ++ (13 ∷ 10 ∷ (s.block ++ (13 ∷ 10 ∷ rest))))
behind false s rest = 13 ∷ 10 ∷ (s.block ++ (13 ∷ 10 ∷ rest))

five : (h c e b f rest : List ℕ) → h ++ c ++ e ++ b ++ f ++ rest ≡ h ++ (c ++ (e ++ (b ++ (f ++ rest))))
five h c e b f rest = simp append_assoc

six : (v k s f t n rest : List ℕ) → v ++ k ++ s ++ f ++ t ++ n ++ rest ≡ v ++ (k ++ (s ++ (f ++ (t ++ (n ++ rest)))))
six v k s f t n rest = simp append_assoc

-- a record shown, from its front on
module _ (s : Shown) (rest : List ℕ) where
  abbrev shape : Bool → List ℕ
  shape numbered = codes "VALUE " ++ (s.key ++ (32 ∷ (decimal s.flags ++ (32 ∷ (decimal (length s.block) ++ behind numbered s rest)))))

  shaped : (numbered : Bool) → value_lines numbered s ++ rest ≡ shape numbered
  shaped true =
      five (value_head s.key s.flags (length s.block)) (cas_part true s.cas) crlf s.block crlf rest
      ∙ six (codes "VALUE ") s.key (codes " ") (decimal s.flags) (codes " ") (decimal (length s.block)) (behind true s rest)
  shaped false =
      five (value_head s.key s.flags (length s.block)) [] crlf s.block crlf rest
      ∙ six (codes "VALUE ") s.key (codes " ") (decimal s.flags) (codes " ") (decimal (length s.block)) (behind false s rest)

-- records with equal fields are equal
same_shown : {k l b c : List ℕ} {f g m n : ℕ} → k ≡ l → f ≡ g → b ≡ c → m ≡ n → ◌≡◌ {A = Shown} (record { key = k; flags = f; block = b; cas = m }) (record { key = l; flags = g; block = c; cas = n })
same_shown p q r s = λ i. record { key = p i; flags = q i; block = r i; cas = s i }

module _ (s : Shown) (rest : List ℕ) (ok : Readable s) where
  flags_64 : s.flags < 2 ^ 64
  flags_64 = omega (arith, ok.fair.flags)

  size_64 : length s.block < 2 ^ 64
  size_64 = omega (arith, ok.fair.page)

  -- what stands behind the key, behind the flags, and behind the length
  past_2 : (numbered : Bool) → past (past (shape s rest numbered)) ≡ decimal s.flags ++ (32 ∷ (decimal (length s.block) ++ behind numbered s rest))
  past_2 numbered = past_at s.key 32 _ ok.plain refl

  past_3 : (numbered : Bool) → past (past (past (shape s rest numbered))) ≡ decimal (length s.block) ++ behind numbered s rest
  past_3 numbered = ap past (past_2 numbered) ∙ past_number s.flags 32 _ flags_64 refl

  past_4 : past (past (past (past (shape s rest true)))) ≡ decimal s.cas ++ (13 ∷ 10 ∷ (s.block ++ (13 ∷ 10 ∷ rest)))
  past_4 = ap past (past_3 true) ∙ past_number (length s.block) 32 _ size_64 refl

  data_is : (numbered : Bool) → data_at numbered (shape s rest numbered) ≡ s.block ++ (13 ∷ 10 ∷ rest)
  data_is true = ap (λ bs. drop 1 (past bs)) past_4 ∙ ap (drop 1) (past_number s.cas 13 _ ok.fair.cas refl)
  data_is false = ap (λ bs. drop 1 (past bs)) (past_3 false) ∙ ap (drop 1) (past_number (length s.block) 13 _ size_64 refl)

  length_is : (numbered : Bool) → length_of (shape s rest numbered) ≡ length s.block
  length_is true = ap (λ bs. digits_value 10 (word bs)) (past_3 true) ∙ number_at (length s.block) 32 _ size_64 refl
  length_is false = ap (λ bs. digits_value 10 (word bs)) (past_3 false) ∙ number_at (length s.block) 13 _ size_64 refl

  key_is : (numbered : Bool) → word (past (shape s rest numbered)) ≡ s.key
  key_is numbered = word_at s.key 32 _ ok.plain refl

  flags_is : (numbered : Bool) → digits_value 10 (word (past (past (shape s rest numbered)))) ≡ s.flags
  flags_is numbered = ap (λ bs. digits_value 10 (word bs)) (past_2 numbered) ∙ number_at s.flags 32 _ flags_64 refl

  block_is : (numbered : Bool) → take (length_of (shape s rest numbered)) (data_at numbered (shape s rest numbered)) ≡ s.block
  block_is numbered =
      ap (λ n. take n (data_at numbered (shape s rest numbered))) (length_is numbered)
      ∙ ap (take (length s.block)) (data_is numbered)
      ∙ take_at s.block (13 ∷ 10 ∷ rest) (length s.block) refl

  cas_is : cas_of true (shape s rest true) ≡ s.cas
  cas_is = ap (λ bs. digits_value 10 (word bs)) past_4 ∙ number_at s.cas 13 _ ok.fair.cas refl

  first_is : (numbered : Bool) → first_shown numbered (shape s rest numbered) ≡ told numbered s
  first_is true = same_shown (key_is true) (flags_is true) (block_is true) cas_is
  first_is false = same_shown (key_is false) (flags_is false) (block_is false) refl

  after_is : (numbered : Bool) → after_first numbered (shape s rest numbered) ≡ rest
  after_is numbered =
      ap (λ n. drop (n + 2) (data_at numbered (shape s rest numbered))) (length_is numbered)
      ∙ ap (drop (length s.block + 2)) (data_is numbered)
      ∙ sym (drop-drop 2 (length s.block) (s.block ++ (13 ∷ 10 ∷ rest)))
      ∙ ap (drop 2) (drop_at s.block (13 ∷ 10 ∷ rest) (length s.block) refl)

-- as many turns as there are records suffice
reads_up_to : (numbered : Bool) (xs : List Shown) (n : ℕ) → AllByRecursion Readable xs → length xs ≤ n → read_up_to n numbered (flat_map (value_lines numbered) xs ++ end_line) ≡ Some (map (told numbered) xs)
reads_up_to numbered [] zero all few = refl
reads_up_to numbered [] (suc n) all few = refl
reads_up_to numbered (s ∷ xs) zero all few = absurd (omega arith)
reads_up_to numbered (s ∷ xs) (suc n) all few =
    let rest = flat_map (value_lines numbered) xs ++ end_line in
    ap (read_up_to (suc n) numbered) (append_assoc (value_lines numbered s) (flat_map (value_lines numbered) xs) end_line ∙ shaped s rest numbered)
    ∙ ap (λ x. before x (read_up_to n numbered (after_first numbered (shape s rest numbered)))) (first_is s rest all.0 numbered)
    ∙ ap (λ bs. before (told numbered s) (read_up_to n numbered bs)) (after_is s rest all.0 numbered)
    ∙ ap (before (told numbered s)) (reads_up_to numbered xs n all.1 (omega arith))

-- each record takes a byte or more
length_values : (numbered : Bool) (xs : List Shown) → length xs ≤ length (flat_map (value_lines numbered) xs)
length_values numbered [] = omega arith
length_values numbered (s ∷ xs) =
    let more = length_values numbered xs in
    let one = length_value_lines numbered s in
    omega (arith, length-append (value_lines numbered s) (flat_map (value_lines numbered) xs))

pub reads_back : (bs : List ℕ) → ReadsBack bs (bs ++ end_line)
reads_back bs numbered xs all is =
    let few = length_values numbered xs in
    ap (λ front. read_back numbered (front ++ end_line)) is
    ∙ reads_up_to numbered xs (length (flat_map (value_lines numbered) xs ++ end_line)) all (omega (arith, length-append (flat_map (value_lines numbered) xs) end_line))
