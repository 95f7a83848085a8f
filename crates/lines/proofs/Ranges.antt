-- A command that some bytes ask for is a lawful one.
use Rattle.std.proofs.Common.{◌≡◌, ℕ, zero, suc, ◌≤◌, Bool, true, false, cond, ◌&&◌, eqb, leb, List, [], ◌∷◌, length, get_or, take, drop, ℤ, pos, neg_ℤ, Some, None, Option, sym, refl, ap, ◌∙◌, subst, arith}
use Rattle.lines.proofs.Bytewise.{number_bounded}
use Rattle.lines.specs.declared.Fault.{Fault}
use Rattle.lines.specs.declared.Verb.{Verb}
use Rattle.lines.specs.declared.Verb.TheVariants.{Set, Add, Replace, Cas}
use Rattle.lines.specs.declared.words.Word.{Word}
use Rattle.lines.specs.declared.words.Word.TheVariants as word
use Rattle.lines.specs.Command.{Command, Get, Delete, Touch, FlushAll, Version, Quit, Stats, Reading, Asks, Faulty}
use Rattle.lines.specs.Grammar.{Lawful, LawfulVerb, ReadsLawful, Short}
use Rattle.lines.specs.Numbers.{above_zero, below_zero, cas_of, exptime_of, flags_of, good_key, good_keys, key_of, number_of, size_of}
use Rattle.lines.specs.Reading.{alone, by_word, cas_verb, given, judged, read_at, retrieval, storage, takes, worded}
use Rattle.lines.specs.Tokens.{crlf, line_end, tokens}
use Rattle.lines.specs.Words.{named}
use Rattle.std.proofs.lemmas.List.{length-take}
use Rattle.std.proofs.lemmas.Bool.{and_parts, leb-true}
use Rattle.std.specs.Str.{bytes_eq}

-- What must have been so, where a step of the judging came to a command.
no_fault : {P : Type 0} (f : Fault) (c : Command) → Faulty f ≡ Asks c → P
no_fault f c e = let z : ◌≡◌ {A = ℕ} 0 1 = cc in absurd (omega arith)

passed : (b : Bool) (r : Reading) (f : Fault) (c : Command) → cond b r (Faulty f) ≡ Asks c → (b ≡ true) × (r ≡ Asks c)
passed true r f c e = (refl, e)
passed false r f c e = no_fault f c e

had : {A : Type 0} (o : Option A) (f : A → Reading) (c : Command) → given o f ≡ Asks c → (a : A) × (o ≡ Some a) × (f a ≡ Asks c)
had None f c e = no_fault _ c e
had (Some a) f c e = (a, refl, e)

same : (d c : Command) → Asks d ≡ Asks c → d ≡ c
same d c e = cc

bare : (rest : List ℕ) (d c : Command) → alone rest d ≡ Asks c → d ≡ c
bare [] d c e = same d c e
bare (b ∷ rest) d c e = no_fault _ c e

-- The values that tokens write are in range.
key_good : (t k : List ℕ) → key_of t ≡ Some k → good_key k ≡ true
key_good t k e = by (good_key t) refl e
  where
    by : (b : Bool) → good_key t ≡ b → cond b (Some t) None ≡ Some k → good_key k ≡ true
    by true g h = let same : t ≡ k = cc in ap good_key (sym same) ∙ g
    by false g h = let z : ◌≡◌ {A = ℕ} 0 1 = cc in absurd (omega arith)

number_low : (most top : ℕ) (t : List ℕ) (n : ℕ) → number_of most top t ≡ Some n → n ≤ top
number_low most top t n e = number_bounded most top t n (sym e)

negated_short : (n : ℕ) → n ≤ 2147483648 → Short (neg_ℤ (pos n))
negated_short zero h = omega arith
negated_short (suc n) h = omega arith

above_short : (o : Option ℕ) (z : ℤ) → ((n : ℕ) → o ≡ Some n → n ≤ 2147483647) → above_zero o ≡ Some z → Short z
above_short None z low e = let no : ◌≡◌ {A = ℕ} 0 1 = cc in absurd (omega arith)
above_short (Some n) z low e = let is : pos n ≡ z = cc in subst Short is (omega (arith, low n refl))

below_short : (o : Option ℕ) (z : ℤ) → ((n : ℕ) → o ≡ Some n → n ≤ 2147483648) → below_zero o ≡ Some z → Short z
below_short None z low e = let no : ◌≡◌ {A = ℕ} 0 1 = cc in absurd (omega arith)
below_short (Some n) z low e = let is : neg_ℤ (pos n) ≡ z = cc in subst Short is (negated_short n (low n refl))

exptime_short : (t : List ℕ) (z : ℤ) → exptime_of t ≡ Some z → Short z
exptime_short [] z e = let no : ◌≡◌ {A = ℕ} 0 1 = cc in absurd (omega arith)
exptime_short (c ∷ cs) z e = by (eqb c 45) e
  where
    by : (b : Bool) → cond b (below_zero (number_of 10 2147483648 cs)) (above_zero (number_of 10 2147483647 (c ∷ cs))) ≡ Some z → Short z
    by true h = below_short (number_of 10 2147483648 cs) z (number_low 10 2147483648 cs) h
    by false h = above_short (number_of 10 2147483647 (c ∷ cs)) z (number_low 10 2147483647 (c ∷ cs)) h

-- The commands.
store_lawful : (verb : Option Verb) → ((v : Verb) → verb ≡ Some v → LawfulVerb v) → (args : List (List ℕ)) (rest : List ℕ) (c : Command)
    → storage verb args rest ≡ Asks c → Lawful c
store_lawful verb low args rest c e =
    let k = had (key_of (get_or args 0 [])) _ c e in
    let f = had (flags_of (get_or args 1 [])) _ c k.2 in
    let x = had (exptime_of (get_or args 2 [])) _ c f.2 in
    let n = had (size_of (get_or args 3 [])) _ c x.2 in
    let v = had verb _ c n.2 in
    let b = passed (bytes_eq (drop n.0 rest) crlf) _ _ c v.2 in
    subst Lawful (same _ c b.1) (
      low v.0 v.1,
      record {
        key = key_good (get_or args 0 []) k.0 k.1;
        flags = omega (arith, number_low 10 4294967295 (get_or args 1 []) f.0 f.1);
        exptime = exptime_short (get_or args 2 []) x.0 x.1;
        block = omega (arith, number_low 5 60000 (get_or args 3 []) n.0 n.1, length-take n.0 rest);
      },
    )

verb_low : (v : Verb) → LawfulVerb v → (u : Verb) → Some v ≡ Some u → LawfulVerb u
verb_low v h u e = let is : v ≡ u = cc in subst LawfulVerb is h

cas_low : (o : Option ℕ) → ((n : ℕ) → o ≡ Some n → n ≤ 18446744073709551615) → (u : Verb) → cas_verb o ≡ Some u → LawfulVerb u
cas_low None low u e = let no : ◌≡◌ {A = ℕ} 0 1 = cc in absurd (omega arith)
cas_low (Some n) low u e = verb_low (Cas n) (omega (arith, low n refl)) u e

get_lawful : (cas : Bool) (args : List (List ℕ)) (rest : List ℕ) (c : Command) → (leb 1 (length args) && leb (length args) 4) ≡ true
    → retrieval cas args rest ≡ Asks c → Lawful c
get_lawful cas args rest c count e =
    let g = passed (good_keys args) _ _ c e in
    let n = and_parts (leb 1 (length args)) (leb (length args) 4) count in
    subst Lawful (bare rest (Get cas args) c g.1)
    (record { some = leb-true 1 (length args) n.0; few = leb-true (length args) 4 n.1; good = g.0 })

worded_lawful : (w : Word) (args : List (List ℕ)) (rest : List ℕ) (c : Command) → takes w (length args) ≡ true → worded w args rest ≡ Asks c → Lawful c
worded_lawful word.Set args rest c count e = store_lawful (Some Set) (verb_low Set tt) args rest c e
worded_lawful word.Add args rest c count e = store_lawful (Some Add) (verb_low Add tt) args rest c e
worded_lawful word.Replace args rest c count e = store_lawful (Some Replace) (verb_low Replace tt) args rest c e
worded_lawful word.Cas args rest c count e =
    let token = get_or args 4 [] in
    store_lawful (cas_verb (cas_of token)) (cas_low (cas_of token) (number_low 20 18446744073709551615 token)) args rest c e
worded_lawful word.Get args rest c count e = get_lawful false args rest c count e
worded_lawful word.Gets args rest c count e = get_lawful true args rest c count e
worded_lawful word.Delete args rest c count e =
    let k = had (key_of (get_or args 0 [])) _ c e in
    subst Lawful (bare rest (Delete k.0) c k.2) (key_good (get_or args 0 []) k.0 k.1)
worded_lawful word.Touch args rest c count e =
    let k = had (key_of (get_or args 0 [])) _ c e in
    let x = had (exptime_of (get_or args 1 [])) _ c k.2 in
    subst Lawful (bare rest (Touch k.0 x.0) c x.2) (key_good (get_or args 0 []) k.0 k.1, exptime_short (get_or args 1 []) x.0 x.1)
worded_lawful word.FlushAll args rest c count e = subst Lawful (bare rest FlushAll c e) tt
worded_lawful word.Version args rest c count e = subst Lawful (bare rest Version c e) tt
worded_lawful word.Quit args rest c count e = subst Lawful (bare rest Quit c e) tt
worded_lawful word.Stats args rest c count e = subst Lawful (bare rest Stats c e) tt

by_word_lawful : (o : Option Word) (args : List (List ℕ)) (rest : List ℕ) (c : Command) → by_word o args rest ≡ Asks c → Lawful c
by_word_lawful None args rest c e = no_fault _ c e
by_word_lawful (Some w) args rest c e =
    let p = passed (takes w (length args)) _ _ c e in worded_lawful w args rest c p.0 p.1

judged_lawful : (ts : List (List ℕ)) (rest : List ℕ) (c : Command) → judged ts rest ≡ Asks c → Lawful c
judged_lawful [] rest c e = no_fault _ c e
judged_lawful (w ∷ args) rest c e = by_word_lawful (named w) args rest c e

at_lawful : (o : Option ℕ) (bytes : List ℕ) (c : Command) → read_at o bytes ≡ Asks c → Lawful c
at_lawful None bytes c e = no_fault _ c e
at_lawful (Some end) bytes c e = judged_lawful (tokens (take end bytes)) _ c e

pub reads_lawful : ReadsLawful
reads_lawful bytes c e = at_lawful (line_end bytes) bytes c e
