-- A request that was written for a command reads as that command.
use Rattle.std.proofs.Common.{◌≡◌, ℕ, suc, ◌^◌, ◌<◌, ◌≤◌, true, false, cond, List, [], ◌∷◌, ◌++◌, length, take, ℤ, pos, negsuc, Some, decimal, refl, ap, ◌∙◌, arith, rules}
use Rattle.lines.proofs.Bytewise.{exptime_plain, number_good}
use Rattle.lines.proofs.Laying.{Solid, plain_spaced, reading_is, tokens_spaced}
use Rattle.lines.specs.declared.Fault.TheVariants.{BadData}
use Rattle.lines.specs.declared.Verb.{Verb}
use Rattle.lines.specs.declared.Verb.TheVariants.{Set, Add, Replace, Cas}
use Rattle.lines.specs.Command.{Item, Command, Get, Store, Delete, Touch, FlushAll, Version, Quit, Stats, Asks, Faulty}
use Rattle.lines.specs.Grammar.{Lawful, LawfulItem, LawfulVerb, ReadsBack, Short, item_tokens, line_tokens, spaced, store_tokens, tail}
use Rattle.lines.specs.Numbers.{above_zero, below_zero, exptime_of, flags_of, good_key, good_keys, key_bytes, key_byte, key_of, number_of, size_of, value, value_after}
use Rattle.lines.specs.Reading.{cas_verb, gathered, given, judged, storage}
use Rattle.lines.specs.Tokens.{crlf}
use Rattle.std.proofs.lemmas.Fmt.{decimal_nonempty, digits_decimal, length-decimal-le, digits_value-decimal}
use Rattle.std.proofs.lemmas.List.{drop_at, take_at}
use Rattle.std.proofs.lemmas.Str.Parse.{IsNumeralModel, not_in_digits, numerals_by_fold, tells_all_ascii_digits}
use Rattle.std.proofs.lemmas.Bool.{and_from, and_parts, cond-true, le-leb}
use Rattle.std.proofs.lemmas.Bool.Decides.{nat_tests}
use Rattle.std.specs.List.{AllByRecursion}
use Rattle.std.specs.Str.{all_ascii_digits, bytes_eq}
use Rattle.std.specs.Char.{is_ascii_digit}
use Rattle.std.specs.Fmt.{signed_decimal}

own : IsNumeralModel (λ ds. all_ascii_digits ds ≡ true) value
own = numerals_by_fold _ tells_all_ascii_digits value_after (search rules)

-- Numbers as they are written.
number_decimal : (most top n : ℕ) → 0 < most → n ≤ top → n < 10 ^ most → n < 2 ^ 64 → number_of most top (decimal n) ≡ Some n
number_decimal most top n some small short h =
    let same = digits_value-decimal own n h in
    let low : value (decimal n) ≤ top = omega (arith, same) in
    number_good most top (decimal n) (decimal_nonempty n h) (length-decimal-le most n some short h) (digits_decimal own n h) low ∙ ap Some same

digits_solid : (ds : List ℕ) → all_ascii_digits ds ≡ true → key_bytes ds ≡ true
digits_solid [] h = refl
digits_solid (c ∷ cs) h =
    let p = and_parts (is_ascii_digit c) (all_ascii_digits cs) h in
    let q : key_byte c ≡ true = let e : is_ascii_digit c ≡ true = p.0 in grind (arith, nat_tests) in
    and_from _ _ q (digits_solid cs p.1)

decimal_solid : (n : ℕ) → n < 2 ^ 64 → Solid (decimal n)
decimal_solid n h = (decimal_nonempty n h, digits_solid (decimal n) (digits_decimal own n h))

exptime_signed : (z : ℤ) → Short z → exptime_of (signed_decimal z) ≡ Some z
exptime_signed (pos n) h =
    let wide : n < 2 ^ 64 = omega arith in
    let some = decimal_nonempty n wide in
    exptime_plain (decimal n) some (λ e. not_in_digits own (decimal n) 45 (digits_decimal own n wide) (λ q. omega arith) 0 some e)
    ∙ ap above_zero (number_decimal 10 2147483647 n (omega arith) (omega arith) (omega arith) wide)
exptime_signed (negsuc n) h = ap below_zero (number_decimal 10 2147483648 (suc n) (omega arith) (omega arith) (omega arith) (omega arith))

signed_solid : (z : ℤ) → Short z → Solid (signed_decimal z)
signed_solid (pos n) h = decimal_solid n (omega arith)
signed_solid (negsuc n) h = let s = decimal_solid (suc n) (omega arith) in (omega arith, s.1)

-- Each token of a command is some bytes with no space.
key_solid : (k : List ℕ) → good_key k ≡ true → Solid k
key_solid k h = (grind (arith, nat_tests), grind (arith, nat_tests))

keys_solid : (ks : List (List ℕ)) → good_keys ks ≡ true → AllByRecursion Solid ks
keys_solid [] h = tt
keys_solid (k ∷ ks) h = let p = and_parts (good_key k) (good_keys ks) h in (key_solid k p.0, keys_solid ks p.1)

item_solid : (i : Item) (more : List (List ℕ)) → LawfulItem i → AllByRecursion Solid more → AllByRecursion Solid (item_tokens i more)
item_solid i more l m =
    (key_solid i.key l.key, (decimal_solid i.flags (omega (arith, l.flags)), (signed_solid i.exptime l.exptime, (decimal_solid (length i.block) (omega (arith, l.block)), m))))

store_solid : (v : Verb) (i : Item) → LawfulVerb v → LawfulItem i → AllByRecursion Solid (store_tokens v i)
store_solid Set i v l = ((omega arith, refl), item_solid i [] l tt)
store_solid Add i v l = ((omega arith, refl), item_solid i [] l tt)
store_solid Replace i v l = ((omega arith, refl), item_solid i [] l tt)
store_solid (Cas n) i v l = ((omega arith, refl), item_solid i (decimal n ∷ []) l (decimal_solid n v, tt))

tokens_solid : (c : Command) → Lawful c → AllByRecursion Solid (line_tokens c)
tokens_solid (Get false ks) l = ((omega arith, refl), keys_solid ks l.good)
tokens_solid (Get true ks) l = ((omega arith, refl), keys_solid ks l.good)
tokens_solid (Store v i) l = store_solid v i l.0 l.1
tokens_solid (Delete k) l = ((omega arith, refl), (key_solid k l, tt))
tokens_solid (Touch k e) l = ((omega arith, refl), (key_solid k l.0, (signed_solid e l.1, tt)))
tokens_solid FlushAll l = ((omega arith, refl), tt)
tokens_solid Version l = ((omega arith, refl), tt)
tokens_solid Quit l = ((omega arith, refl), tt)
tokens_solid Stats l = ((omega arith, refl), tt)

-- Those tokens are judged to be the command.
key_is : (k : List ℕ) → good_key k ≡ true → key_of k ≡ Some k
key_is k h = cond-true _ _ _ h

item_is : (v : Verb) (i : Item) → LawfulItem i
    → gathered (key_of i.key) (flags_of (decimal i.flags)) (exptime_of (signed_decimal i.exptime)) (size_of (decimal (length i.block))) (Some v) (i.block ++ crlf)
    ≡ Asks (Store v i)
item_is v i l =
    let k = key_is i.key l.key in
    let f = number_decimal 10 4294967295 i.flags (omega arith) (omega (arith, l.flags)) (omega (arith, l.flags)) (omega (arith, l.flags)) in
    let e = exptime_signed i.exptime l.exptime in
    let n = number_decimal 5 60000 (length i.block) (omega arith) l.block (omega (arith, l.block)) (omega (arith, l.block)) in
    let rest = i.block ++ crlf in
    let made : List ℕ → Command = λ b. Store v (record { key = i.key; flags = i.flags; exptime = i.exptime; block = b }) in
    ap (λ o. gathered o (flags_of (decimal i.flags)) (exptime_of (signed_decimal i.exptime)) (size_of (decimal (length i.block))) (Some v) rest) k
    ∙ ap (λ o. gathered (Some i.key) o (exptime_of (signed_decimal i.exptime)) (size_of (decimal (length i.block))) (Some v) rest) f
    ∙ ap (λ o. gathered (Some i.key) (Some i.flags) o (size_of (decimal (length i.block))) (Some v) rest) e
    ∙ ap (λ o. gathered (Some i.key) (Some i.flags) (Some i.exptime) o (Some v) rest) n
    ∙ ap (λ xs. cond (bytes_eq xs crlf) (Asks (made (take (length i.block) rest))) (Faulty BadData)) (drop_at i.block crlf (length i.block) refl)
    ∙ ap (λ b. Asks (made b)) (take_at i.block crlf (length i.block) refl)

judged_is : (c : Command) → Lawful c → judged (line_tokens c) (tail c) ≡ Asks c
judged_is (Get false ks) l =
    cond-true _ _ _ (and_from _ _ (le-leb 1 (length ks) l.some) (le-leb (length ks) 4 l.few)) ∙ cond-true _ _ _ l.good
judged_is (Get true ks) l =
    cond-true _ _ _ (and_from _ _ (le-leb 1 (length ks) l.some) (le-leb (length ks) 4 l.few)) ∙ cond-true _ _ _ l.good
judged_is (Store Set i) l = item_is Set i l.1
judged_is (Store Add i) l = item_is Add i l.1
judged_is (Store Replace i) l = item_is Replace i l.1
judged_is (Store (Cas n) i) l =
    let number = number_decimal 20 18446744073709551615 n (omega arith) (omega (arith, l.0)) (omega (arith, l.0)) l.0 in
    ap (λ o. storage (cas_verb o) (item_tokens i (decimal n ∷ [])) (i.block ++ crlf)) number ∙ item_is (Cas n) i l.1
judged_is (Delete k) l = ap (λ o. given o (λ k. Asks (Delete k))) (key_is k l)
judged_is (Touch k e) l =
    ap (λ o. given o (λ k. given (exptime_of (signed_decimal e)) (λ e. Asks (Touch k e)))) (key_is k l.0)
    ∙ ap (λ o. given o (λ e. Asks (Touch k e))) (exptime_signed e l.1)
judged_is FlushAll l = refl
judged_is Version l = refl
judged_is Quit l = refl
judged_is Stats l = refl

pub reads_back : ReadsBack
reads_back c extra l fits =
    let ts = line_tokens c in
    let solid = tokens_solid c l in
    reading_is (spaced extra ts) (tail c) (plain_spaced extra ts solid) fits
    ∙ ap (λ us. judged us (tail c)) (tokens_spaced extra ts solid)
    ∙ judged_is c l
