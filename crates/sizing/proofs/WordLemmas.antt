-- The first word of a line, and what follows it. Assumes nothing.
use Rattle.std.proofs.Common.{◌≡◌, ℕ, ◌+◌, ◌-◌, ◌<◌, ◌≤◌, Bool, true, false, not, cond, List, ◌∷◌, length, get_or, take, drop, refl, ap, ◌∙◌, arith}
use Rattle.std.specs.List.{prefix_len, position_or_len, position}
use Rattle.std.specs.Option.{unwrap_or}
use Rattle.std.proofs.lemmas.Bool.Decides.{nat_tests}
use Rattle.std.proofs.lemmas.List.{drop_all, drop_more, take_rest}
use Rattle.std.proofs.lemmas.List.Folds.{length-prefix_len}
use Rattle.std.proofs.lemmas.List.Recursion.{is_position_or_len}
use Rattle.std.proofs.lemmas.List.Sums.{prefix_len-le-length, prefix_len_stops}
use Rattle.sizing.specs.Words.{blank, in_run, past_blanks, first_word, after_word}

-- up to the first byte that passes, or to the end
pub to_first : (p : ℕ → Bool) (line : List ℕ) → unwrap_or (position p line) (length line) ≡ position_or_len p line
to_first p line =
    let bound = prefix_len-le-length (λ byte. not (p byte)) line in
    grind (arith, nat_tests)

-- the first byte that is no blank stands behind the blanks at the front
turned : (b : Bool) (n : ℕ) → cond b n 0 ≡ cond (not b) 0 n
turned true n = refl
turned false n = refl

pub past_run : (line : List ℕ) → prefix_len (in_run true) line ≡ position_or_len (in_run false) line
past_run = is_position_or_len (prefix_len (in_run true)) (in_run false) refl (λ byte line. turned (blank byte) (1 + prefix_len (in_run true) line))

-- the first word of a line, or what follows it: the part that is cut from the line without its blanks in front
pub cut_is : (cut : ℕ → List ℕ → List ℕ) (line part : List ℕ) (start end : ℕ) → start ≡ prefix_len (in_run true) line → end ≡ prefix_len (in_run false) (take (length line - start) (drop start line)) → part ≡ cut end (take (length line - start) (drop start line)) → part ≡ cut (prefix_len (in_run false) (past_blanks line)) (past_blanks line)
cut_is cut line part start end begins ends is =
    let tail : take (length line - start) (drop start line) ≡ past_blanks line = take_rest line start ∙ ap (λ n. drop n line) begins in
    cc

-- a line with another byte has a word
some : (line : List ℕ) → prefix_len (in_run true) line < length line → 0 < prefix_len (in_run false) (past_blanks line)
some line lt =
    let at = prefix_len (in_run true) line in
    let bare = prefix_len_stops (in_run true) line 0 lt in
    let next : past_blanks line ≡ get_or line at 0 ∷ drop (at + 1) line = drop_more line at 0 lt in
    rw next (rw bare (omega arith))

-- where there is a second word, there is a first
pub earlier : (line : List ℕ) → 0 < length (first_word (after_word line)) → 0 < length (first_word line)
earlier line second =
    let at = prefix_len (in_run true) line in
    let size = length-prefix_len (in_run false) (past_blanks line) in
    let none = λ (long : length line ≤ at). ap (λ l. length (first_word (drop (prefix_len (in_run false) l) l))) (drop_all at line long) in
    grind (arith, some line, none)
