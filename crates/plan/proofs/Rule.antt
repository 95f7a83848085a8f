-- What follows from the rule of sizes. Assumes nothing.
use Rattle.std.proofs.Common.{◌≡◌, ℕ, zero, suc, ◌+◌, ◌-◌, ◌*◌, ◌<◌, ◌≤◌, Bool, true, false, cond, leb, List, [], ◌∷◌, ◌++◌, length, get_or, take, set, sym, refl, ap, ◌∙◌, subst, append_assoc, mul-le-mul_left, arith, length-append, length-set, length-take-le}
use Rattle.std.proofs.lemmas.List.{take_more_set}
use Rattle.std.proofs.lemmas.Bool.{leb-true, leb-false, le-leb, lt-leb, and_parts, and_from, and_left, and_right, cond-true, cond-false}
use Rattle.std.proofs.lemmas.Bool.Decides.{nat_tests}
use Rattle.plan.specs.Sizes.{page, next_size, Follows, ends, goes, sizes_from, sizes_of, fair_start, lawful, Refused}
use Rattle.plan.specs.Plans.{Rises}

-- sizes grow
pub grows : (percent size : ℕ) → 110 ≤ percent → 48 ≤ size → size < next_size percent size
grows percent size p s = let m : size * 110 ≤ size * percent = mul-le-mul_left size p in omega arith

-- what comes after a size, where that many sizes may still come
abbrev pub rest_from : ℕ → ℕ → ℕ → List ℕ
rest_from percent size n = cond (leb size 2048) (sizes_from percent size n) (page ∷ [])

-- a list that was not cut follows the rule
rule_at : (percent size n : ℕ) (b : Bool) (more : List ℕ) → leb (next_size percent size) 2048 ≡ b → (length more < n → Follows percent (next_size percent size) more) → suc (length (cond b more (page ∷ []))) < suc n → Follows percent size (size ∷ cond b more (page ∷ []))
rule_at percent size n true more e rec h = goes (leb-true _ _ e) (rec (omega arith))
rule_at percent size n false more e rec h = ends (leb-false _ _ e)

pub by_rule : (n percent size : ℕ) → length (sizes_from percent size n) < n → Follows percent size (sizes_from percent size n)
by_rule zero percent size h = absurd (omega arith)
by_rule (suc n) percent size h = rule_at percent size n _ _ refl (by_rule n percent (next_size percent size)) h

-- no list that follows the rule is shorter than one that was cut
pub no_shorter : {percent size : ℕ} {sizes : List ℕ} → Follows percent size sizes → (n : ℕ) → length (sizes_from percent size n) ≤ length sizes
no_shorter (ends h) zero = omega arith
no_shorter {percent} {size} (ends h) (suc n) = rw (lt-leb (next_size percent size) 2048 h) (omega arith)
no_shorter (goes h more) zero = omega arith
no_shorter {percent} {size} (goes h more) (suc n) =
    let shorter = no_shorter more n in rw (le-leb (next_size percent size) 2048 h) (omega arith)

-- every size is at least the first
pub above : {percent size : ℕ} {sizes : List ℕ} → 110 ≤ percent → 48 ≤ size → size ≤ 2048 → Follows percent size sizes → (j : ℕ) → j < length sizes → size ≤ get_or sizes j 0
above p s l (ends h) zero lt = omega arith
above p s l (ends h) (suc zero) lt = omega arith
above p s l (ends h) (suc (suc j)) lt = absurd (omega arith)
above p s l (goes h more) zero lt = omega arith
above {percent} {size} p s l (goes h more) (suc j) lt =
    let g = grows percent size p s in
    let a : next_size percent size ≤ get_or _ j 0 = above p (omega arith) h more j (omega arith) in
    omega arith

pub rises : {percent size : ℕ} {sizes : List ℕ} → 110 ≤ percent → 48 ≤ size → size ≤ 2048 → Follows percent size sizes → Rises sizes
rises p s l (ends h) zero zero lt in_List = absurd (omega arith)
rises p s l (ends h) zero (suc zero) lt in_List = omega arith
rises p s l (ends h) zero (suc (suc j)) lt in_List = absurd (omega arith)
rises p s l (ends h) (suc i) zero lt in_List = absurd (omega arith)
rises p s l (ends h) (suc i) (suc zero) lt in_List = absurd (omega arith)
rises p s l (ends h) (suc i) (suc (suc j)) lt in_List = absurd (omega arith)
rises p s l (goes h more) zero zero lt in_List = absurd (omega arith)
rises {percent} {size} p s l (goes h more) zero (suc j) lt in_List =
    let g = grows percent size p s in
    let a : next_size percent size ≤ get_or _ j 0 = above p (omega arith) h more j (omega arith) in
    omega arith
rises p s l (goes h more) (suc i) zero lt in_List = absurd (omega arith)
rises {percent} {size} p s l (goes h more) (suc i) (suc j) lt in_List =
    let g = grows percent size p s in rises p (omega arith) h more i j (omega arith) (omega arith)

not_none : {percent size : ℕ} {sizes : List ℕ} → Follows percent size sizes → 0 < length sizes
not_none (ends h) = omega arith
not_none (goes h more) = omega arith

-- the last class has whole pages
last_page : {percent size : ℕ} {sizes : List ℕ} → Follows percent size sizes → (n : ℕ) → length sizes ≡ suc n → get_or sizes n 0 ≡ page
last_page (ends h) zero e = absurd (omega arith)
last_page (ends h) (suc zero) e = refl
last_page (ends h) (suc (suc n)) e = absurd (omega arith)
last_page (goes h (ends k)) zero e = absurd (omega arith)
last_page (goes h (goes k more)) zero e = absurd (omega arith)
last_page (goes h more) (suc n) e = last_page more n (omega arith)

pub last_is : {percent size : ℕ} {sizes : List ℕ} → Follows percent size sizes → get_or sizes (length sizes - 1) 0 ≡ page
last_is (ends h) = refl
last_is (goes h more) = last_page (goes h more) _ (omega arith)

-- a start that is fair, in plain numbers
pub record Start (first percent : ℕ) : Type 0 where
  pub low : 48 ≤ first
  pub high : first ≤ 1024
  pub least : 110 ≤ percent
  pub most : percent ≤ 200

pub start : (first percent : ℕ) → fair_start first percent ≡ true → Start first percent
start first percent e =
    record {
      low = grind (arith, nat_tests);
      high = grind (arith, nat_tests);
      least = grind (arith, nat_tests);
      most = grind (arith, nat_tests);
    }

sizes_is : (first percent : ℕ) → sizes_from percent first 33 ≡ sizes_of first percent
unfolding sizes_of
sizes_is first percent = refl

pub few_classes : (first percent : ℕ) → lawful first percent ≡ true → length (sizes_of first percent) ≤ 32
few_classes first percent e = leb-true (length (sizes_of first percent)) 32 (and_parts (fair_start first percent) (leb (length (sizes_of first percent)) 32) e).1

-- the sizes of a lawful plan follow the rule
pub lawful_follows : (first percent : ℕ) → lawful first percent ≡ true → Follows percent first (sizes_of first percent)
lawful_follows first percent e =
    let few = few_classes first percent e in
    let is = ap length (sizes_is first percent) in
    subst (Follows percent first) (sizes_is first percent) (by_rule 33 percent first (omega arith))

pub lawful_start : (first percent : ℕ) → lawful first percent ≡ true → Start first percent
lawful_start first percent e = start first percent (and_parts (fair_start first percent) (leb (length (sizes_of first percent)) 32) e).0

-- and are at least 48
pub least_size : (first percent : ℕ) → lawful first percent ≡ true → (k : ℕ) → k < length (sizes_of first percent) → 48 ≤ get_or (sizes_of first percent) k 0
least_size first percent e k lt =
    let s = lawful_start first percent e in
    let a = above s.least s.low (omega arith) (lawful_follows first percent e) k lt in
    omega arith

-- the list of sizes so far, and what is still to come
pub rest_more : (percent size n : ℕ) → size ≤ 2048 → 0 < n → rest_from percent size n ≡ size ∷ rest_from percent (next_size percent size) (n - 1)
rest_more percent size zero low more = absurd (omega arith)
rest_more percent size (suc n) low more =
    let back : suc n - 1 ≡ n = omega arith in rw (le-leb size 2048 low, back)

pub rest_some : (percent size n : ℕ) → 0 < n → 0 < length (rest_from percent size n)
rest_some percent size zero more = absurd (omega arith)
rest_some percent size (suc n) more =
    elim (leb size 2048) as (λ b. 0 < length (cond b (sizes_from percent size (suc n)) (page ∷ []))) [ true ↦ omega arith | false ↦ omega arith ]

-- one size more was written
pub one_written : (all sizes : List ℕ) (percent size next k : ℕ) → all ≡ take k sizes ++ rest_from percent size (33 - k) → length sizes ≡ 32 → k < 32 → size ≤ 2048 → next ≡ next_size percent size → all ≡ take (k + 1) (set sizes k size) ++ rest_from percent next (33 - (k + 1))
one_written all sizes percent size next k e long lt low is =
    let back : 33 - k - 1 ≡ 33 - (k + 1) = omega arith in
    let rest : rest_from percent size (33 - k) ≡ size ∷ rest_from percent next (33 - (k + 1)) =
    rest_more percent size (33 - k) low (omega arith) ∙ ap (λ n. size ∷ rest_from percent (next_size percent size) n) back ∙ ap (λ n. size ∷ rest_from percent n (33 - (k + 1))) (sym is) in
    e
    ∙ ap (λ l. take k sizes ++ l) rest
    ∙ sym (append_assoc (take k sizes) (size ∷ []) (rest_from percent next (33 - (k + 1))))
    ∙ ap (λ l. l ++ rest_from percent next (33 - (k + 1))) (sym (take_more_set sizes k size (omega arith)))

-- a fair start whose sizes are too many
pub refused_long : (first percent : ℕ) → 32 < length (sizes_of first percent) → Refused first percent
refused_long first percent long =
    let is = ap length (sizes_is first percent) in
    record {
      unlawful = and_right (fair_start first percent) _ (lt-leb (length (sizes_of first percent)) 32 long);
      too_long = λ _ sizes by. let shorter = no_shorter by 33 in omega arith;
    }

pub refused_start : (first percent : ℕ) → fair_start first percent ≡ false → Refused first percent
refused_start first percent e =
    record {
      unlawful = and_left _ _ e;
      too_long = λ fair. absurd cc;
    }

pub lawful_short : (first percent : ℕ) → fair_start first percent ≡ true → length (sizes_of first percent) ≤ 32 → lawful first percent ≡ true
lawful_short first percent fair few = and_from _ _ fair (le-leb _ _ few)

-- what a lawful plan is, by its list of sizes
pub record Lists (first percent : ℕ) (sizes : List ℕ) : Type 0 where
  pub by_rule : Follows percent first sizes
  pub some : 0 < length sizes
  pub few : length sizes ≤ 32
  pub rising : Rises sizes
  pub last : get_or sizes (length sizes - 1) 0 ≡ page

lists_of : (first percent : ℕ) → lawful first percent ≡ true → Lists first percent (sizes_of first percent)
lists_of first percent e =
    let s = lawful_start first percent e in
    let follows = lawful_follows first percent e in
    record {
      by_rule = follows;
      some = not_none follows;
      few = few_classes first percent e;
      rising = rises s.least s.low (omega arith) follows;
      last = last_is follows;
    }

pub lists : (first percent : ℕ) (sizes : List ℕ) → lawful first percent ≡ true → sizes ≡ sizes_of first percent → Lists first percent sizes
lists first percent sizes e is = subst (Lists first percent) (sym is) (lists_of first percent e)

pub starts_whole : (first percent : ℕ) → fair_start first percent ≡ true → sizes_of first percent ≡ rest_from percent first 33
unfolding sizes_of
starts_whole first percent e =
    let s = start first percent e in
    sym (cond-true (leb first 2048) (sizes_from percent first 33) (page ∷ []) (le-leb first 2048 (omega arith)))

-- all sizes were written
pub record Finished (first percent : ℕ) (sizes : List ℕ) : Type 0 where
  pub lawfully : lawful first percent ≡ true
  pub is : sizes ≡ sizes_of first percent

pub finished : (first percent size count : ℕ) (sizes : List ℕ) → fair_start first percent ≡ true → sizes_of first percent ≡ take count sizes ++ rest_from percent size (33 - count) → length sizes ≡ 32 → count < 32 → 2048 < size → Finished first percent (take (count + 1) (set sizes count page))
finished first percent size count sizes fair so_far long few large =
    let written = take_more_set sizes count page (omega arith) in
    let rest : rest_from percent size (33 - count) ≡ page ∷ [] = cond-false (leb size 2048) _ _ (lt-leb size 2048 large) in
    let whole : take (count + 1) (set sizes count page) ≡ sizes_of first percent = written ∙ ap (λ l. take count sizes ++ l) (sym rest) ∙ sym so_far in
    let front = length-take-le (count + 1) (set sizes count page) (rw length-set (omega arith)) in
    let same = ap length whole in
    record { lawfully = lawful_short first percent fair (omega arith); is = whole }

-- a full plan to which the last class is still to come
pub overfull : (first percent size : ℕ) (sizes : List ℕ) → sizes_of first percent ≡ take 32 sizes ++ rest_from percent size 1 → length sizes ≡ 32 → 32 < length (sizes_of first percent)
overfull first percent size sizes e long =
    let front = length-take-le 32 sizes (omega arith) in
    let more = rest_some percent size 1 (omega arith) in
    omega (arith, ap length e ∙ length-append (take 32 sizes) (rest_from percent size 1))
