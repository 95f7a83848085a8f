-- A sweep from the back of a list of sessions.
use Rattle.std.proofs.Common.{◌≡◌, ℕ, ◌+◌, ◌<◌, ◌≤◌, Bool, true, false, cond, not, leb, List, [], ◌∷◌, ◌++◌, map, length, get_or, Some, None, filter, sym, refl, ap, ◌∙◌, subst, ap₂, arith, length-append}
use Rattle.std.specs.List.{AllByRecursion}
use Rattle.std.proofs.lemmas.List.Elements.{filter-append}
use Rattle.std.proofs.ByRecursion.{all_kept_by, All-weaker}
use Rattle.std.proofs.lemmas.List.Filters.{length-filter_both}
use Rattle.std.proofs.lemmas.List.{map-append, append_assoc, append-nil, same_from_push}
use Rattle.std.proofs.lemmas.Bool.{lt-leb, le-leb, leb-false, not-true}
use Rattle.recency.specs.Numbers.{count, without}
use Rattle.recency.specs.Lists.{last, rearmost}
use Rattle.recency.proofs.Counts.{count_append, without_split}
use Rattle.recency.proofs.Links.{present_head}
use Rattle.model.specs.Calls.{Session, not_of, busy, idle_enough}
use Rattle.sessions.specs.Rows.{session, session_of, sessions_at}
use Rattle.sessions.specs.Orders.{Until, Descending, EndsBusy, LastIdle, Swept, OrderStays}
use Rattle.sessions.specs.declared.row.SessionRow.{SessionRow}

-- the last row of a list, and those in front of it
ahead_of_last : (x : ℕ) (xs : List ℕ) → (a : List ℕ) × (x ∷ xs ≡ a ++ last xs x ∷ [])
ahead_of_last x [] = ([], refl)
ahead_of_last x (y ∷ xs) = let s = ahead_of_last y xs in (x ∷ s.0, ap (λ ys. x ∷ ys) s.1)

pub at_rear : (ids : List ℕ) (i : ℕ) → Some i ≡ rearmost ids → (a : List ℕ) × (ids ≡ a ++ i ∷ [])
at_rear [] i e = let z : ◌≡◌ {A = ℕ} 0 1 = cc in absurd (omega arith)
at_rear (x ∷ xs) i e =
    let same : last xs x ≡ i = cc in
    let s = ahead_of_last x xs in
    (s.0, s.1 ∙ ap (λ k. s.0 ++ k ∷ []) same)

pub no_rear : (ids : List ℕ) → None ≡ rearmost ids → ids ≡ []
no_rear [] e = refl
no_rear (x ∷ xs) e = let z : ◌≡◌ {A = ℕ} 0 1 = cc in absurd (omega arith)

pub at_rear_once : (ids : List ℕ) (i : ℕ) → ((k : ℕ) → count k ids ≤ 1) → Some i ≡ rearmost ids → count i ids ≡ 1
at_rear_once ids i once e =
    let s = at_rear ids i e in
    omega (arith, once i, ap (count i) s.1, count_append i s.0 (i ∷ []), present_head i [])

-- nothing ends in a session
pub nothing_ends_busy : (now limit : ℕ) → EndsBusy now limit []
nothing_ends_busy now limit ys x e = let z = ap length e ∙ length-append ys (x ∷ []) in absurd (omega arith)

-- what the rows say, but for the last, and the last
module _ (rows : List SessionRow) (ids : List ℕ) (i : ℕ) (e : Some i ≡ rearmost ids) where
  pub rear_said : sessions_at rows ids ≡ sessions_at rows (at_rear ids i e).0 ++ get_or (map session_of rows) i (session 0 0) ∷ []
  rear_said = ap (sessions_at rows) (at_rear ids i e).1 ∙ map-append (λ k. get_or (map session_of rows) k (session 0 0)) (at_rear ids i e).0 (i ∷ [])

  pub rear_left : ((k : ℕ) → count k ids ≤ 1) → without i ids ≡ (at_rear ids i e).0
  rear_left once =
      let s = at_rear ids i e in
      ap (without i) s.1 ∙ without_split i s.0 [] (omega (arith, once i, ap (count i) s.1)) ∙ append-nil s.0

  pub rear_busy : (now limit : ℕ) → now < (get_or (map session_of rows) i (session 0 0)).last + limit → EndsBusy now limit (sessions_at rows ids)
  rear_busy now limit lt ys x same =
      let p = same_from_push (sessions_at rows (at_rear ids i e).0) ys (get_or (map session_of rows) i (session 0 0)) x (sym rear_said ∙ same) in
      ap (λ (y : Session). not (leb (y.last + limit) now)) (sym p.1) ∙ ap not (lt-leb ((get_or (map session_of rows) i (session 0 0)).last + limit) now lt)

  pub rear_idle : (now limit : ℕ) → (get_or (map session_of rows) i (session 0 0)).last + limit ≤ now → LastIdle now limit (sessions_at rows ids) (sessions_at rows (at_rear ids i e).0)
  rear_idle now limit le = (get_or (map session_of rows) i (session 0 0), rear_said, le-leb ((get_or (map session_of rows) i (session 0 0)).last + limit) now le)

-- a sweep of none, and one session further
pub swept_none : (now limit : ℕ) (xs : List Session) → Swept now limit xs 0 xs
swept_none now limit xs = ([], sym (append-nil xs), tt, refl)

pub swept_more : (now limit : ℕ) (xs ys zs : List Session) (n : ℕ) → Swept now limit xs n ys → LastIdle now limit ys zs → Swept now limit xs (n + 1) zs
swept_more now limit xs ys zs n s l =
    (l.0 ∷ s.0, s.1 ∙ ap (λ front. front ++ s.0) l.1 ∙ append_assoc zs (l.0 ∷ []) s.0, (l.2, s.2), omega (arith, s.3))

pub swept_count : (now limit : ℕ) (xs ys : List Session) (n : ℕ) → Swept now limit xs n ys → n + length ys ≡ length xs
swept_count now limit xs ys n s = omega (arith, s.3, ap length s.1, length-append ys s.0)

-- in a list that is in order, a busy session at the end leaves none idle
all_busy : (now limit : ℕ) (xs : List Session) → Descending xs → EndsBusy now limit xs → AllByRecursion (λ x. busy now limit x ≡ true) xs
all_busy now limit [] d e = tt
all_busy now limit (x ∷ []) d e = (e [] x refl, tt)
all_busy now limit (x ∷ y ∷ ys) d e =
    let rest = all_busy now limit (y ∷ ys) d.1 (λ front z same. e (x ∷ front) z (ap (λ zs. x ∷ zs) same)) in
    let later : now < y.last + limit = leb-false (y.last + limit) now (not-true (leb (y.last + limit) now) rest.0) in
    (ap not (lt-leb (x.last + limit) now (omega (arith, d.0.0))), rest)

all_kept : (p : Session → Bool) (xs : List Session) → AllByRecursion (λ x. p x ≡ true) xs → filter p xs ≡ xs
all_kept p [] h = refl
all_kept p (x ∷ xs) h = ap (λ b. cond b (x ∷ filter p xs) (filter p xs)) h.0 ∙ ap (λ ys. x ∷ ys) (all_kept p xs h.1)

none_kept : (now limit : ℕ) (xs : List Session) → AllByRecursion (λ x. idle_enough now limit x ≡ true) xs → filter (busy now limit) xs ≡ []
none_kept now limit [] h = refl
none_kept now limit (x ∷ xs) h =
    ap (λ b. cond (not b) (x ∷ filter (busy now limit) xs) (filter (busy now limit) xs)) h.0 ∙ none_kept now limit xs h.1

descending_front : (xs ys : List Session) → Descending (xs ++ ys) → Descending xs
descending_front [] ys d = tt
descending_front (x ∷ xs) ys d = (front xs d.0, descending_front xs ys d.1)
  where
    front : (zs : List Session) → Until x.last (zs ++ ys) → Until x.last zs
    front [] h = tt
    front (z ∷ zs) h = (h.0, front zs h.1)

-- so a sweep from the back that stops at the first busy session closes every idle one
module _ (now limit : ℕ) (xs ys : List Session) (n : ℕ) (s : Swept now limit xs n ys) (busy_end : EndsBusy now limit ys) (d : Descending xs) where
  pub swept_all : ys ≡ filter (busy now limit) xs
  swept_all =
      let ahead = all_kept (busy now limit) ys (all_busy now limit ys (descending_front ys s.0 (subst Descending s.1 d)) busy_end) in
      sym (ap (filter (busy now limit)) s.1 ∙ filter-append (busy now limit) ys s.0 ∙ ap₂ ◌++◌ ahead (none_kept now limit s.0 s.2) ∙ append-nil ys)

  pub swept_number : n ≡ length (filter (idle_enough now limit) xs)
  swept_number =
      omega (arith, swept_count now limit xs ys n s, ap length swept_all, length-filter_both (idle_enough now limit) (busy now limit) (λ _. refl) xs)

pub order_stays : OrderStays
order_stays =
    record {
      at_first = λ now. (tt, tt);
      served_now = λ caller now xs until d.
          let rest = all_kept_by (not_of caller) (λ x. x.last ≤ now) xs until in
          ((rest, descending_kept (not_of caller) xs d), (omega arith, rest));
      closed = λ kept now xs until d. (descending_kept kept xs d, all_kept_by kept (λ x. x.last ≤ now) xs until);
      later = λ now then xs le until. All-weaker (λ x. x.last ≤ now) (λ x. x.last ≤ then) (λ x h. omega (arith, h, le)) xs until;
    }
  where
    descending_kept : (p : Session → Bool) (xs : List Session) → Descending xs → Descending (filter p xs)
    descending_kept p [] d = tt
    descending_kept p (x ∷ xs) d = step (p x) (descending_kept p xs d.1) (all_kept_by p (λ y. y.last ≤ x.last) xs d.0)
      where
        step : (b : Bool) → Descending (filter p xs) → Until x.last (filter p xs) → Descending (cond b (x ∷ filter p xs) (filter p xs))
        step true r u = (u, r)
        step false r u = r
