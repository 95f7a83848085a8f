-- What is shown, under equations of the memory, and what a search tells of it.
use Rattle.std.proofs.Common.{◌≡◌, ℕ, ◌+◌, ◌<◌, ◌≤◌, Bool, true, false, cond, eqb, ltb, leb, List, [], ◌∷◌, map, length, get_or, is_some, Some, None, filter, Option, Vec, sym, refl, ap, ◌∙◌, subst, ⊎_elim, arith, MatchOption}
use lib.ListN.{length-map}
use Rattle.std.specs.Vec.{with_items}
use Rattle.std.proofs.lemmas.List.{with_items_is}
use Rattle.std.proofs.lemmas.Bool.{cases_eq, eqb-false}
use Rattle.std.proofs.lemmas.Bool.Decides.{nat_tests}
use Rattle.recency.specs.Numbers.{count, without}
use Rattle.recency.specs.Lists.{foremost, rearmost}
use Rattle.recency.proofs.Links.{present_head}
use Rattle.refusals.specs.declared.Refusal.TheVariants as refusal
use Rattle.model.specs.Calls.{Session, of_caller, not_of, refuse_if}
use Rattle.model.specs.Store.{first}
use Rattle.sessions.specs.Admissions.{has_session, refuse_entry}
use Rattle.sessions.specs.Rows.{session, session_of, sessions_at, unchained}
use Rattle.sessions.specs.Orders.{Distinct, LastIdle}
use Rattle.sessions.specs.Rosters.{Placed, Shown}
use Rattle.sessions.proofs.Laying.{departed}
use Rattle.sessions.proofs.Sweeps.{at_rear, rear_idle, rear_left}
use Rattle.std.proofs.lemmas.List.{get_or-map}
use Rattle.chained.specs.Keys.{HasKey, NoKey}
use Rattle.chained.specs.Chains.{Keeps}
use Rattle.chained.specs.declared.table.Chains.{Chains}
use Rattle.recency.proofs.Columns.{column_of_rest}
use Rattle.sessions.proofs.Callers.{not_among}
use Rattle.sessions.proofs.Kept.{blank, even, reads_on, listed_within}
use Rattle.sessions.specs.declared.roster.Roster.{Roster}
use Rattle.sessions.specs.declared.row.SessionRow.{SessionRow}

pub placed_as : (roster : Roster) (ids free : List ℕ) {slots slots' : List ℕ} {rows rows' : List SessionRow} → slots' ≡ slots → rows' ≡ rows → Placed roster slots rows ids free → Placed roster slots' rows' ids free
placed_as roster ids free es er h = rw (es, er) h

pub shown_as : (roster : Roster) (xs : List Session) {slots slots' : List ℕ} {rows rows' : List SessionRow} → slots' ≡ slots → rows' ≡ rows → Shown roster slots rows xs → Shown roster slots' rows' xs
shown_as roster xs es er h = rw (es, er) h

-- the count is the number of sessions shown, and that is at most 64
pub shown_count : (roster : Roster) (slots : List ℕ) (rows : List SessionRow) (xs : List Session) → Shown roster slots rows xs → roster.count ≡ length xs
shown_count roster slots rows xs s = s.2.counted ∙ sym (length-map s.0 (λ k. get_or (map session_of rows) k (session 0 0))) ∙ ap length (sym s.3)

pub shown_few : (roster : Roster) (slots : List ℕ) (rows : List SessionRow) (xs : List Session) → Shown roster slots rows xs → length xs ≤ 64
shown_few roster slots rows xs s = omega (arith, shown_count roster slots rows xs s, s.2.counted, s.2.whole)

-- memory that was lent shows in its owner what it shows
pub shown_back : {Y Z : Type 0} (roster : Roster) (xs : List Session) (slots : Vec ℕ Y) (rows : Vec SessionRow Z) (ws : List ℕ) (rs : List SessionRow) → length ws ≡ slots.len → length rs ≡ rows.len → Shown roster ws rs xs → Shown roster (with_items slots ws).items (with_items rows rs).items xs
shown_back roster xs slots rows ws rs ls lr h = shown_as roster xs (with_items_is slots ws ls) (with_items_is rows rs lr) h

-- a row of a caller among the others is a session of that caller
has_one : (f : ℕ → Session) (c i : ℕ) (ids : List ℕ) → 0 < count i ids → (f i).caller ≡ c → is_some (first (of_caller c) (map f ids)) ≡ true
has_one f c i [] held of = absurd (omega arith)
has_one f c i (x ∷ ids) held of = go (eqb (f x).caller c) refl (λ h. has_one f c i ids h of)
  where
    go : (b : Bool) → eqb (f x).caller c ≡ b → (0 < count i ids → is_some (first (of_caller c) (map f ids)) ≡ true) → is_some (cond b (Some (f x)) (first (of_caller c) (map f ids))) ≡ true
    go true e r = refl
    go false e r =
        ⊎_elim
        (λ (same : i ≡ x). absurd (eqb-false (f x).caller c e (ap (λ k. (f k).caller) (sym same) ∙ of)))
        (λ (other : i ≡ x → ⊥). r (grind (arith, nat_tests)))
        (cases_eq i x)

pub found : (f : ℕ → Session) (c : ℕ) (ids : List ℕ) (r : Option ℕ) → MatchOption r (first (of_caller c) (map f ids) ≡ None) (λ i. (count i ids ≡ 1) × ((f i).caller ≡ c)) → is_some r ≡ is_some (first (of_caller c) (map f ids))
found f c ids None h = ap is_some (sym h)
found f c ids (Some i) h = sym (has_one f c i ids (omega (arith, h.0)) h.1)

pub not_found : (c : ℕ) (xs : List Session) → is_some (first (of_caller c) xs) ≡ false → first (of_caller c) xs ≡ None
not_found c xs e = go (first (of_caller c) xs) e
  where
    go : (o : Option Session) → is_some o ≡ false → o ≡ None
    go None e = refl
    go (Some x) e = let z : ◌≡◌ {A = ℕ} 0 1 = cc in absurd (omega arith)

-- a free row, and none
pub spare_once : (ids : List ℕ) (i : ℕ) → ((k : ℕ) → count k ids ≤ 1) → Some i ≡ foremost ids → count i ids ≡ 1
spare_once [] i once e = let z : ◌≡◌ {A = ℕ} 0 1 = cc in absurd (omega arith)
spare_once (x ∷ ids) i once e =
    let same : i ≡ x = cc in
    omega (arith, once i, ap (λ k. count k (x ∷ ids)) same, present_head x ids)

pub no_spare : (ids : List ℕ) → None ≡ foremost ids → length ids ≡ 0
no_spare [] e = refl
no_spare (x ∷ ids) e = let z : ◌≡◌ {A = ℕ} 0 1 = cc in absurd (omega arith)

-- why a caller is refused, by the three tests
pub verdict : (caller : ℕ) (xs : List Session) (large present full : Bool) → ltb 4194303 caller ≡ large → has_session caller xs ≡ present → leb 64 (length xs) ≡ full → refuse_entry caller xs ≡ refuse_if large refusal.CallerTooLarge (refuse_if present refusal.CallerOpen (refuse_if full refusal.SessionsFull None))
verdict caller xs large present full el eo ef =
    ap (λ b. refuse_if b refusal.CallerTooLarge (refuse_if (has_session caller xs) refusal.CallerOpen (refuse_if (leb 64 (length xs)) refusal.SessionsFull None))) el
    ∙ ap (λ b. refuse_if large refusal.CallerTooLarge (refuse_if b refusal.CallerOpen (refuse_if (leb 64 (length xs)) refusal.SessionsFull None))) eo
    ∙ ap (λ b. refuse_if large refusal.CallerTooLarge (refuse_if present refusal.CallerOpen (refuse_if b refusal.SessionsFull None))) ef

-- the session of a caller is left out of what is shown
pub shown_without : (new : Roster) (slots slots' : List ℕ) (rows rows' : List SessionRow) (roster : Roster) (i caller : ℕ) (xs : List Session) (s : Shown roster slots rows xs) → map session_of rows' ≡ map session_of rows → count i s.0 ≡ 1 → (get_or (map session_of rows) i (session 0 0)).caller ≡ caller → Placed new slots' rows' (without i s.0) (i ∷ s.1) → Shown new slots' rows' (filter (not_of caller) xs)
shown_without new slots slots' rows rows' roster i caller xs s said here of placed =
    (without i s.0, i ∷ s.1, placed, ap (filter (not_of caller)) s.3 ∙ sym (departed rows rows' i caller s.0 said of here s.2.distinct))

-- a row's caller, by the column of what rows say
module _ (roster : Roster) (slots : List ℕ) (rows : List SessionRow) (caller : ℕ) (ids free : List ℕ) (h : Placed roster slots rows ids free) where
  said : (i : ℕ) → count i ids ≡ 1 → (get_or (map session_of rows) i (session 0 0)).caller ≡ (get_or rows i blank).caller
  said i here = ap (λ x. x.caller) (get_or-map session_of rows i blank (session 0 0) (listed_within roster.open rows ids i h.laid.listed here))

  pub found_row : (r : Option ℕ) → MatchOption r (NoKey (λ _ (row : SessionRow). row.caller ∷ []) (λ row. row.caller) (λ key. get_or key 0 0) rows ids (caller ∷ [])) (λ i. (count i ids ≡ 1) × HasKey (λ _ (row : SessionRow). row.caller ∷ []) rows i (caller ∷ [])) → MatchOption r (first (of_caller caller) (sessions_at rows ids) ≡ None) (λ i. (count i ids ≡ 1) × ((get_or (map session_of rows) i (session 0 0)).caller ≡ caller))
  found_row None nobody =
      not_among (λ i. get_or (map session_of rows) i (session 0 0)) caller ids
      (λ k held e.
      let once : count k ids ≡ 1 = omega (arith, h.laid.listed.once k) in
      nobody k blank once refl (ap (λ x. x ∷ []) (sym (said k once) ∙ e)))
  found_row (Some i) found = (found.0, said i found.0 ∙ ap (λ key. get_or key 0 0) (found.1 blank))

-- the table of callers was written, and nothing else that is shown
pub shown_moved : (roster : Roster) (callers : Chains) (slots slots' : List ℕ) (rows rows' : List SessionRow) (xs : List Session) → map unchained rows' ≡ map unchained rows → length slots' ≡ length slots → ((ids : List ℕ) → Keeps (λ row. row.link) (λ row. row.caller) roster.callers slots rows ids → Keeps (λ row. row.link) (λ row. row.caller) callers slots' rows' ids) → Shown roster slots rows xs → Shown (record { «open» = roster.«open»; free = roster.free; callers = callers; count = roster.count }) slots' rows' xs
shown_moved roster callers slots slots' rows rows' xs rest long held s =
    let ids = s.0 in
    let free = s.1 in
    let h = s.2 in
    let told : sessions_at rows ids ≡ sessions_at rows' ids = ap (λ col. map (λ k. get_or col k (session 0 0)) ids) (sym (column_of_rest unchained session_of (λ _. refl) rows rows' rest)) in (
      ids,
      free,
      record {
        laid =
            record {
              listed = reads_on unchained (λ _. refl) (λ _. refl) roster.«open» rows rows' ids rest h.laid.listed;
              spare = reads_on unchained (λ _. refl) (λ _. refl) roster.free rows rows' free rest h.laid.spare;
              kept = held ids h.laid.kept;
              apart = h.laid.apart;
              all_rows = even unchained rows rows' rest ∙ h.laid.all_rows;
              all_slots = long ∙ h.laid.all_slots;
            };
        whole = h.whole;
        counted = h.counted;
        distinct = subst Distinct told h.distinct;
      },
      s.3 ∙ told,
    )

-- the row at the back is no longer a session, since it was idle long enough
pub shown_swept : (roster new : Roster) (slots slots' : List ℕ) (rows rows' : List SessionRow) (i second limit : ℕ) (xs : List Session) (s : Shown roster slots rows xs) (e : Some i ≡ rearmost s.0) → map session_of rows' ≡ map session_of rows → (get_or (map session_of rows) i (session 0 0)).last + limit ≤ second → Placed new slots' rows' (without i s.0) (i ∷ s.1) → (ys : List Session) × LastIdle second limit xs ys × Shown new slots' rows' ys
shown_swept roster new slots slots' rows rows' i second limit xs s e said due placed =
    let ids = s.0 in
    let ys = sessions_at rows (at_rear ids i e).0 in (
      ys,
      subst (λ zs. LastIdle second limit zs ys) (sym s.3) (rear_idle rows ids i e second limit due),
      (
        without i ids,
        i ∷ s.1,
        placed,
        ap (sessions_at rows) (sym (rear_left rows ids i e s.2.laid.listed.once)) ∙ ap (λ col. map (λ k. get_or col k (session 0 0)) (without i ids)) (sym said),
      ),
    )
