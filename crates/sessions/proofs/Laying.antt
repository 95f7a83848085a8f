-- What stays laid where a row is written, and what the rows then say.
use Rattle.std.proofs.Common.{◌≡◌, ℕ, ◌+◌, ◌<◌, ◌≤◌, List, ◌∷◌, ◌++◌, map, length, get_or, set, None, filter, sym, refl, ap, ◌∙◌, arith, length-append}
use lib.ListN.{length-map}
use Rattle.recency.specs.Numbers.{count, without}
use Rattle.recency.proofs.Counts.{split, without_split, count_left_out}
use Rattle.chained.specs.Chains.{Keeps}
use Rattle.chained.specs.declared.table.Chains.{Chains}
use Rattle.model.specs.Calls.{Session, of_caller, not_of, served}
use Rattle.model.specs.Store.{first}
use Rattle.sessions.specs.Rows.{session, session_of, sessions_at, unsaid}
use Rattle.sessions.specs.Orders.{Distinct}
use Rattle.sessions.specs.Rosters.{Laid}
use Rattle.sessions.specs.declared.roster.Roster.{Roster}
use Rattle.sessions.specs.declared.row.SessionRow.{SessionRow}
use Rattle.sessions.proofs.Callers.{absent, left_out, said_in_front}
use Rattle.sessions.proofs.Kept.{even, reads_on, keeps_said, keeps_renewed}

-- a list with one row less
pub shorter : (i : ℕ) (ids : List ℕ) → count i ids ≡ 1 → length (without i ids) + 1 ≡ length ids
shorter i ids here = go (split i ids (omega arith))
  where
    go : (a : List ℕ) × (b : List ℕ) × (ids ≡ a ++ i ∷ b) → length (without i ids) + 1 ≡ length ids
    go s =
        let h : count i (s.0 ++ i ∷ s.1) ≤ 1 = omega (arith, ap (count i) s.2) in
        let left : length (without i ids) ≡ length (s.0 ++ s.1) = ap (λ ys. length (without i ys)) s.2 ∙ ap length (without_split i s.0 s.1 h) in
        omega (arith, left, ap length s.2, length-append s.0 s.1, length-append s.0 (i ∷ s.1))

-- the number of sessions is the owner's own, and the table may grow
pub laid_again : (roster : Roster) (callers : Chains) (n : ℕ) (slots : List ℕ) (rows : List SessionRow) (ids free : List ℕ) → Laid roster slots rows ids free → Keeps (λ r. r.link) (λ r. r.caller) callers slots rows ids → Laid (record { «open» = roster.open; free = roster.free; callers = callers; count = n }) slots rows ids free
laid_again roster callers n slots rows ids free h kept =
    record { listed = h.listed; spare = h.spare; kept = kept; apart = h.apart; all_rows = h.all_rows; all_slots = h.all_slots }

module _ (roster : Roster) (slots : List ℕ) (old new : List SessionRow) (ids free : List ℕ) (i : ℕ) (x : Session) (said : map session_of new ≡ set (map session_of old) i x) (rest : map unsaid new ≡ map unsaid old) where
  told : Laid roster slots old ids free → Keeps (λ r. r.link) (λ r. r.caller) roster.callers slots new ids → Laid roster slots new ids free
  told h kept =
      record {
        listed = reads_on unsaid (λ _. refl) (λ _. refl) roster.open old new ids rest h.listed;
        spare = reads_on unsaid (λ _. refl) (λ _. refl) roster.free old new free rest h.spare;
        kept = kept;
        apart = h.apart;
        all_rows = even unsaid old new rest ∙ h.all_rows;
        all_slots = h.all_slots;
      }

  -- what a row that is not open says is its own affair
  pub laid_said : count i ids ≡ 0 → Laid roster slots old ids free → Laid roster slots new ids free
  laid_said out h = told h (keeps_said roster.callers slots old new ids i x said rest out h.kept)

  -- and so is what a row says but for its caller
  pub laid_renewed : i < length old → (get_or (map session_of old) i (session 0 0)).caller ≡ x.caller → Laid roster slots old ids free → Laid roster slots new ids free
  laid_renewed lt same h = told h (keeps_renewed roster.callers slots old new ids i x said rest lt same h.kept)

module _ (old new : List SessionRow) (i caller second : ℕ) (ids : List ℕ) (lt : i < length old) where
  -- in front of the others, a row says what was written into it
  in_front : map session_of new ≡ set (map session_of old) i (session caller second) → count i ids ≡ 0 → sessions_at new (i ∷ ids) ≡ session caller second ∷ sessions_at old ids
  in_front said out =
      ap (λ col. map (λ k. get_or col k (session 0 0)) (i ∷ ids)) said
      ∙ said_in_front (map session_of old) i (session caller second) (session 0 0) ids (omega (arith, length-map old session_of)) out

  pub entered : map session_of new ≡ set (map session_of old) i (session caller second) → count i ids ≡ 0 → first (of_caller caller) (sessions_at old ids) ≡ None → sessions_at new (i ∷ ids) ≡ served caller second (sessions_at old ids)
  entered said out none = in_front said out ∙ ap (λ ys. session caller second ∷ ys) (sym (absent caller (sessions_at old ids) none))

-- without the row of a caller
pub departed : (old new : List SessionRow) (i caller : ℕ) (ids : List ℕ) → map session_of new ≡ map session_of old → (get_or (map session_of old) i (session 0 0)).caller ≡ caller → count i ids ≡ 1 → Distinct (sessions_at old ids) → sessions_at new (without i ids) ≡ filter (not_of caller) (sessions_at old ids)
departed old new i caller ids said of here d =
    ap (λ col. map (λ k. get_or col k (session 0 0)) (without i ids)) said
    ∙ left_out (λ k. get_or (map session_of old) k (session 0 0)) i caller of ids here d

pub renewed : (old new : List SessionRow) (i caller second : ℕ) (ids : List ℕ) → i < length old → map session_of new ≡ set (map session_of old) i (session caller second) → (get_or (map session_of old) i (session 0 0)).caller ≡ caller → count i ids ≡ 1 → Distinct (sessions_at old ids) → sessions_at new (i ∷ without i ids) ≡ served caller second (sessions_at old ids)
renewed old new i caller second ids lt said of here d =
    in_front old new i caller second (without i ids) lt said (count_left_out i ids)
    ∙ ap (λ ys. session caller second ∷ ys) (departed old old i caller ids refl of here d)
