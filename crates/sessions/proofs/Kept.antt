-- What a write of a row's links, or of what it says, leaves of the rest.
use Rattle.std.proofs.Common.{◌≡◌, ℕ, ◌<◌, List, [], ◌∷◌, map, length, get_or, set, sym, refl, ap, ◌∙◌, arith}
use lib.ListN.{length-map}
use Rattle.std.proofs.lemmas.List.{map-set, get_or-map, set-get_or}
use Rattle.recency.specs.Numbers.{none, count}
use Rattle.recency.specs.Lists.{Reads}
use Rattle.recency.specs.declared.RecencyList.{RecencyList}
use Rattle.recency.proofs.Columns.{column_of_rest}
use Rattle.recency.proofs.Known.{listed_as}
use Rattle.recency.proofs.Steps.{in_range}
use Rattle.chained.specs.Chains.{Keeps, size}
use Rattle.chained.specs.declared.table.Chains.{Chains}
use Rattle.chained.proofs.Sound.{holds_as, rehashed}
use Rattle.model.specs.Calls.{Session}
use Rattle.sessions.specs.Rows.{session, session_of, unlisted, unsaid}
use Rattle.sessions.specs.declared.row.SessionRow.{SessionRow}

-- a row with nothing in it
abbrev pub blank : SessionRow
blank = record { caller = 0; last = 0; link = 0; next = 0; prev = 0 }

-- as many rows as before
pub even : {X : Type 0} (f : SessionRow → X) (old new : List SessionRow) → map f new ≡ map f old → length new ≡ length old
even f old new rest = sym (length-map new f) ∙ ap length rest ∙ length-map old f

-- a list does not see a write that leaves its links
pub reads_on : (f : SessionRow → SessionRow) → ((r : SessionRow) → r.next ≡ (f r).next) → ((r : SessionRow) → r.prev ≡ (f r).prev) → (list : RecencyList) (old new : List SessionRow) (ids : List ℕ) → map f new ≡ map f old → Reads (λ r. r.next) (λ r. r.prev) list old ids → Reads (λ r. r.next) (λ r. r.prev) list new ids
reads_on f nexts prevs list old new ids rest l =
    listed_as ids refl refl (column_of_rest f (λ r. r.next) nexts old new rest) (column_of_rest f (λ r. r.prev) prevs old new rest) l

-- a table does not see what a list writes
pub keeps_on : (callers : Chains) (slots : List ℕ) (old new : List SessionRow) (ids : List ℕ) → map unlisted new ≡ map unlisted old → Keeps (λ r. r.link) (λ r. r.caller) callers slots old ids → Keeps (λ r. r.link) (λ r. r.caller) callers slots new ids
keeps_on callers slots old new ids rest h =
    holds_as (size callers) ids refl (column_of_rest unlisted (λ r. r.link) (λ _. refl) old new rest) (column_of_rest unlisted (λ r. r.caller) (λ _. refl) old new rest) h

-- the callers of rows, by what the rows say
callers_said : (rows : List SessionRow) → map (λ r. r.caller) rows ≡ map (λ (x : Session). x.caller) (map session_of rows)
callers_said [] = refl
callers_said (r ∷ rows) = ap (λ ys. r.caller ∷ ys) (callers_said rows)

module _ (callers : Chains) (slots : List ℕ) (old new : List SessionRow) (ids : List ℕ) (i : ℕ) (x : Session) (said : map session_of new ≡ set (map session_of old) i x) (rest : map unsaid new ≡ map unsaid old) where
  callers_set : map (λ r. r.caller) new ≡ set (map (λ r. r.caller) old) i x.caller
  callers_set =
      callers_said new ∙ ap (map (λ (y : Session). y.caller)) said ∙ map-set (λ (y : Session). y.caller) (map session_of old) i x ∙ ap (λ ys. set ys i x.caller) (sym (callers_said old))

  -- a table does not see what is said in a row that it does not hold
  pub keeps_said : count i ids ≡ 0 → Keeps (λ r. r.link) (λ r. r.caller) callers slots old ids → Keeps (λ r. r.link) (λ r. r.caller) callers slots new ids
  keeps_said out h =
      holds_as (size callers) ids refl (column_of_rest unsaid (λ r. r.link) (λ _. refl) old new rest) callers_set
      (rehashed (size callers) slots (map (λ r. r.link) old) (map (λ r. r.caller) old) ids i x.caller out h)

  -- nor what is said in a row whose caller stays
  pub keeps_renewed : i < length old → (get_or (map session_of old) i (session 0 0)).caller ≡ x.caller → Keeps (λ r. r.link) (λ r. r.caller) callers slots old ids → Keeps (λ r. r.link) (λ r. r.caller) callers slots new ids
  keeps_renewed lt same h =
      let long : i < length (map session_of old) = omega (arith, length-map old session_of) in
      let here : get_or (map (λ r. r.caller) old) i 0 ≡ x.caller =
      ap (λ col. get_or col i 0) (callers_said old) ∙ get_or-map (λ (y : Session). y.caller) (map session_of old) i (session 0 0) 0 long ∙ same in
      let stays : map (λ r. r.caller) new ≡ map (λ r. r.caller) old =
      callers_set ∙ ap (λ v. set (map (λ r. r.caller) old) i v) (sym here) ∙ set-get_or (map (λ r. r.caller) old) i 0 in
      holds_as (size callers) ids refl (column_of_rest unsaid (λ r. r.link) (λ _. refl) old new rest) stays h

-- a row of a list is a row
pub listed_within : (list : RecencyList) (rows : List SessionRow) (ids : List ℕ) (i : ℕ) → Reads (λ r. r.next) (λ r. r.prev) list rows ids → count i ids ≡ 1 → i < length rows
listed_within list rows ids i l here = omega (arith, in_range (map (λ r. r.next) rows) ids none i l.nexts (omega arith), length-map rows (λ r. r.next))
