-- What a caller of the writer cites: room for every reply that the table can give, and a reply made up of its lines.
use Rattle.std.proofs.Common.{◌≡◌, is_some, unwrap_or, ℕ, ◌<◌, ◌≤◌, Bool, true, false, Option, List, [], ◌∷◌, ◌++◌, length, take, drop, sym, ap, ◌∙◌, subst, arith}
use Rattle.std.specs.Bool.{then_some}
use Rattle.std.specs.List.{flat_map, AllByRecursion}
use Rattle.std.proofs.lemmas.List.{take-append-drop, flat_map_more}
use Rattle.replies.specs.declared.output.Writer.{Writer}
use Rattle.replies.specs.Reply.{Shown, Reply, Values}
use Rattle.replies.specs.Render.{render, value_lines, end_line}
use Rattle.replies.specs.Growth.{held, Room, Wrote, Replied}
use Rattle.replies.specs.Fair.{Fair, FairShown}
use Rattle.replies.proofs.Writes.{both, nothing}
use Rattle.replies.proofs.Fits.{value_short, values_short, every_reply_fits}

-- a writer at the start of a buffer that is large enough
pub record Fresh (u : Writer) : Type 0 where
  pub empty : u.len ≡ 0
  pub large : 18432 ≤ length (held u)

-- there is room for a whole reply
pub room_reply : (r : Reply) {u : Writer} → Fair r → Fresh u → Room (render r) u
room_reply r {u} fair start = omega (arith, every_reply_fits r fair, start.empty, start.large)

-- behind up to three records there is room for one more
pub room_value : (numbered : Bool) (xs : List Shown) (s : Shown) {u v : Writer} → length xs < 4 → AllByRecursion FairShown xs → FairShown s → Fresh u → Wrote (flat_map (value_lines numbered) xs) u v → Room (value_lines numbered s) v
room_value numbered xs s {u} {v} few fair one start p =
    let a = values_short numbered xs fair in
    let b = value_short numbered s one in
    omega (arith, start.empty, start.large, p.count, p.size)

-- behind up to four there is room for END
pub room_end : (numbered : Bool) (xs : List Shown) {u v : Writer} → length xs ≤ 4 → AllByRecursion FairShown xs → Fresh u → Wrote (flat_map (value_lines numbered) xs) u v → Room end_line v
room_end numbered xs {u} {v} few fair start p =
    let a = values_short numbered xs fair in
    omega (arith, start.empty, start.large, p.count, p.size)

-- the lines of a record as `Writer::value` is given it: with its cas number just where there is one
abbrev pub given_lines : Shown → Option ℕ → List ℕ
given_lines s cas = value_lines (is_some cas) (record { key = s.key; flags = s.flags; block = s.block; cas = unwrap_or cas 0 })

-- these are its lines in a get or a gets, where the number is given for gets
pub as_given : (numbered : Bool) (s : Shown) (cas : Option ℕ) → cas ≡ then_some numbered s.cas → given_lines s cas ≡ value_lines numbered s
as_given true s cas e = ap (given_lines s) e
as_given false s cas e = ap (given_lines s) e

-- no record is written yet
pub values_none : (numbered : Bool) (u : Writer) → Wrote (flat_map (value_lines numbered) []) u u
values_none numbered u = nothing u

-- one record more
pub values_more : (numbered : Bool) (xs : List Shown) (s : Shown) {u v w : Writer} → Wrote (flat_map (value_lines numbered) xs) u v → Wrote (value_lines numbered s) v w → Wrote (flat_map (value_lines numbered) (xs ++ (s ∷ []))) u w
values_more numbered xs s {u} {v} {w} p q =
    subst (λ bs. Wrote bs u w) (flat_map_more (value_lines numbered) [] xs s) (both p q)

-- the whole reply of a get
pub values_all : (numbered : Bool) (xs : List Shown) {u v w : Writer} → Wrote (flat_map (value_lines numbered) xs) u v → Wrote end_line v w → Wrote (render (Values numbered xs)) u w
values_all numbered xs p q = both p q

-- a reply that was written from the start of the buffer stands there before the old bytes
pub replied : (r : Reply) {u w : Writer} → u.len ≡ 0 → Wrote (render r) u w → Replied r w.len (held u) (held w)
replied r {u} {w} empty p =
    record {
      count = omega (arith, p.count, empty);
      whole =
          sym (take-append-drop w.len (held w))
          ∙ ap (λ front. front ++ drop w.len (held w)) (p.written ∙ ap (λ n. take n (held u) ++ render r) empty)
          ∙ ap (λ back. render r ++ back) p.rest;
    }
