-- Lists of rows under equations of their parts.
use Rattle.std.proofs.Common.{◌≡◌, ℕ, ◌<◌, List, map, length, get_or, set, refl, ap, ◌∙◌, arith}
use Rattle.std.proofs.lemmas.List.{get_or-set_same, get_or-set_other}
use Rattle.recency.specs.declared.RecencyList.{RecencyList}
use Rattle.recency.proofs.Known.{listed_as}
use Rattle.recency.proofs.Columns.{column_of_rest}
use Rattle.slabs.specs.declared.row.Row.{Row}
use Rattle.slabs.specs.declared.class.Stand.{Stand}
use Rattle.slabs.specs.declared.class.Stand.TheVariants.{Free, Granted, Held}
use Rattle.slabs.specs.Rows.{RowsRead, homes, rest, rests}
use Rattle.slabs.specs.Classes.{place}

pub place_few : (stand : Stand) → place stand < 3
place_few Free = omega arith
place_few Granted = omega arith
place_few Held = omega arith

-- the same ends over rows with the same links
pub reads_as : {old new : RecencyList} (rows rows' : List Row) (ids : List ℕ) → new ≡ old → map (λ row. row.next) rows' ≡ map (λ row. row.next) rows → map (λ row. row.prev) rows' ≡ map (λ row. row.prev) rows → RowsRead old rows ids → RowsRead new rows' ids
reads_as rows rows' ids e n p l = listed_as ids (ap (λ x. x.front) e) (ap (λ x. x.back) e) n p l

-- the element that was written
pub written_at : {X : Type 0} (xs : List X) (at k n : ℕ) (x d : X) → length xs ≡ n → at ≡ k → k < n → get_or (set xs at x) k d ≡ x
written_at xs at k n x d long e lt = ap (λ j. get_or (set xs j x) k d) e ∙ get_or-set_same xs k x d (omega arith)

-- and the others
pub written_off : {X : Type 0} (xs : List X) (at p k : ℕ) (x d : X) → at ≡ p → (k ≡ p → ⊥) → get_or (set xs at x) k d ≡ get_or xs k d
written_off xs at p k x d e ne = get_or-set_other xs at k x d (λ same. ne (same ∙ e))

abbrev bare : Row → Row
bare row = record { next = 0; prev = 0; home = row.home; chain = row.chain; key_len = row.key_len; data_len = row.data_len; tag = row.tag }

-- links alone were written
pub homes_of_bare : (rows rows' : List Row) → map bare rows' ≡ map bare rows → homes rows' ≡ homes rows
homes_of_bare rows rows' e = column_of_rest bare (λ row. row.home) (λ r. refl) rows rows' e

pub rests_of_bare : (rows rows' : List Row) → map bare rows' ≡ map bare rows → rests rows' ≡ rests rows
rests_of_bare rows rows' e = column_of_rest bare rest (λ r. refl) rows rows' e
