-- What a write of one row leaves of a table of rows that are held.
use Rattle.std.proofs.Common.{◌≡◌, ℕ, ◌<◌, List, ◌∷◌, map, length, get_or, set, sym, ap, ◌∙◌, subst, ⊎_elim, arith}
use lib.ListN.{length-map}
use Rattle.std.proofs.lemmas.List.{get_or-set_same, get_or-set_other}
use Rattle.std.proofs.lemmas.Bool.{cases_eq}
use Rattle.std.proofs.lemmas.Bool.Decides.{nat_tests}
use Rattle.recency.specs.Numbers.{count, without}
use Rattle.recency.proofs.Columns.{column_kept, column_set}
use Rattle.recency.proofs.Counts.{count_without}
use Rattle.chained.specs.Chains.{Keeps, Holds, size}
use Rattle.chained.specs.declared.table.Chains.{Chains}
use Rattle.linked_rows.specs.Registers.{Registered}

-- as many rows as before
pub even : {R X : Type 0} (f : R → X) (old new : List R) → map f new ≡ map f old → length new ≡ length old
even f old new rest = sym (length-map new f) ∙ ap length rest ∙ length-map old f

-- the marks of the rows held with one row more, and with one row less
pub marks_in : (marks ids : List ℕ) (i : ℕ) → i < length marks → count i ids ≡ 0 → ((k : ℕ) → count k ids ≡ get_or marks k 0) → (k : ℕ) → count k (i ∷ ids) ≡ get_or (set marks i 1) k 0
marks_in marks ids i lt out told k =
    ⊎_elim
    (λ (e : k ≡ i). let s = ap (λ x. get_or (set marks i 1) x 0) e ∙ get_or-set_same marks i 1 0 lt in let c = ap (λ x. count x ids) e in grind (arith, nat_tests))
    (λ (ne : k ≡ i → ⊥). let q = told k in let o = get_or-set_other marks i k 1 0 ne in grind (arith, nat_tests))
    (cases_eq k i)

pub marks_out : (marks ids : List ℕ) (i : ℕ) → i < length marks → ((k : ℕ) → count k ids ≡ get_or marks k 0) → (k : ℕ) → count k (without i ids) ≡ get_or (set marks i 0) k 0
marks_out marks ids i lt told k =
    ⊎_elim
    (λ (e : k ≡ i). let w = count_without k i ids in let s = ap (λ x. get_or (set marks i 0) x 0) e ∙ get_or-set_same marks i 0 0 lt in grind (arith, nat_tests))
    (λ (ne : k ≡ i → ⊥). let w = count_without k i ids in let q = told k in let o = get_or-set_other marks i k 0 0 ne in grind (arith, nat_tests))
    (cases_eq k i)

-- rows that were written by the table, and then marked
module _ {R : Type 0} (link_of hash_of mark_of : R → ℕ) (chains : Chains) (entries : ℕ) (heads : List ℕ) (rows one : List R) (i v : ℕ) (d row : R) (ids : List ℕ) where
  pub marked : i < length one → link_of row ≡ link_of (get_or one i d) → hash_of row ≡ hash_of (get_or one i d) → mark_of row ≡ v → Keeps link_of hash_of chains heads one ids → ((k : ℕ) → count k ids ≡ get_or (set (map mark_of rows) i v) k 0) → map mark_of one ≡ map mark_of rows → Registered link_of hash_of mark_of (record { chains = chains; entries = entries }) heads (set one i row) ids
  marked lt links hashes e h told marks =
      record {
        kept =
            subst (λ c. Holds (size chains) heads c (map hash_of (set one i row)) ids) (sym (column_kept link_of one i d row lt links))
            (subst (λ c. Holds (size chains) heads (map link_of one) c ids) (sym (column_kept hash_of one i d row lt hashes)) h);
        marks = λ k. told k ∙ ap (λ m. get_or (set m i v) k 0) (sym marks) ∙ ap (λ m. get_or m k 0) (sym (column_set mark_of one i row v e));
      }
