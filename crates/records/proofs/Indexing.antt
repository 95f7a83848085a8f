-- The table holds the same rows where lists change only their order. Assumes nothing.
use Rattle.std.proofs.Common.{◌≡◌, ℕ, cond, eqb, get_or, sym, refl, ap, ◌∙◌, vec_items, ⊎_elim}
use mathlib.Core.Logic.{∥∥₁_map, ∥∥₁_elim, ∥∥₁_prop}
use Rattle.std.proofs.lemmas.Bool.{cases_eq, eq-eqb, ne_eqb}
use Rattle.recency.proofs.Columns.{column_of_rest}
use Rattle.chained.specs.Chains.{size}
use Rattle.chained.proofs.Sound.{holds_as}
use Rattle.slabs.specs.declared.slab.Slab.{Slab}
use Rattle.slabs.specs.Rows.{rest, rests}
use Rattle.slabs.specs.Lists.{held_of}
use Rattle.slabs.specs.Layouts.{class_at}
use Rattle.slabs.specs.Slabs.{Holds, rows_of, homes_of, layout}
use Rattle.records.specs.declared.records.Records.{Records}
use Rattle.records.specs.Indexes.{Indexes}
use Rattle.records.specs.Standing.{Standing}

-- the records are in order, by their type
pub standing : (t : Records) → ∥ Standing t ∥₁
standing t = ∥∥₁_elim t.sound ∥∥₁_prop (λ sound. ∥∥₁_map t.indexed (λ indexed. record { sound = sound; indexed = indexed }))

-- the rows hold the same records, with the same hashes, in the same chains
abbrev pub IndexesAs : Records → Slab → Type 0
IndexesAs t slab = ∥ Indexes (rows_of slab) (layout slab) t.table (vec_items t.heads) ∥₁

-- two tests that say the same
same_test : (a b c d : ℕ) → (a ≡ b → c ≡ d) → (c ≡ d → a ≡ b) → eqb a b ≡ eqb c d
same_test a b c d to from =
    ⊎_elim (λ e. eq-eqb a b e ∙ sym (eq-eqb c d (to e))) (λ ne. ne_eqb a b ne ∙ sym (ne_eqb c d (λ e. ne (from e)))) (cases_eq a b)

-- the same rows hold records, and their chains and hashes are as they were
pub reindexed_by : (t : Records) (slab : Slab) → rests (rows_of slab) ≡ rests (rows_of t.slab) → ((k : ℕ) → Holds slab k → Holds t.slab k) → ((k : ℕ) → Holds t.slab k → Holds slab k) → IndexesAs t slab
reindexed_by t slab same before after =
    let chains = column_of_rest rest (λ row. row.chain) (λ _. refl) (rows_of t.slab) (rows_of slab) same in
    let hashes = column_of_rest rest (λ row. row.tag.hash) (λ _. refl) (rows_of t.slab) (rows_of slab) same in
    ∥∥₁_map t.indexed (λ ix. record {
      ids = ix.ids;
      kept = holds_as (size t.table) ix.ids refl chains hashes ix.kept;
      exact = λ k. ix.exact k ∙ ap (λ b. cond b 1 0) (same_test (get_or (homes_of t.slab) k 0) (held_of (class_at (layout t.slab) k)) (get_or (homes_of slab) k 0) (held_of (class_at (layout slab) k)) (after k) (before k));
    })

pub reindexed : (t : Records) (slab : Slab) → rests (rows_of slab) ≡ rests (rows_of t.slab) → homes_of slab ≡ homes_of t.slab → layout slab ≡ layout t.slab → IndexesAs t slab
reindexed t slab same homes_are layout_is =
    reindexed_by t slab same
    (λ k h. ap (λ x. get_or x k 0) (sym homes_are) ∙ h ∙ ap (λ l. held_of (class_at l k)) layout_is)
    (λ k h. ap (λ x. get_or x k 0) homes_are ∙ h ∙ ap (λ l. held_of (class_at l k)) (sym layout_is))
