-- A search of the table for a key finds the row of the record that is held under it. Assumes nothing.
use Rattle.std.proofs.Common.{◌≡◌, ℕ, Bool, true, false, cond, eqb, List, get_or, IfSome, Some, None, vec_items, Option, sym, refl, ap, ◌∙◌, subst, ⊎_elim, arith, MatchOption}
use mathlib.Core.HLevel.{⊥_prop}
use mathlib.Core.Logic.{∥∥₁_elim}
use Rattle.std.specs.Option.{option_map}
use Rattle.std.specs.List.{flat_map}
use Rattle.std.specs.Str.{bytes_eq}
use Rattle.std.proofs.lemmas.Bool.{cases_eq, both_ways, eq-eqb, ne_eqb, cond-true, cond-false}
use Rattle.recency.specs.Numbers.{count}
use Rattle.chained.specs.Chains.{Keeps}
use Rattle.chained.specs.Fnv.{fnv}
use Rattle.chained.specs.Keys.{HasKey, NoKey}
use Rattle.slabs.specs.declared.row.Row.{Row}
use Rattle.slabs.specs.declared.class.Stand.TheVariants.{Held}
use Rattle.slabs.specs.Rows.{blank}
use Rattle.slabs.specs.Lists.{held_of}
use Rattle.slabs.specs.Layouts as slab
use Rattle.slabs.specs.Layouts.{start}
use Rattle.slabs.specs.Records.{bytes_at}
use Rattle.slabs.specs.Slabs.{Holds, rows_of, homes_of, layout}
use Rattle.slabs.proofs.Ends.{class_is}
use Rattle.model.specs.Setup.{Setup}
use Rattle.model.specs.Records.{has_key}
use Rattle.model.specs.Store.{Class, first, records_of}
use Rattle.model.proofs.Held.{key_is, same_key}
use Rattle.records.specs.declared.records.Records.{Records}
use Rattle.records.specs.Reading.{record_at}
use Rattle.records.specs.Showing.{ShowsRecords}
use Rattle.records.proofs.Finds.{found_held, found_none}
use Rattle.records.proofs.Leaving.{names_on, on_named}
use Rattle.records.proofs.Telling.{at_column}

module _ (t : Records) (memory : List ℕ) (key : List ℕ) where
  abbrev rows : List Row
  rows = rows_of t.slab

  abbrev read_key : ℕ → Row → List ℕ
  read_key i row = bytes_at memory (start (layout t.slab) i) row.key_len

  -- what a search over these slots and rows answers
  abbrev Answer : List ℕ → List Row → Option ℕ → Type 0
  Answer hs rs r =
      (ids : List ℕ) → Keeps (λ row. row.chain) (λ row. row.tag.hash) t.table hs rs ids →
      MatchOption r (NoKey read_key (λ row. row.tag.hash) fnv rs ids key) (λ i. (count i ids ≡ 1) × HasKey read_key rs i key)

  abbrev Searched : Option ℕ → Type 0
  Searched r = Answer (vec_items t.heads) rows r

  -- slots and rows as they are lent
  pub lent_search : (hs : List ℕ) (rs : List Row) (r : Option ℕ) → hs ≡ vec_items t.heads → rs ≡ rows → Answer hs rs r → Searched r
  lent_search hs rs r eh er s = subst (λ h. Answer h rows r) eh (subst (λ x. Answer hs x r) er s)

  -- a row that the table holds holds a record
  holds_counted : (i : ℕ) (ids : List ℕ) → count i ids ≡ cond (eqb (get_or (homes_of t.slab) i 0) (held_of (slab.class_at (layout t.slab) i))) 1 0 → count i ids ≡ 1 → Holds t.slab i
  holds_counted i ids exact one =
      ⊎_elim (λ e. e) (λ ne. let z : count i ids ≡ 0 = exact ∙ cond-false _ 1 0 (ne_eqb _ _ ne) in absurd (omega arith)) (cases_eq (get_or (homes_of t.slab) i 0) (held_of (slab.class_at (layout t.slab) i)))

  counted_holds : (i : ℕ) (ids : List ℕ) → count i ids ≡ cond (eqb (get_or (homes_of t.slab) i 0) (held_of (slab.class_at (layout t.slab) i))) 1 0 → Holds t.slab i → count i ids ≡ 1
  counted_holds i ids exact h = exact ∙ cond-true _ 1 0 (eq-eqb _ _ h)

  pub searched_held : (r : Option ℕ) → Searched r → IfSome r (λ i. Holds t.slab i)
  searched_held None s = tt
  searched_held (Some i) s =
      ⊎_elim (λ e. e)
      (λ ne. absurd (∥∥₁_elim t.indexed ⊥_prop (λ ix. ne (holds_counted i ix.ids (ix.exact i) (s ix.ids ix.kept).0))))
      (cases_eq (get_or (homes_of t.slab) i 0) (held_of (slab.class_at (layout t.slab) i)))

  module _ (setup : Setup) (ks : List Class) (sh : ShowsRecords setup t.slab memory ks) where
    row_hash : (i : ℕ) → Holds t.slab i → (get_or rows i blank).tag.hash ≡ fnv (read_key i (get_or rows i blank))
    row_hash i h = sym (at_column (λ row. row.tag.hash) rows i) ∙ sh.hashed i h

    pub searched : (r : Option ℕ) → Searched r → first (has_key key) (flat_map records_of ks) ≡ option_map (λ i. record_at (layout t.slab) rows memory i) r
    searched None s =
        found_none setup ks sh.kept (layout t.slab) rows memory sh.lists sh.shown key
        (λ class i num on same.
        ∥∥₁_elim t.indexed ⊥_prop (λ ix.
        let home = names_on t.slab sh.lists sh.listed i (held_of class) (omega arith) on in
        let h : Holds t.slab i = home ∙ ap held_of (sym (class_is t.slab t.sound i class Held home)) in
        s ix.ids ix.kept i blank (counted_holds i ix.ids (ix.exact i) h) (row_hash i h) same))
    searched (Some i) s = by (bytes_eq key (record_at (layout t.slab) rows memory i).key) refl
      where
        by : (b : Bool) → bytes_eq key (record_at (layout t.slab) rows memory i).key ≡ b → first (has_key key) (flat_map records_of ks) ≡ Some (record_at (layout t.slab) rows memory i)
        by true e =
            let h = searched_held (Some i) s in
            subst (λ k. first (has_key k) (flat_map records_of ks) ≡ Some (record_at (layout t.slab) rows memory i)) (sym (key_is key _ e))
            (found_held setup ks sh.kept (layout t.slab) rows memory sh.lists sh.shown (slab.class_at (layout t.slab) i) (sh.classed i h) i (on_named t.slab sh.lists sh.listed i _ (omega arith) h))
        by false e =
            let here = (record_at (layout t.slab) rows memory i).key in
            absurd (∥∥₁_elim t.indexed ⊥_prop (λ ix. both_ways (bytes_eq key here) e (subst (λ k. bytes_eq k here ≡ true) ((s ix.ids ix.kept).1 blank) (same_key here))))
