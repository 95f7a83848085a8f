-- A row that is picked from a class's list holds the record that is so picked from the class. Assumes nothing.
use Rattle.std.proofs.Common.{◌≡◌, ℕ, List, map, get_or, IfSome, Some, None, Option, sym, refl, ap, ◌∙◌, ⊎_elim, arith}
use mathlib.Core.HLevel.{⊥_prop}
use mathlib.Core.Logic.{∥∥₁_elim}
use Rattle.std.specs.Option.{option_map}
use Rattle.std.proofs.lemmas.Bool.{cases_eq}
use Rattle.slabs.specs.declared.class.Stand.TheVariants.{Held}
use Rattle.slabs.specs.declared.slab.Slab.{Slab}
use Rattle.slabs.specs.Lists.{held_of}
use Rattle.slabs.specs.Layouts as slab
use Rattle.slabs.specs.Slabs.{Lists, Sound, Holds, rows_of, homes_of, layout}
use Rattle.slabs.proofs.Ends.{class_is}
use Rattle.model.specs.Setup.{Setup}
use Rattle.model.specs.Records.{Record}
use Rattle.model.specs.Sound.{Numbered}
use Rattle.model.specs.Store.{Class, class_at}
use Rattle.model.proofs.Held.{On}
use Rattle.records.specs.Reading.{record_at}
use Rattle.records.specs.Showing.{ShowsRecords}
use Rattle.records.proofs.Leaving.{names_on}

module _ (s : Slab) (sound : ∥ Sound s ∥₁) (class : ℕ) (pick : List ℕ → Option ℕ) (r : Option ℕ) (picked : (ls : ℕ → List ℕ) → Lists s ls → r ≡ pick (ls (held_of class))) where
  pub picked_held : ((ids : List ℕ) (i : ℕ) → Some i ≡ pick ids → On i ids) → IfSome r (λ i. Holds s i)
  picked_held on = by r refl
    where
      by : (o : Option ℕ) → o ≡ r → IfSome o (λ i. Holds s i)
      by None e = tt
      by (Some i) e =
          ⊎_elim (λ is. is)
          (λ ne.
          absurd (∥∥₁_elim sound ⊥_prop (λ z.
          let home = names_on s z.lists z.listed i (held_of class) (omega arith) (on (z.lists (held_of class)) i (e ∙ picked z.lists z.listed)) in
          ne (home ∙ ap held_of (sym (class_is s sound i class Held home))))))
          (cases_eq (get_or (homes_of s) i 0) (held_of (slab.class_at (layout s) i)))

  pub picked_shown : (choose : List Record → Option Record) (setup : Setup) (memory : List ℕ) (ks : List Class) → ((ids : List ℕ) → choose (map (record_at (layout s) (rows_of s) memory) ids) ≡ option_map (record_at (layout s) (rows_of s) memory) (pick ids)) → ShowsRecords setup s memory ks → Numbered setup class → choose (class_at class ks).records ≡ option_map (λ i. record_at (layout s) (rows_of s) memory i) r
  picked_shown choose setup memory ks same sh num =
      ap (λ k. choose k.records) (sh.shown class num.low num.high)
      ∙ same (sh.lists (held_of class))
      ∙ ap (option_map (record_at (layout s) (rows_of s) memory)) (sym (picked sh.lists sh.listed))
