-- A set keeps the larger table above the smaller, and is stored there where the smaller stores it. Assumes nothing.
use Rattle.std.proofs.Common.{◌≡◌, ℕ, ◌+◌, ◌-◌, ◌*◌, ◌≤◌, true, false, length, get_or, Some, None, Option, sym, refl, ap, subst, subst₂, arith}
use Rattle.std.proofs.lemmas.Bool.{ltb-true, ltb-false, false≢true}
use Rattle.policy.specs.Meaning.{Meaning}
use Rattle.plan.specs.Classes.{chunks_of, size_at}
use Rattle.lines.specs.declared.Verb.TheVariants.{Set}
use Rattle.lines.specs.Command.{Item}
use Rattle.model.specs.Setup.{Setup}
use Rattle.model.specs.Records.{Record, other_key, class_no, class_for, number_or_0}
use Rattle.model.specs.Store.{Class, Store, Why, Replaced, Dropped, bare, held, has_room, grant, find, remove_any, link, numbered}
use Rattle.model.specs.Commands.{store_command, place, linked_or_not, fresh}
use Rattle.model.specs.Promises.{Planned, with_memory}
use Rattle.model.proofs.Sound.{Numbered, in_range}
use Rattle.model.proofs.Plans.{numbered_class}
use Rattle.model.proofs.Changes.{sound_changes, link_changes}
use Rattle.model.proofs.Within.{within_lost}
use Rattle.model.proofs.Same.{same_numbered, same_other}
use Rattle.model.proofs.Turns.{without, becomes_any}
use Rattle.model.proofs.Pairs.{Pair, Above, pair_front, pair_more, pairs_large, pairs_both}
use Rattle.model.proofs.Uses.{above_without, above_find}
use Rattle.model.proofs.Keyed.{Covered}
use Rattle.model.proofs.Grants.{GrantPair, granted_both}

-- the larger's class may take one record more than the smaller's
abbrev Slack : ℕ → Class → Class → Type 0
Slack per k l = length l.records + 1 + k.pages * per ≤ length k.records + l.pages * per

-- LINK

module _ (setup : Setup) (now : ℕ) (r : Record) (num : Numbered setup (class_no setup r)) (s t : Store) (rel : Above setup s t) where
  -- the new record's key is free in both tables
  clear_both : (why : Why) → Above setup (remove_any setup now why (held r.key s) s) (remove_any setup now Replaced (held r.key t) t)
  clear_both why = above_without setup now r.key s t rel why Replaced (held r.key s) (held r.key t) refl refl

  -- both tables link it
  link_both : has_room setup (class_no setup r) s ≡ true → has_room setup (class_no setup r) t ≡ true → Above setup (link setup now r s) (link setup now r t)
  link_both room_s room_t =
      let clear = clear_both Replaced in
      record {
        free = clear.free;
        pairs = pairs_both (λ i. Pair _ (chunks_of (get_or setup.sizes i 0))) _ _ (class_no setup r - 1) clear.pairs (in_range setup _ clear.large (class_no setup r) num) _ (in_range setup _ clear.small (class_no setup r) num) _
            (pair_front (clear.pairs (class_no setup r - 1)) (same_numbered (s.cas + 1) (t.cas + 1) r));
        small = sound_changes rel.small (link_changes setup s rel.small now r num room_s);
        large = sound_changes rel.large (link_changes setup t rel.large now r num room_t);
      }

  -- the smaller has no chunk for it and drops the old record of its key; the larger links it
  link_large : has_room setup (class_no setup r) s ≡ false → has_room setup (class_no setup r) t ≡ true → Above setup (remove_any setup now Dropped (held r.key s) s) (link setup now r t)
  link_large full room =
      let i = class_no setup r - 1 in
      let per = chunks_of (size_at setup.sizes (class_no setup r)) in
      let k = get_or s.classes i bare in
      let l = get_or t.classes i bare in
      let crowd = ltb-false _ _ full in
      let space = ltb-true _ _ room in
      let lost = within_lost (other_key r.key) (same_other r.key) (rel.pairs i).within in
      let slack : Slack per (without r.key k) (without r.key l) = omega arith in
      let clear = clear_both Dropped in
      let there = subst₂ (Slack per) (sym ((becomes_any setup s rel.small now Dropped r.key (held r.key s) refl).turned i)) (sym ((becomes_any setup t rel.large now Replaced r.key (held r.key t) refl).turned i)) slack in
      record {
        free = clear.free;
        pairs = pairs_large (λ i. Pair _ (chunks_of (get_or setup.sizes i 0))) _ _ i clear.pairs (in_range setup _ clear.large (class_no setup r) num) _
            (pair_more (clear.pairs i) (numbered (t.cas + 1) r) there);
        small = clear.small;
        large = sound_changes rel.large (link_changes setup t rel.large now r num room);
      }

-- SET

module _ (setup : Setup) (plan : Planned setup) (more limit : ℕ) (policy : Meaning) (now : ℕ) (item : Item) (s t : Store) (rel : Above setup s t) where
  drop_both : Above setup (remove_any setup now Dropped (held item.key s) s) (remove_any setup now Dropped (held item.key t) t)
  drop_both = above_without setup now item.key s t rel Dropped Dropped (held item.key s) (held item.key t) refl refl

  linked : Numbered setup (class_no setup (fresh now item)) → (x y : Option Store) → GrantPair setup (class_no setup (fresh now item)) s x y → Covered setup (linked_or_not setup now Set item x s) (linked_or_not (with_memory more limit setup) now Set item y t)
  linked num None None g = record { stores = drop_both; replies = λ h. absurd (false≢true h) }
  linked num None (Some v) g = record { stores = link_large setup now (fresh now item) num s v g.0 g.1 g.2; replies = λ h. absurd (false≢true h) }
  linked num (Some u) None g = absurd g
  linked num (Some u) (Some v) g = record { stores = link_both setup now (fresh now item) num u v g.0 g.1 g.2; replies = λ h. refl }

  placed : (o : Option ℕ) → class_for setup item.key item.block ≡ o → Covered setup (place setup policy now Set item o s) (place (with_memory more limit setup) policy now Set item o t)
  placed None e = record { stores = drop_both; replies = λ h. absurd (false≢true h) }
  placed (Some class) e =
      let is : class_no setup (fresh now item) ≡ class = ap number_or_0 e in
      let num = numbered_class setup item.key item.block class e in
      linked (subst (Numbered setup) (sym is) num) _ _
      (subst (λ c. GrantPair setup c s (grant setup policy now class s) (grant setup policy now class t)) (sym is) (granted_both setup plan class num s t rel policy now))

pub covered_set : (setup : Setup) → Planned setup → (more limit : ℕ) (policy : Meaning) (now : ℕ) (item : Item) (s t : Store) → Above setup s t → Covered setup (store_command setup policy now Set item s) (store_command (with_memory more limit setup) policy now Set item t)
covered_set setup plan more limit policy now item s t rel =
    placed setup plan more limit policy now item (find setup now item.key s) (find setup now item.key t) (above_find setup now item.key s t rel) (class_for setup item.key item.block) refl
