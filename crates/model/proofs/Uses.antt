-- A search by key, a removal by key and a use keep the larger table above the smaller. Assumes nothing.
use Rattle.std.proofs.Common.{◌≡◌, ℕ, ◌-◌, ◌<◌, Bool, true, false, cond, List, length, get_or, set, Some, None, Option, refl, subst, subst₂, arith}
use Rattle.policy.specs.Meaning.{Meaning}
use Rattle.plan.specs.Classes.{chunks_of}
use Rattle.model.specs.Setup.{Setup}
use Rattle.model.specs.Records.{Key, Record, dead, has_key, class_no, moved_at}
use Rattle.model.specs.Store.{Class, Store, Why, Expired, bare, everything, held, if_dead, find, remove_any, to_front, use_record}
use Rattle.model.proofs.Held.{count, length_other}
use Rattle.model.proofs.Sound.{Lives, in_range, own_key, sound_front}
use Rattle.model.proofs.Within.{Met}
use Rattle.model.proofs.Same.{Same, same_class, same_dead, same_moved}
use Rattle.model.proofs.Turns.{without, without_local, class_count, becomes_any}
use Rattle.model.proofs.Pairs.{Pair, Pairs, Rel, Above, in_front, keeps_without, pair_front, pair_more, pairs_large, pairs_both, rel_becomes, met}

-- FIND

module _ (setup : Setup) (now : ℕ) (key : Key) (s t : Store) (rel : Above setup s t) where
  -- the key's record leaves both tables, where there is one
  pub above_without : (v w : Why) (o q : Option Record) → held key s ≡ o → held key t ≡ q → Above setup (remove_any setup now v o s) (remove_any setup now w q t)
  above_without v w o q e f =
      subst₂ (λ m n. Rel setup m n (remove_any setup now v o s).classes (remove_any setup now w q t).classes) (free_any v s o) (free_any w t q)
      (rel_becomes rel (without key) (keeps_without key) (becomes_any setup s rel.small now v key o e) (becomes_any setup t rel.large now w key q f))
    where
      free_any : (why : Why) (u : Store) (o : Option Record) → u.free ≡ (remove_any setup now why o u).free
      free_any why u None = refl
      free_any why u (Some r) = refl

  -- the larger alone finds a record; both find one
  if_none : (y : Record) → held key s ≡ None → held key t ≡ Some y → (b : Bool) → Above setup s (remove_any setup now Expired (cond b (Some y) None) t)
  if_none y e f true = above_without Expired Expired None (Some y) e f
  if_none y e f false = rel

  if_both : (x y : Record) → held key s ≡ Some x → held key t ≡ Some y → (b : Bool) → Above setup (remove_any setup now Expired (cond b (Some x) None) s) (remove_any setup now Expired (cond b (Some y) None) t)
  if_both x y e f true = above_without Expired Expired (Some x) (Some y) e f
  if_both x y e f false = rel

  find_by : (o q : Option Record) → held key s ≡ o → held key t ≡ q → Met Same o q → Above setup (remove_any setup now Expired (if_dead now o) s) (remove_any setup now Expired (if_dead now q) t)
  find_by None None e f m = rel
  find_by None (Some y) e f m = if_none y e f (dead now y)
  find_by (Some x) None e f m = absurd m
  find_by (Some x) (Some y) e f m = rw (same_dead now x y m) (if_both x y e f (dead now y))

  pub above_find : Above setup (find setup now key s) (find setup now key t)
  above_find = find_by (held key s) (held key t) refl refl (met s t rel key)

-- USE

-- a record of one key goes to the front of its class in both tables
pairs_front : (setup : Setup) (m c d : ℕ) (kx ky : Key) (x y : Record) (ks ls : List Class) → c ≡ d → kx ≡ ky → Same x y → Pairs setup m ks ls → c - 1 < length ks → c - 1 < length ls
    → Pairs setup m (set ks (c - 1) (in_front x (without kx (get_or ks (c - 1) bare)))) (set ls (d - 1) (in_front y (without ky (get_or ls (d - 1) bare))))
pairs_front setup m c d kx ky x y ks ls ec ek same pairs lt lt' =
    subst₂ (λ d ky. Pairs setup m (set ks (c - 1) (in_front x (without kx (get_or ks (c - 1) bare)))) (set ls (d - 1) (in_front y (without ky (get_or ls (d - 1) bare))))) ec ek
    (pairs_both (λ i. Pair m (chunks_of (get_or setup.sizes i 0))) ks ls (c - 1) pairs lt' (in_front y (without kx (get_or ls (c - 1) bare))) lt (in_front x (without kx (get_or ks (c - 1) bare)))
    (pair_front (keeps_without kx m _ _ _ (pairs (c - 1))) same))

module _ (setup : Setup) (now : ℕ) (s t : Store) (rel : Above setup s t) where
  -- both tables move the key's record to the front
  front_both : (x y : Record) → Same x y → Lives setup x s.classes → Lives setup y t.classes → Above setup (to_front setup now x s) (to_front setup now y t)
  front_both x y same lx ly =
      let home = same_class setup same in
      let lt = in_range setup s.classes rel.small (class_no setup x) lx.numbered in
      let lt' = in_range setup t.classes rel.large (class_no setup x) lx.numbered in
      record {
        free = rel.free;
        pairs = pairs_front setup s.free (class_no setup x) (class_no setup y) x.key y.key (moved_at now x) (moved_at now y) s.classes t.classes home same.key (same_moved now same) rel.pairs lt lt';
        small = sound_front setup s.classes rel.small x (moved_at now x) lx refl refl;
        large = sound_front setup t.classes rel.large y (moved_at now y) ly refl refl;
      }

  -- the larger moves a record that the smaller does not hold
  front_more : (y : Record) → count (has_key y.key) (everything s) ≡ 0 → Lives setup y t.classes → Above setup s (to_front setup now y t)
  front_more y none live =
      let c = class_no setup y in
      let k = get_or s.classes (c - 1) bare in
      let l = get_or t.classes (c - 1) bare in
      let absent = class_count (has_key y.key) s.classes (c - 1) in
      let pair = rel.pairs (c - 1) in
      let less : Pair s.free (chunks_of (get_or setup.sizes (c - 1) 0)) k (without y.key l) =
      subst (λ k. Pair s.free (chunks_of (get_or setup.sizes (c - 1) 0)) k (without y.key l)) (without_local y.key k (omega arith)) (keeps_without y.key s.free _ k l pair) in
      let own = own_key setup t.classes rel.large y live in
      let lost = length_other y.key l.records in
      let extras = pair.extras in
      record {
        free = rel.free;
        pairs = pairs_large (λ i. Pair s.free (chunks_of (get_or setup.sizes i 0))) s.classes t.classes (c - 1) rel.pairs (in_range setup t.classes rel.large c live.numbered) _ (pair_more less (moved_at now y) (omega arith));
        small = rel.small;
        large = sound_front setup t.classes rel.large y (moved_at now y) live refl refl;
      }

  -- the policy answers alike for both
  pub use_both : (policy : Meaning) (x y : Record) → Same x y → Lives setup x s.classes → Lives setup y t.classes → Above setup (use_record setup policy now x s) (use_record setup policy now y t)
  use_both policy x y same lx ly = rw same.moved (by (policy.moving now y.moved))
    where
      by : (b : Bool) → Above setup (cond b (to_front setup now x s) s) (cond b (to_front setup now y t) t)
      by true = front_both x y same lx ly
      by false = rel

  pub use_more : (policy : Meaning) (y : Record) → count (has_key y.key) (everything s) ≡ 0 → Lives setup y t.classes → Above setup s (use_record setup policy now y t)
  use_more policy y none live = by (policy.moving now y.moved)
    where
      by : (b : Bool) → Above setup s (cond b (to_front setup now y t) t)
      by true = front_more y none live
      by false = rel
