-- Each command, each call and each run is a chain of changes. Assumes nothing.
use Rattle.std.proofs.Common.{◌≡◌, ℕ, zero, suc, ◌-◌, ◌<◌, ◌≤◌, max, Bool, true, false, cond, not, eqb, List, [], ◌∷◌, map, length, get_or, set, replicate, ℤ, Some, None, filter, Option, sym, refl, ap, subst, ⊎_elim, arith}
use lib.ListN.{length-replicate}
use Rattle.std.specs.List.{flat_map}
use Rattle.std.proofs.lemmas.Bool.{cond-true, cases_eq}
use Rattle.std.specs.Str.{bytes_eq}
use Rattle.refusals.specs.declared.Refusal.TheVariants as refusal
use Rattle.policy.specs.Meaning.{Meaning}
use Rattle.refusals.specs.declared.Refusal.{Refusal}
use Rattle.lines.specs.declared.Verb.{Verb}
use Rattle.lines.specs.declared.Verb.TheVariants.{Set, Add, Replace, Cas}
use Rattle.lines.specs.Command as line
use Rattle.lines.specs.Command.{Item}
use Rattle.lines.specs.Reading.{reading}
use Rattle.replies.specs.declared.kinds.Text.TheVariants as text
use Rattle.replies.specs.Reply.{Shown, Line}
use Rattle.model.specs.Setup.{Setup}
use Rattle.model.specs.Records.{Key, Record, has_key, other_key, class_no, class_for, number_or_0, expiry_of, expiring}
use Rattle.model.specs.Store.{Class, Store, Why, Deleted, Flushed, Dropped, bare, class_at, everything, records_of, held, aged, has_room, remove, remove_all, find, set_expiry, grant}
use Rattle.model.specs.Commands.{told, store_command, judged, put, place, linked_or_not, without_room, fresh, ask, ask_all, hit_or_miss, more_found, Asked, delete_command, delete_found, touch_command, touch_found}
use Rattle.model.specs.Calls.{State, Call, Admit, Request, Leave, Idle, Outcome, step, after, run, empty, unless, refuse_admit, refuse_request, refuse_if, run_command, run_reading, answer_request, is_open}
use Rattle.model.specs.Promises.{Planned}
use Rattle.model.proofs.Held.{On, here, there, count, count_cons, count_some, on_map, on_kept, same_key}
use Rattle.model.proofs.Sound.{Sound, Numbered, Lives, lives, at_same, at_other}
use Rattle.model.proofs.Plans.{numbered_class}
use Rattle.model.proofs.Changes.{Changes, none, then, one, join, asked, regrown, removed, touched, sound_changes, and_then, find_changes, use_changes, asked_changes, held_lives, Grants, granted, link_changes}

-- a class with another list
abbrev with_list : Class → List Record → Class
with_list k rs = record { pages = k.pages; records = rs }

module _ (setup : Setup) (plan : Planned setup) (policy : Meaning) (now : ℕ) where
  -- set, add, replace, cas

  dropped : (verb : Verb) (key : Key) (s : Store) → Sound setup s.classes → Changes setup s (without_room setup now verb key s)
  dropped Set key s sound = asked_changes setup s sound now Dropped (λ _. tt) key (held key s) refl
  dropped Add key s sound = none
  dropped Replace key s sound = none
  dropped (Cas n) key s sound = none

  linked : (verb : Verb) (item : Item) (class : ℕ) → class_for setup item.key item.block ≡ Some class → (s : Store) (sound : Sound setup s.classes) (o : Option Store) → Grants setup s sound class o → Changes setup s (linked_or_not setup now verb item o s).store
  linked verb item class e s sound None g = dropped verb item.key s sound
  linked verb item class e s sound (Some t) g =
      let is : class_no setup (fresh now item) ≡ class = ap number_or_0 e in
      let num = numbered_class setup item.key item.block class e in
      and_then sound g.changes
      (λ sound_t. link_changes setup t sound_t now (fresh now item) (subst (Numbered setup) (sym is) num) (subst (λ c. has_room setup c t ≡ true) (sym is) g.room))

  placed : (verb : Verb) (item : Item) (s : Store) (sound : Sound setup s.classes) (o : Option ℕ) → class_for setup item.key item.block ≡ o → Changes setup s (place setup policy now verb item o s).store
  placed verb item s sound None e = dropped verb item.key s sound
  placed verb item s sound (Some class) e =
      linked verb item class e s sound (grant setup policy now class s)
      (granted setup s sound plan policy now class (numbered_class setup item.key item.block class e))

  put_changes : (verb : Verb) (item : Item) (s : Store) → Sound setup s.classes → Changes setup s (put setup policy now verb item s).store
  put_changes verb item s sound = placed verb item s sound (class_for setup item.key item.block) refl

  judged_changes : (verb : Verb) (item : Item) (s : Store) (sound : Sound setup s.classes) (o : Option Record) → held item.key s ≡ o → Changes setup s (judged setup policy now verb item o s).store
  judged_changes Set item s sound None e = put_changes Set item s sound
  judged_changes Set item s sound (Some r) e = put_changes Set item s sound
  judged_changes Add item s sound None e = put_changes Add item s sound
  judged_changes Add item s sound (Some r) e = use_changes setup s sound policy now r (held_lives setup s sound item.key r e)
  judged_changes Replace item s sound None e = none
  judged_changes Replace item s sound (Some r) e = put_changes Replace item s sound
  judged_changes (Cas n) item s sound None e = none
  judged_changes (Cas n) item s sound (Some r) e = by (eqb r.cas n)
    where
      by : (b : Bool) → Changes setup s (cond b (put setup policy now (Cas n) item s) (told s (Line text.Exists))).store
      by true = put_changes (Cas n) item s sound
      by false = none

  store_changes : (verb : Verb) (item : Item) (s : Store) → Sound setup s.classes → Changes setup s (store_command setup policy now verb item s).store
  store_changes verb item s sound =
      and_then sound (find_changes setup s sound now item.key)
      (λ sound_f. judged_changes verb item (find setup now item.key s) sound_f (held item.key (find setup now item.key s)) refl)

  -- get, gets

  hit_changes : (key : Key) (s : Store) (sound : Sound setup s.classes) (o : Option Record) → held key s ≡ o → Changes setup s (hit_or_miss setup policy now o s).store
  hit_changes key s sound None e = one (asked false)
  hit_changes key s sound (Some r) e = join (use_changes setup s sound policy now r (held_lives setup s sound key r e)) (one (asked true))

  ask_changes : (key : Key) (s : Store) → Sound setup s.classes → Changes setup s (ask setup policy now key s).store
  ask_changes key s sound =
      and_then sound (find_changes setup s sound now key)
      (λ sound_f. hit_changes key (find setup now key s) sound_f (held key (find setup now key s)) refl)

  more_store : (xs : List Shown) (rest : Asked) → (more_found xs rest).store ≡ rest.store
  more_store [] rest = refl
  more_store (x ∷ xs) rest = refl

  all_changes : (keys : List Key) (s : Store) → Sound setup s.classes → Changes setup s (ask_all setup policy now keys s).store
  all_changes [] s sound = none
  all_changes (key ∷ keys) s sound =
      let here = ask setup policy now key s in
      subst (Changes setup s) (sym (more_store here.found (ask_all setup policy now keys here.store)))
      (and_then sound (ask_changes key s sound) (all_changes keys here.store))

  -- delete, touch

  delete_changes : (key : Key) (s : Store) → Sound setup s.classes → Changes setup s (delete_command setup now key s).store
  delete_changes key s sound =
      and_then sound (find_changes setup s sound now key)
      (λ sound_f. by (find setup now key s) sound_f (held key (find setup now key s)) refl)
    where
      by : (f : Store) (sound_f : Sound setup f.classes) (o : Option Record) → held key f ≡ o → Changes setup f (delete_found setup now o f).store
      by f sound_f None e = none
      by f sound_f (Some r) e = one (removed now Deleted r (held_lives setup f sound_f key r e) tt)

  -- the record lives on with its new expiry
  pub aged_lives : (expiry : Option ℕ) (r : Record) (s : Store) → Sound setup s.classes → Lives setup r s.classes → Lives setup (expiring expiry r) (set_expiry setup expiry r s).classes
  aged_lives expiry r s sound live =
      let c = class_no setup r in
      let xs = (class_at c s.classes).records in
      let lt : c - 1 < length s.classes = omega (arith, sound.size, live.numbered.low, live.numbered.high) in
      let is : aged r.key expiry r ≡ expiring expiry r = cond-true (has_key r.key r) (expiring expiry r) r (same_key r.key) in
      record {
        numbered = live.numbered;
        on = rw (at_same s.classes (record { pages = (class_at c s.classes).pages; records = map (aged r.key expiry) xs }) c lt)
            (subst (λ x. On x (map (aged r.key expiry) xs)) is (on_map (aged r.key expiry) live.on));
      }

  touch_changes : (key : Key) (exptime : ℤ) (s : Store) → Sound setup s.classes → Changes setup s (touch_command setup policy now key exptime s).store
  touch_changes key exptime s sound =
      and_then sound (find_changes setup s sound now key)
      (λ sound_f. by (find setup now key s) sound_f (held key (find setup now key s)) refl)
    where
      by : (f : Store) (sound_f : Sound setup f.classes) (o : Option Record) → held key f ≡ o → Changes setup f (touch_found setup policy now (expiry_of now exptime) o f).store
      by f sound_f None e = none
      by f sound_f (Some r) e =
          let live = held_lives setup f sound_f key r e in
          let expiry = expiry_of now exptime in
          and_then sound_f (one (touched expiry r live))
          (λ sound_t. use_changes setup (set_expiry setup expiry r f) sound_t policy now (expiring expiry r) (aged_lives expiry r f sound_f live))

  -- flush_all

  -- a record that is not the one that leaves stays
  stays : (why : Why) (r x : Record) (s : Store) → Sound setup s.classes → Lives setup r s.classes → Lives setup x s.classes → other_key r.key x ≡ true → Lives setup x (remove setup now why r s).classes
  stays why r x s sound live_r live_x ne =
      let c = class_no setup r in
      let d = class_no setup x in
      let k = with_list (class_at c s.classes) (filter (other_key r.key) (class_at c s.classes).records) in
      let lt : c - 1 < length s.classes = omega (arith, sound.size, live_r.numbered.low, live_r.numbered.high) in
      record {
        numbered = live_x.numbered;
        on = ⊎_elim
            (λ same. subst (λ n. On x (class_at n (set s.classes (c - 1) k)).records) (sym same) (rw (at_same s.classes k c lt) (on_kept (other_key r.key) (subst (λ n. On x (class_at n s.classes).records) same live_x.on) ne)))
            (λ differ. rw (at_other s.classes k c d live_r.numbered.low live_x.numbered.low differ) live_x.on)
            (cases_eq d c);
      }

  -- all of a list leave, where each lives and no key comes twice
  flushed : (rs : List Record) (s : Store) → Sound setup s.classes → ((x : Record) → On x rs → Lives setup x s.classes) → ((key : Key) → count (has_key key) rs ≤ 1) → Changes setup s (remove_all setup now Flushed rs s)
  flushed [] s sound all few = none
  flushed (r ∷ rs) s sound all few =
      let live = all r here in
      let c = removed now Flushed r live tt in
      then c
      (flushed rs (remove setup now Flushed r s) (sound_changes sound (one c))
      (λ x o. stays Flushed r x s sound live (all x (there o)) (other x o))
      (λ key. let h = few key in let e = count_cons (has_key key) r rs in omega arith))
    where
      other : (x : Record) → On x rs → other_key r.key x ≡ true
      other x o = by (bytes_eq r.key x.key) refl
        where
          by : (b : Bool) → bytes_eq r.key x.key ≡ b → not b ≡ true
          by true e =
              let h = few r.key in
              let c = count_cons (has_key r.key) r rs in
              let mine = same_key r.key in
              let some = count_some (has_key r.key) o e in
              let z : ◌≡◌ {A = ℕ} 0 1 = grind arith in
              absurd (omega arith)
          by false e = refl

  -- any command

  command_changes : (command : line.Command) (s : State) → Sound setup s.store.classes → Changes setup s.store (run_command setup policy now command s).store
  command_changes (line.Get numbered keys) s sound = all_changes keys s.store sound
  command_changes (line.Store verb item) s sound = store_changes verb item s.store sound
  command_changes (line.Delete key) s sound = delete_changes key s.store sound
  command_changes (line.Touch key exptime) s sound = touch_changes key exptime s.store sound
  command_changes line.FlushAll s sound =
      flushed (everything s.store) s.store sound (λ x o. lives setup s.store.classes sound x o) sound.once
  command_changes line.Version s sound = none
  command_changes line.Quit s sound = none
  command_changes line.Stats s sound = none

  reading_changes : (said : line.Reading) (s : State) → Sound setup s.store.classes → Changes setup s.store (run_reading setup policy now said s).store
  reading_changes (line.Asks command) s sound = command_changes command s sound
  reading_changes (line.Faulty f) s sound = none

-- ANY CALL

module _ (setup : Setup) (plan : Planned setup) where
  unless_changes : (s : State) (o : Option Refusal) (done : Outcome) → Changes setup s.store done.state.store → Changes setup s.store (unless o done s).state.store
  unless_changes s None done c = c
  unless_changes s (Some r) done c = none

  pub step_changes : (call : Call) (s : State) → Sound setup s.store.classes → Changes setup s.store (step setup call s).state.store
  step_changes (Admit caller second) s sound = unless_changes s (refuse_admit caller s) _ none
  step_changes (Request caller second policy bytes room) s sound =
      unless_changes s (refuse_request setup caller policy bytes room s) (answer_request setup caller (max s.clock second) policy (reading bytes) s)
      (join (reading_changes setup plan policy (max s.clock second) (reading bytes) s sound) (one (regrown _)))
  step_changes (Leave caller second) s sound = unless_changes s (refuse_if (not (is_open caller s)) refusal.CallerNotOpen None) _ none
  step_changes (Idle second limit) s sound = none

  pub after_changes : (calls : List Call) (s : State) → Sound setup s.store.classes → Changes setup s.store (after setup calls s).store
  after_changes [] s sound = none
  after_changes (c ∷ cs) s sound =
      and_then sound (step_changes c s sound) (after_changes cs (step setup c s).state)

-- FROM THE OPENING

pub at_bare : (n i : ℕ) → get_or (replicate n bare) i bare ≡ bare
at_bare zero i = refl
at_bare (suc n) zero = refl
at_bare (suc n) (suc i) = at_bare n i

all_bare : (n : ℕ) → flat_map records_of (replicate n bare) ≡ []
all_bare zero = refl
all_bare (suc n) = all_bare n

pub sound_empty : (setup : Setup) → Sound setup (empty setup).store.classes
sound_empty setup =
    let n = length setup.sizes in
    record {
      size = length-replicate n bare;
      homes = λ class low. rw (at_bare n (class - 1)) tt;
      once = λ key. rw (all_bare n) (omega arith);
      fits = λ class low. rw (at_bare n (class - 1)) (omega arith);
    }

pub run_changes : (setup : Setup) → Planned setup → (calls : List Call) → Changes setup (empty setup).store (run setup calls).store
run_changes setup plan calls = after_changes setup plan calls (empty setup) (sound_empty setup)
