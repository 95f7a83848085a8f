-- Every reason that a call gives is true. Assumes nothing.
use Rattle.std.proofs.Common.{◌≡◌, ℕ, max, Bool, true, false, cond, not, eqb, ltb, List, [], ◌∷◌, ◌++◌, ℤ, Some, None, Option, sym, refl, ap, ◌∙◌, subst, append_assoc}
use Rattle.std.specs.List.{AllByRecursion}
use Rattle.std.specs.Str.{bytes_eq}
use Rattle.std.proofs.ByRecursion.{All-append}
use Rattle.refusals.specs.declared.Refusal.{Refusal}
use Rattle.refusals.specs.declared.Refusal.TheVariants as refusal
use Rattle.policy.specs.Meaning.{Meaning}
use Rattle.lines.specs.declared.Verb.{Verb}
use Rattle.lines.specs.declared.Verb.TheVariants.{Set, Add, Replace, Cas}
use Rattle.lines.specs.Command as line
use Rattle.lines.specs.Command.{Item}
use Rattle.lines.specs.Reading.{reading}
use Rattle.replies.specs.declared.kinds.Text.TheVariants as text
use Rattle.replies.specs.Reply.{Shown, Reply, Line}
use Rattle.model.specs.Setup.{Setup}
use Rattle.model.specs.Records.{Key, Record, has_key, class_no, class_for, expiry_of, expiring}
use Rattle.model.specs.Store.{Store, Why, Replaced, Deleted, Flushed, Expired, Evicted, Dropped, Happening, Given, Stored, Moved, Left, everything, held, if_dead, find, to_front, use_record, has_room, give_page, rear_dead, rear, rid, or_else, grant, remove, remove_any, remove_all, numbered, link, set_expiry}
use Rattle.model.specs.Commands.{Told, told, store_command, judged, put, place, linked_or_not, without_room, fresh, ask, ask_all, hit_or_miss, more_found, Asked, delete_command, delete_found, touch_command, touch_found}
use Rattle.model.specs.Calls.{State, Call, Admit, Request, Leave, Idle, Outcome, outcome, step, run, unless, refuse_admit, refuse_request, refuse_if, run_command, run_reading, answer_request, is_open}
use Rattle.model.specs.Reasons.{excused, Excused, ExcusedIn, EveryReasonIsTrue}
use Rattle.model.proofs.Held.{first_on}

-- a record found by its key has it
found_key : (key : Key) (s : Store) (r : Record) → held key s ≡ Some r → bytes_eq key r.key ≡ true
found_key key s r e = (first_on (has_key key) (everything s) e).1

module _ (setup : Setup) (now : ℕ) (said : line.Reading) (reply : Reply) where
  -- the story grows by what may happen
  pub record Adds (s t : Store) : Type 0 where
    pub new : List Happening
    pub more : t.story ≡ new ++ s.story
    pub apt : AllByRecursion (Excused now said reply) new

  pub same : (s t : Store) → t.story ≡ s.story → Adds s t
  same s t e = record { new = []; more = e; apt = tt }

  pub join : {s t u : Store} → Adds s t → Adds t u → Adds s u
  join {s} a b =
      record {
        new = b.new ++ a.new;
        more = b.more ∙ ap (λ l. b.new ++ l) a.more ∙ sym (append_assoc b.new a.new s.story);
        apt = All-append (Excused now said reply) b.new a.new b.apt a.apt;
      }

  left : (why : Why) (r : Record) (s : Store) → excused said reply why r ≡ true → Adds s (remove setup now why r s)
  left why r s e = record { new = Left now (class_no setup r) r why ∷ []; more = refl; apt = ((refl, e), tt) }

  left_any : (why : Why) (o : Option Record) (s : Store) → ((r : Record) → o ≡ Some r → excused said reply why r ≡ true) → Adds s (remove_any setup now why o s)
  left_any why None s e = same s s refl
  left_any why (Some r) s e = left why r s (e r refl)

  found : (key : Key) (s : Store) → Adds s (find setup now key s)
  found key s = left_any Expired (if_dead now (held key s)) s (λ r _. refl)

  used : (policy : Meaning) (r : Record) (s : Store) → Adds s (use_record setup policy now r s)
  used policy r s = by (policy.moving now r.moved)
    where
      by : (b : Bool) → Adds s (cond b (to_front setup now r s) s)
      by true = record { new = Moved (class_no setup r) r.key ∷ []; more = refl; apt = (tt, tt) }
      by false = same s s refl

  -- what a grant adds, where it does not fail
  abbrev Grants : Store → Option Store → Type 0
  Grants s None = Unit {0}
  Grants s (Some t) = Adds s t

  either : (s : Store) (x y : Option Store) → Grants s x → Grants s y → Grants s (or_else x y)
  either s None y gx gy = gy
  either s (Some t) y gx gy = gx

  picked : (s : Store) (b : Bool) (x y : Option Store) → Grants s x → Grants s y → Grants s (cond b x y)
  picked s true x y gx gy = gx
  picked s false x y gx gy = gy

  ridden : (why : Why) (o : Option Record) (s : Store) → ((r : Record) → excused said reply why r ≡ true) → Grants s (rid setup now why o s)
  ridden why None s e = tt
  ridden why (Some r) s e = left why r s (e r)

  granted : (policy : Meaning) (class : ℕ) (s : Store) → Grants s (grant setup policy now class s)
  granted policy class s =
      picked s (has_room setup class s) (Some s) _ (same s s refl)
      (picked s (ltb 0 s.free) (Some (give_page class s)) _ (record { new = Given class ∷ []; more = refl; apt = (tt, tt) })
      (either s (rid setup now Expired (rear_dead now class s) s) _ (ridden Expired (rear_dead now class s) s (λ _. refl))
      (picked s policy.evicting (rid setup now Evicted (rear class s) s) None (ridden Evicted (rear class s) s (λ _. refl)) tt)))

  linked : (r : Record) (s : Store) → ((x : Record) → held r.key s ≡ Some x → excused said reply Replaced x ≡ true) → Adds s (link setup now r s)
  linked r s e =
      join (left_any Replaced (held r.key s) s e)
      (record { new = Stored (class_no setup r) r.key ∷ []; more = refl; apt = (tt, tt) })

  flushed : (rs : List Record) (s : Store) → ((r : Record) → excused said reply Flushed r ≡ true) → Adds s (remove_all setup now Flushed rs s)
  flushed [] s e = same s s refl
  flushed (r ∷ rs) s e = join (left Flushed r s (e r)) (flushed rs (remove setup now Flushed r s) e)

-- COMMANDS: what a command adds, with its own reply

module _ (setup : Setup) (policy : Meaning) (now : ℕ) where
  abbrev Truly : line.Reading → Store → Told → Type 0
  Truly said s t = Adds setup now said t.reply s t.store

  -- set, add, replace, cas

  module _ (item : Item) where
    abbrev by_verb : Verb → line.Reading
    by_verb v = line.Asks (line.Store v item)

    dropped : (v : Verb) (reply : Reply) (s : Store) → ((r : Record) → bytes_eq item.key r.key ≡ true → excused (by_verb Set) reply Dropped r ≡ true) → Adds setup now (by_verb v) reply s (without_room setup now v item.key s)
    dropped Set reply s e = left_any setup now (by_verb Set) reply Dropped (held item.key s) s (λ r h. e r (found_key item.key s r h))
    dropped Add reply s e = same setup now (by_verb Add) reply s s refl
    dropped Replace reply s e = same setup now (by_verb Replace) reply s s refl
    dropped (Cas n) reply s e = same setup now (by_verb (Cas n)) reply s s refl

    stored : (v : Verb) (s : Store) (o : Option Store) → Grants setup now (by_verb v) (Line text.Stored) s o → Truly (by_verb v) s (linked_or_not setup now v item o s)
    stored v s None g = dropped v (Line text.OutOfMemory) s (λ r h. h)
    stored v s (Some t) g =
        join setup now (by_verb v) (Line text.Stored) g
        (linked setup now (by_verb v) (Line text.Stored) (fresh now item) t (λ x h. found_key item.key t x h))

    placed : (v : Verb) (s : Store) (o : Option ℕ) → Truly (by_verb v) s (place setup policy now v item o s)
    placed v s None = dropped v (Line text.TooLarge) s (λ r h. h)
    placed v s (Some class) =
        stored v s (grant setup policy now class s) (granted setup now (by_verb v) (Line text.Stored) policy class s)

    put_truly : (v : Verb) (s : Store) → Truly (by_verb v) s (put setup policy now v item s)
    put_truly v s = placed v s (class_for setup item.key item.block)

    judged_truly : (v : Verb) (o : Option Record) (s : Store) → Truly (by_verb v) s (judged setup policy now v item o s)
    judged_truly Set None s = put_truly Set s
    judged_truly Set (Some r) s = put_truly Set s
    judged_truly Add None s = put_truly Add s
    judged_truly Add (Some r) s = used setup now (by_verb Add) (Line text.NotStored) policy r s
    judged_truly Replace None s = same setup now (by_verb Replace) (Line text.NotStored) s s refl
    judged_truly Replace (Some r) s = put_truly Replace s
    judged_truly (Cas n) None s = same setup now (by_verb (Cas n)) (Line text.NotFound) s s refl
    judged_truly (Cas n) (Some r) s = by (eqb r.cas n)
      where
        by : (b : Bool) → Truly (by_verb (Cas n)) s (cond b (put setup policy now (Cas n) item s) (told s (Line text.Exists)))
        by true = put_truly (Cas n) s
        by false = same setup now (by_verb (Cas n)) (Line text.Exists) s s refl

    store_truly : (v : Verb) (s : Store) → Truly (by_verb v) s (store_command setup policy now v item s)
    store_truly v s =
        let f = find setup now item.key s in
        join setup now (by_verb v) (judged setup policy now v item (held item.key f) f).reply
        (found setup now (by_verb v) (judged setup policy now v item (held item.key f) f).reply item.key s)
        (judged_truly v (held item.key f) f)

  -- get, gets: with any line and reply, since nothing is asked to leave

  module _ (said : line.Reading) (reply : Reply) where
    hit_adds : (o : Option Record) (s : Store) → Adds setup now said reply s (hit_or_miss setup policy now o s).store
    hit_adds None s = same setup now said reply s _ refl
    hit_adds (Some r) s = join setup now said reply (used setup now said reply policy r s) (same setup now said reply _ _ refl)

    more_store : (xs : List Shown) (rest : Asked) → (more_found xs rest).store ≡ rest.store
    more_store [] rest = refl
    more_store (x ∷ xs) rest = refl

    all_adds : (keys : List Key) (s : Store) → Adds setup now said reply s (ask_all setup policy now keys s).store
    all_adds [] s = same setup now said reply s s refl
    all_adds (key ∷ keys) s =
        let f = find setup now key s in
        let here = ask setup policy now key s in
        subst (Adds setup now said reply s) (sym (more_store here.found (ask_all setup policy now keys here.store)))
        (join setup now said reply (join setup now said reply (found setup now said reply key s) (hit_adds (held key f) f)) (all_adds keys here.store))

  -- delete, touch

  deleted : (key : Key) (f : Store) (o : Option Record) → held key f ≡ o → Truly (line.Asks (line.Delete key)) f (delete_found setup now o f)
  deleted key f None e = same setup now (line.Asks (line.Delete key)) (Line text.NotFound) f f refl
  deleted key f (Some r) e = left setup now (line.Asks (line.Delete key)) (Line text.Deleted) Deleted r f (found_key key f r e)

  delete_truly : (key : Key) (s : Store) → Truly (line.Asks (line.Delete key)) s (delete_command setup now key s)
  delete_truly key s =
      let f = find setup now key s in
      let said = line.Asks (line.Delete key) in
      let reply = (delete_found setup now (held key f) f).reply in
      join setup now said reply (found setup now said reply key s) (deleted key f (held key f) refl)

  touched : (said : line.Reading) (expiry : Option ℕ) (f : Store) (o : Option Record) → Truly said f (touch_found setup policy now expiry o f)
  touched said expiry f None = same setup now said (Line text.NotFound) f f refl
  touched said expiry f (Some r) =
      join setup now said (Line text.Touched) (same setup now said (Line text.Touched) f (set_expiry setup expiry r f) refl)
      (used setup now said (Line text.Touched) policy (expiring expiry r) (set_expiry setup expiry r f))

  touch_truly : (said : line.Reading) (key : Key) (exptime : ℤ) (s : Store) → Truly said s (touch_command setup policy now key exptime s)
  touch_truly said key exptime s =
      let f = find setup now key s in
      let reply = (touch_found setup policy now (expiry_of now exptime) (held key f) f).reply in
      join setup now said reply (found setup now said reply key s) (touched said (expiry_of now exptime) f (held key f))

  -- any line

  command_truly : (command : line.Command) (s : State) → Truly (line.Asks command) s.store (run_command setup policy now command s)
  command_truly (line.Get numbered keys) s = all_adds _ _ keys s.store
  command_truly (line.Store v item) s = store_truly item v s.store
  command_truly (line.Delete key) s = delete_truly key s.store
  command_truly (line.Touch key exptime) s = touch_truly _ key exptime s.store
  command_truly line.FlushAll s = flushed setup now (line.Asks line.FlushAll) (Line text.Done) (everything s.store) s.store (λ _. refl)
  command_truly line.Version s = same setup now _ _ s.store s.store refl
  command_truly line.Quit s = same setup now _ _ s.store s.store refl
  command_truly line.Stats s = same setup now _ _ s.store s.store refl

  reading_truly : (said : line.Reading) (s : State) → Truly said s.store (run_reading setup policy now said s)
  reading_truly (line.Asks command) s = command_truly command s
  reading_truly (line.Faulty f) s = same setup now _ _ s.store s.store refl

-- ANY CALL

abbrev TrueIn : Call → State → Outcome → Type 0
TrueIn call s o = (new : List Happening) × (o.state.store.story ≡ new ++ s.store.story) × ExcusedIn call o.state.clock o.answer new

-- a refused request, and one that is answered
request_true : (setup : Setup) (caller second : ℕ) (policy : Meaning) (bytes : List ℕ) (room : ℕ) (s : State) (o : Option Refusal) → TrueIn (Request caller second policy bytes room) s (unless o (answer_request setup caller (max s.clock second) policy (reading bytes) s) s)
request_true setup caller second policy bytes room s (Some r) = ([], refl, refl)
request_true setup caller second policy bytes room s None =
    let a = reading_truly setup policy (max s.clock second) (reading bytes) s in
    (a.new, a.more, a.apt)

admit_true : (caller second : ℕ) (s t : State) (o : Option Refusal) → t.store.story ≡ s.store.story → (answer : _) → TrueIn (Admit caller second) s (unless o (outcome t answer) s)
admit_true caller second s t (Some r) e answer = ([], refl, refl)
admit_true caller second s t None e answer = ([], e, refl)

leave_true : (caller second : ℕ) (s t : State) (o : Option Refusal) → t.store.story ≡ s.store.story → (answer : _) → TrueIn (Leave caller second) s (unless o (outcome t answer) s)
leave_true caller second s t (Some r) e answer = ([], refl, refl)
leave_true caller second s t None e answer = ([], e, refl)

step_true : (setup : Setup) (call : Call) (s : State) → TrueIn call s (step setup call s)
step_true setup (Admit caller second) s = admit_true caller second s _ (refuse_admit caller s) refl _
step_true setup (Request caller second policy bytes room) s = request_true setup caller second policy bytes room s (refuse_request setup caller policy bytes room s)
step_true setup (Leave caller second) s = leave_true caller second s _ (refuse_if (not (is_open caller s)) refusal.CallerNotOpen None) refl _
step_true setup (Idle second limit) s = ([], refl, refl)

pub every_reason_is_true : EveryReasonIsTrue
every_reason_is_true setup calls call = step_true setup call (run setup calls)
