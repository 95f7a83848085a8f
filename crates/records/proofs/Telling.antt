-- What is shown once something else is told of a record. Assumes nothing.
use Rattle.std.proofs.Common.{◌≡◌, ℕ, zero, suc, ◌+◌, ◌<◌, List, [], ◌∷◌, map, length, get_or, set, filter, Option, sym, refl, ap, ◌∙◌, subst, ⊎_elim}
use lib.ListN.{length-map}
use Rattle.std.proofs.lemmas.List.{get_or-set_same, get_or-set_other, map-set, set-get_or}
use Rattle.std.proofs.lemmas.Bool.{cases_eq}
use Rattle.recency.proofs.Columns.{column_of_rest}
use Rattle.chained.specs.Fnv.{fnv}
use Rattle.slabs.specs.declared.row.Row.{Row}
use Rattle.slabs.specs.declared.row.Tag.{Tag}
use Rattle.slabs.specs.declared.slab.Slab.{Slab}
use Rattle.slabs.specs.Rows.{blank, rest}
use Rattle.slabs.specs.Lists.{held_of, to_front}
use Rattle.slabs.specs.Layouts.{Layout, class_at, start}
use Rattle.slabs.specs.Slabs.{Holds, Reordered, rows_of, homes_of, layout}
use Rattle.slabs.specs.Records.{bytes_at, Retagged, key_lens, data_lens, tags}
use Rattle.model.specs.Setup.{Setup}
use Rattle.model.specs.Records.{Record, other_key, moved_at, expiring}
use Rattle.model.specs.Store as model
use Rattle.model.specs.Store.{Class}
use Rattle.model.proofs.Sound.{Numbered, sound_front, sound_aged}
use Rattle.records.specs.Reading.{record_at, with_front, with_expiry, ShowsClasses}
use Rattle.records.specs.Showing.{Cut, ShowsRecords}
use Rattle.records.proofs.Turns.{told, same_records, shows_moved, shows_aged}
use Rattle.records.proofs.Leaving.{alone, class, record_here, num, row_on, home, lives_here}

-- RECORDS BY COLUMNS

pub at_column : {X : Type 0} (f : Row → X) (rs : List Row) (i : ℕ) → get_or (map f rs) i (f blank) ≡ f (get_or rs i blank)
at_column f [] i = refl
at_column f (r ∷ rs) zero = refl
at_column f (r ∷ rs) (suc i) = at_column f rs i

-- the record of a chunk that begins at a place, from the lengths and the tag in its row
abbrev pub record_from : ℕ → ℕ → Tag → ℕ → List ℕ → Record
record_from key block tag at memory =
    record { key = bytes_at memory at key; flags = tag.flags; expiry = tag.expiry; cas = tag.cas; block = bytes_at memory (at + key) block; moved = tag.moved }

pub by_columns : (l : Layout) (rs : List Row) (memory : List ℕ) (i : ℕ) → record_at l rs memory i ≡ record_from (get_or (key_lens rs) i 0) (get_or (data_lens rs) i 0) (get_or (tags rs) i blank.tag) (start l i) memory
by_columns l rs memory i =
    let k = at_column (λ row. row.key_len) rs i in
    let d = at_column (λ row. row.data_len) rs i in
    let t = at_column (λ row. row.tag) rs i in
    ap (λ x. record_from x (get_or rs i blank).data_len (get_or rs i blank).tag (start l i) memory) (sym k)
    ∙ ap (λ x. record_from (get_or (key_lens rs) i 0) x (get_or rs i blank).tag (start l i) memory) (sym d)
    ∙ ap (λ x. record_from (get_or (key_lens rs) i 0) (get_or (data_lens rs) i 0) x (start l i) memory) (sym t)

module _ (s t : Slab) (i : ℕ) (tag : Tag) (new : Retagged s t i tag) (memory : List ℕ) where
  retagged_by : (k : ℕ) (x : Tag) → get_or (set (tags (rows_of s)) i tag) k blank.tag ≡ x → record_at (layout t) (rows_of t) memory k ≡ record_from (get_or (key_lens (rows_of s)) k 0) (get_or (data_lens (rows_of s)) k 0) x (start (layout s) k) memory
  retagged_by k x e =
      by_columns (layout t) (rows_of t) memory k
      ∙ ap (λ c. record_from (get_or c k 0) (get_or (data_lens (rows_of t)) k 0) (get_or (tags (rows_of t)) k blank.tag) (start (layout t) k) memory) new.key_lens_stay
      ∙ ap (λ c. record_from (get_or (key_lens (rows_of s)) k 0) (get_or c k 0) (get_or (tags (rows_of t)) k blank.tag) (start (layout t) k) memory) new.data_lens_stay
      ∙ ap (λ c. record_from (get_or (key_lens (rows_of s)) k 0) (get_or (data_lens (rows_of s)) k 0) c (start (layout t) k) memory) (ap (λ c. get_or c k blank.tag) new.tags_are ∙ e)
      ∙ ap (λ l. record_from (get_or (key_lens (rows_of s)) k 0) (get_or (data_lens (rows_of s)) k 0) x (start l k) memory) new.layout_stays

  -- the record has what the tag says
  pub retagged_here : i < length (rows_of s) → record_at (layout t) (rows_of t) memory i ≡ record_from (get_or (key_lens (rows_of s)) i 0) (get_or (data_lens (rows_of s)) i 0) tag (start (layout s) i) memory
  retagged_here lt = retagged_by i tag (get_or-set_same (tags (rows_of s)) i tag blank.tag (rw (length-map (rows_of s) (λ row. row.tag)) lt))

  -- and every other is as it was
  pub retagged_other : (k : ℕ) → (k ≡ i → ⊥) → record_at (layout t) (rows_of t) memory k ≡ record_at (layout s) (rows_of s) memory k
  retagged_other k ne =
      retagged_by k (get_or (tags (rows_of s)) k blank.tag) (get_or-set_other (tags (rows_of s)) i k tag blank.tag ne) ∙ sym (by_columns (layout s) (rows_of s) memory k)

-- the hashes are those of the tags
pub hashes_of : (rs : List Row) → map (λ row. row.tag.hash) rs ≡ map (λ t. t.hash) (tags rs)
hashes_of [] = refl
hashes_of (r ∷ rs) = ap (λ xs. r.tag.hash ∷ xs) (hashes_of rs)

-- a tag with the same hash leaves them as they are
pub hashes_stay : (rs rs' : List Row) (i : ℕ) (tag : Tag) → tags rs' ≡ set (tags rs) i tag → tag.hash ≡ get_or (map (λ row. row.tag.hash) rs) i 0 → map (λ row. row.tag.hash) rs' ≡ map (λ row. row.tag.hash) rs
hashes_stay rs rs' i tag e same =
    hashes_of rs'
    ∙ ap (map (λ t. t.hash)) e
    ∙ map-set (λ t. t.hash) (tags rs) i tag
    ∙ ap (λ xs. set xs i tag.hash) (sym (hashes_of rs))
    ∙ ap (λ n. set (map (λ row. row.tag.hash) rs) i n) same
    ∙ set-get_or (map (λ row. row.tag.hash) rs) i 0

-- AT THE FRONT

-- the tag with another second
abbrev pub at_second : ℕ → Tag → Tag
at_second second tag = record { hash = tag.hash; flags = tag.flags; expiry = tag.expiry; cas = tag.cas; moved = second }

module _ (setup : Setup) (s : Slab) (memory : List ℕ) (ks : List Class) (sh : ShowsRecords setup s memory ks) (i : ℕ) (held : Holds s i) (lt : i < length (rows_of s)) (u t : Slab) (second : ℕ) (new : Retagged s u i (at_second second (get_or (tags (rows_of s)) i blank.tag))) (moved : Reordered u t (to_front i (held_of (class_at (layout s) i)))) where
  tells : map told (rows_of t) ≡ map told (rows_of u)
  tells = column_of_rest rest told (λ _. refl) (rows_of u) (rows_of t) moved.rests

  layout_is : layout t ≡ layout s
  layout_is = moved.layout ∙ new.layout_stays

  homes_are : homes_of t ≡ homes_of s
  homes_are = moved.homes ∙ new.homes_stay

  -- records by the rows as they are now, and the pages as they were cut
  now_at : (k : ℕ) → record_at (layout s) (rows_of t) memory k ≡ record_at (layout u) (rows_of u) memory k
  now_at k = same_records (layout s) (rows_of u) (rows_of t) memory tells k ∙ ap (λ l. record_at l (rows_of u) memory k) (sym new.layout_stays)

  now_here : record_at (layout s) (rows_of t) memory i ≡ moved_at second (record_at (layout s) (rows_of s) memory i)
  now_here = now_at i ∙ retagged_here s u i _ new memory lt ∙ ap (moved_at second) (sym (by_columns (layout s) (rows_of s) memory i))

  now_other : (k : ℕ) → (k ≡ i → ⊥) → record_at (layout s) (rows_of t) memory k ≡ record_at (layout s) (rows_of s) memory k
  now_other k ne = now_at k ∙ retagged_other s u i _ new memory k ne

  now_key : (k : ℕ) → (record_at (layout s) (rows_of t) memory k).key ≡ (record_at (layout s) (rows_of s) memory k).key
  now_key k =
      ⊎_elim
      (λ e. subst (λ n. (record_at (layout s) (rows_of t) memory n).key ≡ (record_at (layout s) (rows_of s) memory n).key) (sym e) (ap (λ r. r.key) now_here))
      (λ ne. ap (λ r. r.key) (now_other k ne))
      (cases_eq k i)

  held_before : (k : ℕ) → Holds t k → Holds s k
  held_before k h = ap (λ x. get_or x k 0) (sym homes_are) ∙ h ∙ ap (λ l. held_of (class_at l k)) layout_is

  hash_same : (k : ℕ) → get_or (map (λ row. row.tag.hash) (rows_of t)) k 0 ≡ get_or (map (λ row. row.tag.hash) (rows_of s)) k 0
  hash_same k =
      ap (λ c. get_or c k 0)
      (column_of_rest rest (λ row. row.tag.hash) (λ _. refl) (rows_of u) (rows_of t) moved.rests
      ∙ hashes_stay (rows_of s) (rows_of u) i _ new.tags_are (ap (λ x. x.hash) (at_column (λ row. row.tag) (rows_of s) i) ∙ sym (at_column (λ row. row.tag.hash) (rows_of s) i)))

  pub shows_fronted : ShowsRecords setup t memory (with_front setup second (record_here setup s memory ks sh i held) ks)
  shows_fronted =
      let c = class setup s memory ks sh i held in
      let here = record_here setup s memory ks sh i held in
      let at = home setup s memory ks sh i held in
      let lists' = to_front i (held_of c) sh.lists in
      let shown = shows_moved setup ks sh.kept c (num setup s memory ks sh i held) (layout s) (rows_of s) memory sh.lists (alone s sh.lists sh.listed) sh.shown i (row_on setup s memory ks sh i held) second (rows_of t) now_here now_other in
      record {
        kept = sound_front setup ks sh.kept here (moved_at second here) (lives_here setup s memory ks sh i held) refl refl;
        cut = subst (λ l. Cut setup l) (sym layout_is) sh.cut;
        classed = λ k h. subst (λ l. Numbered setup (class_at l k)) (sym layout_is) (sh.classed k (held_before k h));
        lists = lists';
        listed = moved.lists sh.lists (new.lists_stay sh.lists sh.listed);
        shown = subst (λ l. ShowsClasses setup l (rows_of t) memory lists' (with_front setup second here ks)) (sym layout_is)
            (subst (λ n. ShowsClasses setup (layout s) (rows_of t) memory lists' (model.with_records n (moved_at second here ∷ filter (other_key here.key) (model.class_at n ks).records) ks)) (sym at) shown);
        hashed = λ k h.
            hash_same k ∙ sh.hashed k (held_before k h) ∙ ap fnv (sym (now_key k)) ∙ ap (λ l. fnv (record_at l (rows_of t) memory k).key) (sym layout_is);
      }

-- ANOTHER EXPIRY

-- the tag with another expiry
abbrev pub until : Option ℕ → Tag → Tag
until expiry tag = record { hash = tag.hash; flags = tag.flags; expiry = expiry; cas = tag.cas; moved = tag.moved }

module _ (setup : Setup) (s : Slab) (memory : List ℕ) (ks : List Class) (sh : ShowsRecords setup s memory ks) (i : ℕ) (held : Holds s i) (lt : i < length (rows_of s)) (t : Slab) (expiry : Option ℕ) (new : Retagged s t i (until expiry (get_or (tags (rows_of s)) i blank.tag))) where
  -- by the pages as they were cut
  aged_at : (k : ℕ) → record_at (layout s) (rows_of t) memory k ≡ record_at (layout t) (rows_of t) memory k
  aged_at k = ap (λ l. record_at l (rows_of t) memory k) (sym new.layout_stays)

  aged_here : record_at (layout s) (rows_of t) memory i ≡ expiring expiry (record_at (layout s) (rows_of s) memory i)
  aged_here = aged_at i ∙ retagged_here s t i _ new memory lt ∙ ap (expiring expiry) (sym (by_columns (layout s) (rows_of s) memory i))

  aged_other : (k : ℕ) → (k ≡ i → ⊥) → record_at (layout s) (rows_of t) memory k ≡ record_at (layout s) (rows_of s) memory k
  aged_other k ne = aged_at k ∙ retagged_other s t i _ new memory k ne

  aged_key : (k : ℕ) → (record_at (layout s) (rows_of t) memory k).key ≡ (record_at (layout s) (rows_of s) memory k).key
  aged_key k =
      ⊎_elim
      (λ e. subst (λ n. (record_at (layout s) (rows_of t) memory n).key ≡ (record_at (layout s) (rows_of s) memory n).key) (sym e) (ap (λ r. r.key) aged_here))
      (λ ne. ap (λ r. r.key) (aged_other k ne))
      (cases_eq k i)

  held_still : (k : ℕ) → Holds t k → Holds s k
  held_still k h = ap (λ x. get_or x k 0) (sym new.homes_stay) ∙ h ∙ ap (λ l. held_of (class_at l k)) new.layout_stays

  pub shows_expiry : ShowsRecords setup t memory (with_expiry setup expiry (record_here setup s memory ks sh i held) ks)
  shows_expiry =
      let c = class setup s memory ks sh i held in
      let here = record_here setup s memory ks sh i held in
      let at = home setup s memory ks sh i held in
      let shown = shows_aged setup ks sh.kept c (num setup s memory ks sh i held) (layout s) (rows_of s) memory sh.lists (alone s sh.lists sh.listed) sh.shown i (row_on setup s memory ks sh i held) expiry (rows_of t) aged_here aged_other in
      let hashes = hashes_stay (rows_of s) (rows_of t) i _ new.tags_are (ap (λ x. x.hash) (at_column (λ row. row.tag) (rows_of s) i) ∙ sym (at_column (λ row. row.tag.hash) (rows_of s) i)) in
      record {
        kept = sound_aged setup ks sh.kept here expiry (lives_here setup s memory ks sh i held);
        cut = subst (λ l. Cut setup l) (sym new.layout_stays) sh.cut;
        classed = λ k h. subst (λ l. Numbered setup (class_at l k)) (sym new.layout_stays) (sh.classed k (held_still k h));
        lists = sh.lists;
        listed = new.lists_stay sh.lists sh.listed;
        shown = subst (λ l. ShowsClasses setup l (rows_of t) memory sh.lists (with_expiry setup expiry here ks)) (sym new.layout_stays)
            (subst (λ n. ShowsClasses setup (layout s) (rows_of t) memory sh.lists (model.with_records n (map (model.aged here.key expiry) (model.class_at n ks).records) ks)) (sym at) shown);
        hashed = λ k h.
            ap (λ c. get_or c k 0) hashes ∙ sh.hashed k (held_still k h) ∙ ap fnv (sym (aged_key k)) ∙ ap (λ l. fnv (record_at l (rows_of t) memory k).key) (sym new.layout_stays);
      }
