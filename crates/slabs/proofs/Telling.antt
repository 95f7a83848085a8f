-- What rows tell of records, after one was described.
use Rattle.std.proofs.Common.{◌≡◌, ℕ, zero, suc, ◌+◌, ◌*◌, ◌<◌, ◌≤◌, List, [], ◌∷◌, length, get_or, sym, refl, ap, ◌∙◌, subst, ⊎_elim, arith}
use native.Mathlib.Bridge.{le_prop}
use mathlib.Core.Logic.{∥∥₁_elim}
use lib.ListN.{length-map}
use Rattle.std.proofs.lemmas.List.{get_or-set_same, get_or-set_other}
use Rattle.std.proofs.lemmas.Bool.{cases_eq}
use Rattle.recency.proofs.Columns.{column_of_rest}
use Rattle.slabs.specs.declared.row.Row.{Row}
use Rattle.slabs.specs.declared.row.Tag.{Tag}
use Rattle.slabs.specs.declared.slab.Slab.{Slab}
use Rattle.slabs.specs.Rows.{blank, homes, rest, rests}
use Rattle.slabs.specs.Lists.{held_of}
use Rattle.slabs.specs.Layouts.{Layout, Fitting, start, size_at}
use Rattle.slabs.specs.Slabs.{rows_of, homes_of, spans_of, layout, Lists, Sound, InOrder, Holds}
use Rattle.slabs.specs.Records.{key_lens, data_lens, Described, Written, bytes_at, chunk_of, key_of, data_of}
use Rattle.slabs.proofs.Bytes.{bytes_part}
use Rattle.slabs.proofs.Sounds.{order_same}
use Rattle.slabs.proofs.Ends.{chunk_inside, page_within, record_fits}

-- the length of a record is that of its key and of its data
pub span_sum : (rows : List Row) (i : ℕ) → get_or (spans_of rows) i 0 ≡ get_or (key_lens rows) i 0 + get_or (data_lens rows) i 0
span_sum [] i = omega arith
span_sum (row ∷ rows) zero = refl
span_sum (row ∷ rows) (suc i) = span_sum rows i

-- the lengths that a row has, or a blank one past the last
pub lens_of_row : (rows : List Row) (i : ℕ) → ((get_or rows i blank).key_len ≡ get_or (key_lens rows) i 0) × ((get_or rows i blank).data_len ≡ get_or (data_lens rows) i 0)
lens_of_row [] i = (refl, refl)
lens_of_row (row ∷ rows) zero = (refl, refl)
lens_of_row (row ∷ rows) (suc i) = lens_of_row rows i

-- the lists took the row on, and it tells the same
pub described_rests : (rows mid rows' : List Row) (i k d : ℕ) (tag : Tag) → rests rows' ≡ rests mid → Described rows mid i k d tag → Described rows rows' i k d tag
described_rests rows mid rows' i k d tag e told =
    record {
      key_lens_are = column_of_rest rest (λ r. r.key_len) (λ _. refl) mid rows' e ∙ told.key_lens_are;
      data_lens_are = column_of_rest rest (λ r. r.data_len) (λ _. refl) mid rows' e ∙ told.data_lens_are;
      chains_stay = column_of_rest rest (λ r. r.chain) (λ _. refl) mid rows' e ∙ told.chains_stay;
      tags_are = column_of_rest rest (λ r. r.tag) (λ _. refl) mid rows' e ∙ told.tags_are;
    }

module _ (rows rows' : List Row) (i k d : ℕ) (tag : Tag) (told : Described rows rows' i k d tag) where
  pub key_len_there : i < length rows → get_or (key_lens rows') i 0 ≡ k
  key_len_there lt = ap (λ xs. get_or xs i 0) told.key_lens_are ∙ get_or-set_same (key_lens rows) i k 0 (simp length-map lt)

  pub data_len_there : i < length rows → get_or (data_lens rows') i 0 ≡ d
  data_len_there lt = ap (λ xs. get_or xs i 0) told.data_lens_are ∙ get_or-set_same (data_lens rows) i d 0 (simp length-map lt)

  pub key_len_off : (j : ℕ) → (j ≡ i → ⊥) → get_or (key_lens rows') j 0 ≡ get_or (key_lens rows) j 0
  key_len_off j ne = ap (λ xs. get_or xs j 0) told.key_lens_are ∙ get_or-set_other (key_lens rows) i j k 0 ne

  pub data_len_off : (j : ℕ) → (j ≡ i → ⊥) → get_or (data_lens rows') j 0 ≡ get_or (data_lens rows) j 0
  data_len_off j ne = ap (λ xs. get_or xs j 0) told.data_lens_are ∙ get_or-set_other (data_lens rows) i j d 0 ne

  -- another row's record is as long as it was
  pub span_off : (j : ℕ) → (j ≡ i → ⊥) → get_or (spans_of rows') j 0 ≡ get_or (spans_of rows) j 0
  span_off j ne =
      let a = span_sum rows' j in
      let b = span_sum rows j in
      let c = key_len_off j ne in
      let e = data_len_off j ne in
      omega arith

  -- the records fit their chunks still, if this one does
  pub fitting_described : (l : Layout) → i < length rows → Fitting l (homes rows) (spans_of rows) → ((class : ℕ) → get_or (homes rows) i 0 ≡ held_of class → k + d ≤ get_or l.sizes class 0) → Fitting l (homes rows) (spans_of rows')
  fitting_described l lt was fits j class held =
      ⊎_elim
      (λ (e : j ≡ i).
      let a = span_sum rows' i in
      let b = key_len_there lt in
      let c = data_len_there lt in
      let same = ap (λ x. get_or (spans_of rows') x 0) e in
      let f = fits class (ap (λ x. get_or (homes rows) x 0) (sym e) ∙ held) in
      omega arith)
      (λ off. let a = span_off j off in let f = was j class held in omega arith)
      (cases_eq j i)

-- and all is in order still
pub sound_described : (s t : Slab) (i k d : ℕ) (tag : Tag) → Described (rows_of s) (rows_of t) i k d tag → i < length (rows_of s) → ((class : ℕ) → get_or (homes_of s) i 0 ≡ held_of class → k + d ≤ get_or (layout s).sizes class 0) → ((ls : ℕ → List ℕ) → Lists s ls → Lists t ls) → homes_of t ≡ homes_of s → layout t ≡ layout s → Sound s → Sound t
sound_described s t i k d tag told within fits lists stay same z =
    subst (λ l. InOrder t.classes.all (rows_of t) l) (sym same)
    (order_same s.classes.all t.classes.all (rows_of s) (rows_of t) (layout s) z lists stay (fitting_described (rows_of s) (rows_of t) i k d tag told (layout s) within z.fitting fits))

-- columns of lengths that stay
pub spans_stay : (rows rows' : List Row) → key_lens rows' ≡ key_lens rows → data_lens rows' ≡ data_lens rows → (j : ℕ) → get_or (spans_of rows') j 0 ≡ get_or (spans_of rows) j 0
spans_stay rows rows' keys blocks j =
    let a = span_sum rows' j in
    let b = span_sum rows j in
    let k = ap (λ xs. get_or xs j 0) keys in
    let d = ap (λ xs. get_or xs j 0) blocks in
    omega arith

-- the record of another row after a chunk was written
pub record_kept : (s t : Slab) (i k d : ℕ) (tag : Tag) (memory memory' : List ℕ) → layout t ≡ layout s → Described (rows_of s) (rows_of t) i k d tag → (j : ℕ) → (j ≡ i → ⊥) → get_or (spans_of (rows_of s)) j 0 ≤ size_at (layout s) j → chunk_of s memory' j ≡ chunk_of s memory j → (key_of t memory' j ≡ key_of s memory j) × (data_of t memory' j ≡ data_of s memory j)
record_kept s t i k d tag memory memory' same told j ne room kept =
    let l = layout s in
    let at = ap (λ x. start x j) same in
    let kl = key_len_off (rows_of s) (rows_of t) i k d tag told j ne in
    let dl = data_len_off (rows_of s) (rows_of t) i k d tag told j ne in
    let sum = span_sum (rows_of s) j in
    let n = get_or (key_lens (rows_of s)) j 0 in
    let m = get_or (data_lens (rows_of s)) j 0 in
    let a : start l j + 0 ≡ start l j = omega arith in (
      ap (λ x. bytes_at memory' x (get_or (key_lens (rows_of t)) j 0)) at
          ∙ ap (λ x. bytes_at memory' (start l j) x) kl
          ∙ ap (λ x. bytes_at memory' x n) (sym a)
          ∙ bytes_part memory memory' (start l j) (size_at l j) 0 n (omega arith) kept
          ∙ ap (λ x. bytes_at memory x n) a,
      ap (λ x. bytes_at memory' (x + get_or (key_lens (rows_of t)) j 0) (get_or (data_lens (rows_of t)) j 0)) at
          ∙ ap (λ x. bytes_at memory' (start l j + x) (get_or (data_lens (rows_of t)) j 0)) kl
          ∙ ap (λ x. bytes_at memory' (start l j + n) x) dl
          ∙ bytes_part memory memory' (start l j) (size_at l j) n m (omega arith) kept,
    )

-- the record that was written
pub record_there : (s t : Slab) (i : ℕ) (tag : Tag) (memory memory' key block : List ℕ) → i < length (rows_of s) → layout t ≡ layout s → Described (rows_of s) (rows_of t) i (length key) (length block) tag → Written memory memory' (start (layout s) i) key block → (key_of t memory' i ≡ key) × (data_of t memory' i ≡ block)
record_there s t i tag memory memory' key block lt same told w =
    let at = ap (λ x. start x i) same in
    let kl = key_len_there (rows_of s) (rows_of t) i (length key) (length block) tag told lt in
    let dl = data_len_there (rows_of s) (rows_of t) i (length key) (length block) tag told lt in (
      ap (λ x. bytes_at memory' x (get_or (key_lens (rows_of t)) i 0)) at ∙ ap (λ x. bytes_at memory' (start (layout s) i) x) kl ∙ w.key_there,
      ap (λ x. bytes_at memory' (x + get_or (key_lens (rows_of t)) i 0) (get_or (data_lens (rows_of t)) i 0)) at
          ∙ ap (λ x. bytes_at memory' (start (layout s) i + x) (get_or (data_lens (rows_of t)) i 0)) kl
          ∙ ap (λ x. bytes_at memory' (start (layout s) i + length key) x) dl
          ∙ w.block_there,
    )

-- a record lies in page memory
pub record_end : (s : Slab) → ∥ Sound s ∥₁ → (i : ℕ) → Holds s i → (start (layout s) i + (get_or (key_lens (rows_of s)) i 0 + get_or (data_lens (rows_of s)) i 0) ≤ 4096 * s.pages) × (s.pages ≤ 256)
record_end s t i held =
    let some : 0 < get_or (homes_of s) i 0 = omega arith in
    let inside = chunk_inside s t i some in
    let page = page_within s t i some in
    let fits = record_fits s t i held in
    let sum = span_sum (rows_of s) i in
    (omega arith, ∥∥₁_elim t le_prop (λ z. z.placed.few))
