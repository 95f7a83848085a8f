-- Bytes of page memory: what a write leaves of them, and that chunks lie apart.
use Rattle.std.proofs.Common.{◌≡◌, ℕ, suc, ◌+◌, ◌-◌, ◌*◌, ◌/◌, ◌%◌, ◌<◌, ◌≤◌, ◌⊎◌, List, length, get_or, take, drop, sym, ap, ◌∙◌, inl, inr, ⊎_elim, mul-le-mul_right, suc-mul, arith, length-append, length-drop, length-take}
use borrow.Rule.Slice.PartMut.{put_mid}
use Rattle.std.proofs.lemmas.List.{drop-take, drop_at, take-take, drop-drop, length-take-le}
use Rattle.std.proofs.lemmas.Slice.{take-put_mid_below, take-put_mid, drop-put_mid, between-put_mid}
use Rattle.std.proofs.lemmas.Bool.{cases_order}
use Rattle.slabs.specs.Layouts.{Layout, Placed, Chunk, class_at, size_at, start}
use Rattle.slabs.specs.Records.{bytes_at, Written}

-- a write of a key and then its data
module _ (memory key block key' block' : List ℕ) (at a b : ℕ) (room : at + length key + length block ≤ length memory) (ae : a ≡ length key) (be : b ≡ length block) (ke : key' ≡ key) (ble : block' ≡ block) where
  first : List ℕ
  first = put_mid at a memory key'

  first_long : at + length key ≤ length first
  unfolding first
  first_long = let l = ap length ke in simp (length-append, length-take, length-drop) (omega arith)

  pub written : Written memory (put_mid (at + length key) b (put_mid at a memory key') block') at key block
  unfolding first
  written =
      let k = ap length ke in
      let l = ap length ble in
      let t : length (take at memory) ≡ at = length-take-le at memory (omega arith) in
      record {
        key_there =
            sym (drop-take at (length key) (put_mid (at + length key) b first block'))
            ∙ ap (λ xs. drop at xs) (take-put_mid_below (at + length key) b first block' (at + length key) (omega arith) first_long ∙ take-put_mid at a memory key' (at + length key) (omega arith) (omega arith))
            ∙ drop_at (take at memory) key' at t ∙ ke;
        block_there =
            ap (λ n. take n (drop (at + length key) (put_mid (at + length key) b first block'))) {x = length block} {y = (at + length key + length block) - (at + length key)} (omega arith)
            ∙ between-put_mid (at + length key) b first block' (at + length key + length block) first_long (omega arith) ∙ ble;
        below = take-put_mid_below (at + length key) b first block' at (omega arith) first_long ∙ take-put_mid_below at a memory key' at (omega arith) (omega arith);
        above = drop-put_mid (at + length key) b first block' (at + length key + length block) (omega arith) first_long (omega arith) ∙ drop-put_mid at a memory key' (at + length key + length block) (omega arith) (omega arith) (omega arith);
      }

-- bytes that lie below a write, or above it
pub bytes_below : (memory memory' : List ℕ) (x n at : ℕ) → x + n ≤ at → take at memory' ≡ take at memory → bytes_at memory' x n ≡ bytes_at memory x n
bytes_below memory memory' x n at le e =
    sym (drop-take x n memory')
    ∙ ap (λ xs. drop x xs) (sym (take-take (x + n) at memory' le) ∙ ap (λ xs. take (x + n) xs) e ∙ take-take (x + n) at memory le)
    ∙ drop-take x n memory

pub bytes_above : (memory memory' : List ℕ) (x n end : ℕ) → end ≤ x → drop end memory' ≡ drop end memory → bytes_at memory' x n ≡ bytes_at memory x n
bytes_above memory memory' x n end le e =
    let far : end + (x - end) ≡ x = omega arith in
    let back : (m : List ℕ) → drop x m ≡ drop (x - end) (drop end m) = λ m. ap (λ k. drop k m) (sym far) ∙ sym (drop-drop (x - end) end m) in
    ap (λ xs. take n xs) (back memory' ∙ ap (λ xs. drop (x - end) xs) e ∙ sym (back memory))

-- a part of bytes that stay
pub bytes_part : (memory memory' : List ℕ) (x n o m : ℕ) → o + m ≤ n → bytes_at memory' x n ≡ bytes_at memory x n → bytes_at memory' (x + o) m ≡ bytes_at memory (x + o) m
bytes_part memory memory' x n o m le e = of memory' ∙ ap (λ xs. take m (drop o xs)) e ∙ sym (of memory)
  where
    of : (mem : List ℕ) → bytes_at mem (x + o) m ≡ take m (drop o (bytes_at mem x n))
    of mem =
        ap (λ xs. take m xs) (sym (drop-drop o x mem))
        ∙ sym (drop-take o m (drop x mem))
        ∙ ap (λ xs. drop o xs) (sym (take-take (o + m) n (drop x mem) le))
        ∙ drop-take o m (take n (drop x mem))

-- a chunk ends before the next one of its page begins
chunk_ends : (size j k : ℕ) → j < k → j * size + size ≤ k * size
chunk_ends size j k lt =
    let m : suc j * size ≤ k * size = mul-le-mul_right size lt in
    let e = suc-mul j size in
    omega arith

-- the end of a chunk
abbrev end_of : Layout → ℕ → ℕ
end_of l i = start l i + size_at l i

module _ (l : Layout) (homes : List ℕ) (p : Placed l homes) where
  page_inside : (i : ℕ) → Chunk l i → start l i + size_at l i ≤ i / 85 * 4096 + 4096
  page_inside i chunk = let h = p.inside (class_at l i) (i % 85) chunk in omega arith

  earlier_page : (i j : ℕ) → Chunk l i → i / 85 < j / 85 → start l i + size_at l i ≤ start l j
  earlier_page i j chunk lt = let h = page_inside i chunk in omega arith

  earlier_place : (i j : ℕ) → i / 85 ≡ j / 85 → i % 85 < j % 85 → start l i + size_at l i ≤ start l j
  earlier_place i j e lt =
      let h = chunk_ends (size_at l i) (i % 85) (j % 85) lt in
      let s : size_at l i ≡ size_at l j = ap (λ q. get_or l.sizes (get_or l.owners q 0) 0) e in
      let q = ap (λ x. j % 85 * x) s in
      omega arith

  -- chunks of different rows lie apart
  pub chunks_apart : (i j : ℕ) → Chunk l i → Chunk l j → (i ≡ j → ⊥) → (start l i + size_at l i ≤ start l j) ⊎ (start l j + size_at l j ≤ start l i)
  chunks_apart i j ci cj ne =
      ⊎_elim
      (λ (same : i / 85 ≡ j / 85).
      ⊎_elim
      (λ (alike : i % 85 ≡ j % 85). absurd (ne (omega arith)))
      (⊎_elim (λ lt. inl (earlier_place i j same lt)) (λ gt. inr (earlier_place j i (sym same) gt)))
      (cases_order (i % 85) (j % 85)))
      (⊎_elim (λ lt. inl (earlier_page i j ci lt)) (λ gt. inr (earlier_page j i cj gt)))
      (cases_order (i / 85) (j / 85))

-- a chunk that lies apart from the one that is written stays as it is
pub chunk_kept : (l : Layout) (memory memory' : List ℕ) (i j : ℕ) (key block : List ℕ) → (start l j + size_at l j ≤ start l i) ⊎ (start l i + size_at l i ≤ start l j) → length key + length block ≤ size_at l i → Written memory memory' (start l i) key block → bytes_at memory' (start l j) (size_at l j) ≡ bytes_at memory (start l j) (size_at l j)
chunk_kept l memory memory' i j key block apart fits w =
    ⊎_elim
    (λ below. bytes_below memory memory' (start l j) (size_at l j) (start l i) below w.below)
    (λ above. bytes_above memory memory' (start l j) (size_at l j) (start l i + length key + length block) (omega arith) w.above)
    apart
