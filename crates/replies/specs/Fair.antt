-- Which replies the table can give, and that each of them fits the buffer.
use Rattle.std.specs.Prelude.{ℕ, ◌+◌, ◌^◌, ◌<◌, ◌≤◌, length}
use Rattle.std.specs.List.{AllByRecursion}
use Rattle.replies.specs.declared.kinds.Figures.{Figures}
use Rattle.replies.specs.Reply.{Shown, Reply, Line, Values, Statistics, Silent}
use Rattle.replies.specs.Render.{render}

-- A record that the table can hold: a key of 1 to 250 bytes, key and data together in one page of 4,096 bytes,
-- flags of 32 bits, a cas number of 64.
pub record FairShown (s : Shown) : Type 0 where
  pub some : 1 ≤ length s.key
  pub short : length s.key ≤ 250
  pub page : length s.key + length s.block ≤ 4096
  pub flags : s.flags < 2 ^ 32
  pub cas : s.cas < 2 ^ 64

-- figures of 64 bits
pub record FairFigures (f : Figures) : Type 0 where
  pub limit_pages : f.limit_pages < 2 ^ 64
  pub free_pages : f.free_pages < 2 ^ 64
  pub curr_items : f.curr_items < 2 ^ 64
  pub total_items : f.total_items < 2 ^ 64
  pub replaced : f.replaced < 2 ^ 64
  pub deleted : f.deleted < 2 ^ 64
  pub flushed : f.flushed < 2 ^ 64
  pub expired : f.expired < 2 ^ 64
  pub evictions : f.evictions < 2 ^ 64
  pub dropped : f.dropped < 2 ^ 64
  pub get_hits : f.get_hits < 2 ^ 64
  pub get_misses : f.get_misses < 2 ^ 64
  pub curr_connections : f.curr_connections < 2 ^ 64
  pub hash_slots : f.hash_slots < 2 ^ 64

-- a reply that the table can give: any fixed line, at most four records, any figures, or nothing
abbrev pub Fair : Reply → Type 0
Fair (Line t) = Unit {0}
Fair (Values numbered xs) = (length xs ≤ 4) × AllByRecursion FairShown xs
Fair (Statistics f) = FairFigures f
Fair Silent = Unit {0}

-- no reply that the table can give is longer than `n` bytes
abbrev pub EveryReplyFits : ℕ → Type 0
EveryReplyFits n = (r : Reply) → Fair r → length (render r) ≤ n
