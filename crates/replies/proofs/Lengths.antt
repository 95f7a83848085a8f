-- How long each line is.
use Rattle.std.proofs.Common.{◌≡◌, ℕ, ◌+◌, Bool, List, ◌++◌, length, codes, decimal, arith}
use Rattle.std.proofs.lemmas.List.{length-append}
use Rattle.replies.specs.declared.kinds.Figures.{Figures}
use Rattle.replies.specs.Reply.{Shown}
use Rattle.replies.specs.Render.{value_head, cas_part, value_lines, end_line, stat_line, holding_lines, leaving_lines, asking_lines, stat_lines}

-- how long a record's first line is, up to the length of its data
pub length_value_head : (key : List ℕ) (flags bytes : ℕ) → length (value_head key flags bytes) ≡ 8 + length key + length (decimal flags) + length (decimal bytes)
length_value_head key flags bytes = simp length-append (omega arith)

-- how long a record shown is
pub length_value_lines : (numbered : Bool) (s : Shown) → length (value_lines numbered s) ≡ length (value_head s.key s.flags (length s.block)) + length (cas_part numbered s.cas) + length s.block + 4
length_value_lines numbered s = simp length-append (omega arith)

-- how long one figure's line is
pub length_stat_line : (label : List ℕ) (n : ℕ) → length (stat_line label n) ≡ 8 + length label + length (decimal n)
length_stat_line label n = simp length-append (omega arith)

-- the figures, a line each
pub length_holding : (f : Figures) → length (holding_lines f) ≡ length (stat_line (codes "limit_pages") f.limit_pages) + length (stat_line (codes "free_pages") f.free_pages) + length (stat_line (codes "curr_items") f.curr_items) + length (stat_line (codes "total_items") f.total_items)
length_holding f = simp length-append (omega arith)

pub length_leaving : (f : Figures) → length (leaving_lines f) ≡ length (stat_line (codes "replaced") f.«replaced») + length (stat_line (codes "deleted") f.«deleted») + length (stat_line (codes "flushed") f.«flushed») + length (stat_line (codes "expired") f.«expired») + length (stat_line (codes "evictions") f.«evictions») + length (stat_line (codes "dropped") f.«dropped»)
length_leaving f = simp length-append (omega arith)

pub length_asking : (f : Figures) → length (asking_lines f) ≡ length (stat_line (codes "get_hits") f.get_hits) + length (stat_line (codes "get_misses") f.get_misses) + length (stat_line (codes "curr_connections") f.curr_connections) + length (stat_line (codes "hash_slots") f.hash_slots)
length_asking f = simp length-append (omega arith)

pub length_statistics : (f : Figures) → length (stat_lines f ++ end_line) ≡ length (holding_lines f) + length (leaving_lines f) + length (asking_lines f) + 5
length_statistics f = simp length-append (omega arith)
