-- Every reply that the table can give fits 18,432 bytes.
use Rattle.std.proofs.Common.{ℕ, ◌+◌, ◌*◌, ◌^◌, ◌<◌, ◌≤◌, Bool, true, false, List, [], ◌∷◌, ◌++◌, length, codes, decimal, arith, lit≤}
use Rattle.std.specs.List.{flat_map, AllByRecursion}
use Rattle.std.proofs.lemmas.List.{length-append}
use Rattle.std.proofs.lemmas.Fmt.{length-decimal-le}
use Rattle.replies.specs.declared.kinds.Text.{Text}
use Rattle.replies.specs.declared.kinds.Text.TheVariants.{Error, BadLine, BadData, TooLarge, OutOfMemory, Stored, NotStored, Exists, NotFound, Deleted, Touched, Done, Version}
use Rattle.replies.specs.declared.kinds.Figures.{Figures}
use Rattle.replies.specs.Reply.{Shown, Line, Values, Statistics, Silent}
use Rattle.replies.specs.Render.{text_line, cas_part, value_lines, end_line, stat_line, stat_lines}
use Rattle.replies.specs.Fair.{FairShown, FairFigures, EveryReplyFits}
use Rattle.replies.proofs.Lengths.{length_value_head, length_value_lines, length_stat_line, length_holding, length_leaving, length_asking, length_statistics}

-- a number of 64 bits has at most twenty digits
digits_64 : (n : ℕ) → n < 2 ^ 64 → length (decimal n) ≤ 20
digits_64 n h = length-decimal-le 20 n (omega arith) (omega arith) h

cas_short : (numbered : Bool) (n : ℕ) → n < 2 ^ 64 → length (cas_part numbered n) ≤ 21
cas_short true n h = let d = digits_64 n h in simp length-append (omega arith)
cas_short false n h = omega arith

-- a record shown takes at most 4,143 bytes
pub value_short : (numbered : Bool) (s : Shown) → FairShown s → length (value_lines numbered s) ≤ 4143
value_short numbered s f =
    let all = length_value_lines numbered s in
    let head = length_value_head s.key s.flags (length s.block) in
    let flags = length-decimal-le 10 s.flags (omega arith) (omega (arith, f.flags)) (omega (arith, f.flags)) in
    let bytes = length-decimal-le 4 (length s.block) (omega arith) (omega (arith, f.page, f.some)) (omega (arith, f.page)) in
    let cas = cas_short numbered s.cas f.cas in
    omega (arith, f.page)

pub values_short : (numbered : Bool) (xs : List Shown) → AllByRecursion FairShown xs → length (flat_map (value_lines numbered) xs) ≤ 4143 * length xs
values_short numbered [] all = omega arith
values_short numbered (s ∷ xs) all =
    let one = value_short numbered s all.0 in
    let more = values_short numbered xs all.1 in
    omega (arith, length-append (value_lines numbered s) (flat_map (value_lines numbered) xs))

-- a fixed line takes at most 43 bytes
pub line_short : (t : Text) → length (text_line t) ≤ 43
line_short Error = lit≤ tt
line_short BadLine = lit≤ tt
line_short BadData = lit≤ tt
line_short TooLarge = lit≤ tt
line_short OutOfMemory = lit≤ tt
line_short Stored = lit≤ tt
line_short NotStored = lit≤ tt
line_short Exists = lit≤ tt
line_short NotFound = lit≤ tt
line_short Deleted = lit≤ tt
line_short Touched = lit≤ tt
line_short Done = lit≤ tt
line_short Version = lit≤ tt

-- a figure's line takes at most 28 bytes beside its name
stat_short : (label : List ℕ) (n : ℕ) → n < 2 ^ 64 → length (stat_line label n) ≤ length label + 28
stat_short label n h = omega (arith, length_stat_line label n, digits_64 n h)

-- the statistics take at most 14 lines of 44 bytes, and END
pub statistics_short : (f : Figures) → FairFigures f → length (stat_lines f ++ end_line) ≤ 621
statistics_short f fair =
    let a = stat_short (codes "limit_pages") f.limit_pages fair.limit_pages in
    let b = stat_short (codes "free_pages") f.free_pages fair.free_pages in
    let c = stat_short (codes "curr_items") f.curr_items fair.curr_items in
    let d = stat_short (codes "total_items") f.total_items fair.total_items in
    let e = stat_short (codes "replaced") f.«replaced» fair.replaced in
    let g = stat_short (codes "deleted") f.«deleted» fair.deleted in
    let h = stat_short (codes "flushed") f.«flushed» fair.flushed in
    let i = stat_short (codes "expired") f.«expired» fair.expired in
    let j = stat_short (codes "evictions") f.evictions fair.evictions in
    let k = stat_short (codes "dropped") f.«dropped» fair.dropped in
    let l = stat_short (codes "get_hits") f.get_hits fair.get_hits in
    let m = stat_short (codes "get_misses") f.get_misses fair.get_misses in
    let n = stat_short (codes "curr_connections") f.curr_connections fair.curr_connections in
    let o = stat_short (codes "hash_slots") f.hash_slots fair.hash_slots in
    omega (arith, length_holding f, length_leaving f, length_asking f, length_statistics f)

pub every_reply_fits : EveryReplyFits 18432
every_reply_fits (Line t) fair = let l = line_short t in omega arith
every_reply_fits (Values numbered xs) fair =
    let l = values_short numbered xs fair.1 in
    omega (arith, fair.0, length-append (flat_map (value_lines numbered) xs) end_line)
every_reply_fits (Statistics f) fair = let l = statistics_short f fair in omega arith
every_reply_fits Silent fair = omega arith
