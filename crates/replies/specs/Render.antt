-- How each reply is written: the one function from replies to bytes, `render`. Every line ends in CR LF.
use Rattle.std.specs.Prelude.{ℕ, Bool, true, false, List, [], ◌∷◌, ◌++◌, length, codes, decimal}
use Rattle.std.specs.List.{flat_map}
use Rattle.replies.specs.declared.kinds.Text.{Text}
use Rattle.replies.specs.declared.kinds.Text.TheVariants.{Error, BadLine, BadData, TooLarge, OutOfMemory, Stored, NotStored, Exists, NotFound, Deleted, Touched, Done, Version}
use Rattle.replies.specs.declared.kinds.Figures.{Figures}
use Rattle.replies.specs.Reply.{Shown, Reply, Line, Values, Statistics, Silent}

-- what ends a line: CR LF
abbrev pub crlf : List ℕ
crlf = 13 ∷ 10 ∷ []

-- the words of a fixed line
abbrev pub words : Text → List ℕ
words Error = codes "ERROR"
words BadLine = codes "CLIENT_ERROR bad command line format"
words BadData = codes "CLIENT_ERROR bad data chunk"
words TooLarge = codes "SERVER_ERROR object too large for cache"
words OutOfMemory = codes "SERVER_ERROR out of memory storing object"
words Stored = codes "STORED"
words NotStored = codes "NOT_STORED"
words Exists = codes "EXISTS"
words NotFound = codes "NOT_FOUND"
words Deleted = codes "DELETED"
words Touched = codes "TOUCHED"
words Done = codes "OK"
words Version = codes "VERSION 1"

-- a fixed line
abbrev pub text_line : Text → List ℕ
text_line t = words t ++ crlf

-- the first line of a record shown, up to the length of its data: `VALUE key flags bytes`
abbrev pub value_head : List ℕ → ℕ → ℕ → List ℕ
value_head key flags bytes = codes "VALUE " ++ key ++ codes " " ++ decimal flags ++ codes " " ++ decimal bytes

-- the cas number behind that, where one is asked for
abbrev pub cas_part : Bool → ℕ → List ℕ
cas_part true n = codes " " ++ decimal n
cas_part false n = []

-- a record shown: its first line, then its data, each with CR LF
abbrev pub value_lines : Bool → Shown → List ℕ
value_lines numbered s =
    value_head s.key s.flags (length s.block) ++ cas_part numbered s.cas ++ crlf ++ s.block ++ crlf

-- what ends the records shown, and the statistics
abbrev pub end_line : List ℕ
end_line = codes "END" ++ crlf

-- one figure of the statistics
abbrev pub stat_line : List ℕ → ℕ → List ℕ
stat_line name n = codes "STAT " ++ name ++ codes " " ++ decimal n ++ crlf

-- the figures of pages and of records held
abbrev pub holding_lines : Figures → List ℕ
holding_lines f =
    stat_line (codes "limit_pages") f.limit_pages
    ++ stat_line (codes "free_pages") f.free_pages
    ++ stat_line (codes "curr_items") f.curr_items
    ++ stat_line (codes "total_items") f.total_items

-- the figures of records that left, by how they left
abbrev pub leaving_lines : Figures → List ℕ
leaving_lines f =
    stat_line (codes "replaced") f.replaced
    ++ stat_line (codes "deleted") f.deleted
    ++ stat_line (codes "flushed") f.flushed
    ++ stat_line (codes "expired") f.expired
    ++ stat_line (codes "evictions") f.evictions
    ++ stat_line (codes "dropped") f.dropped

-- the figures of what was asked, by whom, and of the hash table
abbrev pub asking_lines : Figures → List ℕ
asking_lines f =
    stat_line (codes "get_hits") f.get_hits
    ++ stat_line (codes "get_misses") f.get_misses
    ++ stat_line (codes "curr_connections") f.curr_connections
    ++ stat_line (codes "hash_slots") f.hash_slots

-- all figures, in the order of the protocol
abbrev pub stat_lines : Figures → List ℕ
stat_lines f = holding_lines f ++ leaving_lines f ++ asking_lines f

-- the bytes of a reply
abbrev pub render : Reply → List ℕ
render (Line t) = text_line t
render (Values numbered xs) = flat_map (value_lines numbered) xs ++ end_line
render (Statistics f) = stat_lines f ++ end_line
render Silent = []
