-- The line of a request, and its tokens.
use Rattle.std.specs.Prelude.{ℕ, suc, cond, List, [], ◌∷◌, take, Some, None, Option, ◌==◌}
use Rattle.std.specs.Str.{bytes_eq}

-- The two bytes that end a line and a data block: CR, LF.
abbrev pub crlf : List ℕ
crlf = 13 ∷ 10 ∷ []

-- One place further on.
abbrev pub later : Option ℕ → Option ℕ
later None = None
later (Some n) = Some (suc n)

-- The place of the first CR that has an LF right behind it.
abbrev pub first_crlf : List ℕ → Option ℕ
first_crlf [] = None
first_crlf (b ∷ bs) = cond (bytes_eq (take 2 (b ∷ bs)) crlf) (Some 0) (later (first_crlf bs))

-- Where the line ends: the place of the CR of the first CR LF, if both bytes of it lie within the first 2,048 bytes.
abbrev pub line_end : List ℕ → Option ℕ
line_end bytes = first_crlf (take 2048 bytes)

-- A byte put before the first piece.
abbrev pub onto : ℕ → List (List ℕ) → List (List ℕ)
onto c [] = (c ∷ []) ∷ []
onto c (p ∷ ps) = (c ∷ p) ∷ ps

-- A line cut at each of its spaces (byte 32): between two spaces that follow one another lies an empty piece.
abbrev pub pieces : List ℕ → List (List ℕ)
pieces [] = [] ∷ []
pieces (c ∷ cs) = cond (c == 32) ([] ∷ pieces cs) (onto c (pieces cs))

-- The pieces that are not empty.
abbrev pub filled : List (List ℕ) → List (List ℕ)
filled [] = []
filled ([] ∷ ps) = filled ps
filled ((c ∷ p) ∷ ps) = (c ∷ p) ∷ filled ps

-- The tokens of a line: its longest runs of bytes that are not spaces, in their order.
abbrev pub tokens : List ℕ → List (List ℕ)
tokens line = filled (pieces line)
