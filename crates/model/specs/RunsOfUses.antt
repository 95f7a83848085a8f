-- Runs about what is a use, and when a use moves a record.
use Rattle.std.specs.Prelude.{[], ◌∷◌, ◌++◌, codes}
use Rattle.model.specs.Scripts.{every_use, sixty_seconds, first_in, line, many, with_data, value, end, admit, ask, Script, script}

-- A first get
abbrev pub a_first_get : Script
a_first_get =
    script 96 125 4 512 every_use
    (admit 5 100 0
    ∷ ask 5 100 (with_data "set a 0 0 1" (codes "x")) (line "STORED")
    ∷ ask 5 100 (line "get a") (value "a 0 1" (codes "x") ++ end)
    ∷ ask 5 100 (line "gets a b") (value "a 0 1 1" (codes "x") ++ end)
    ∷ [])

-- Policy 1: at 159 nothing moves, at 160 it does
abbrev pub sixty_seconds_pass : Script
sixty_seconds_pass =
    script 1024 200 1 16 sixty_seconds
    (admit 1 0 0
    ∷ ask 1 100 (with_data "set a 0 0 900" (many 900 "x")) (line "STORED")
    ∷ ask 1 100 (with_data "set b 0 0 900" (many 900 "x")) (line "STORED")
    ∷ ask 1 100 (with_data "set c 0 0 900" (many 900 "x")) (line "STORED")
    ∷ ask 1 100 (with_data "set d 0 0 900" (many 900 "x")) (line "STORED")
    ∷ ask 1 159 (line "get a") (value "a 0 900" (many 900 "x") ++ end)
    ∷ ask 1 159 (with_data "set e 0 0 900" (many 900 "x")) (line "STORED")
    ∷ ask 1 159 (line "get a") end
    ∷ ask 1 160 (line "get b") (value "b 0 900" (many 900 "x") ++ end)
    ∷ ask 1 160 (with_data "set f 0 0 900" (many 900 "x")) (line "STORED")
    ∷ ask 1 160 (line "get b c") (value "b 0 900" (many 900 "x") ++ end)
    ∷ [])

-- Policy 2: first in, first out, but a set counts as new
abbrev pub first_in_first_out : Script
first_in_first_out =
    script 1024 200 1 16 first_in
    (admit 1 0 0
    ∷ ask 1 1 (with_data "set a 0 0 900" (many 900 "x")) (line "STORED")
    ∷ ask 1 2 (with_data "set b 0 0 900" (many 900 "x")) (line "STORED")
    ∷ ask 1 3 (with_data "set c 0 0 900" (many 900 "x")) (line "STORED")
    ∷ ask 1 4 (with_data "set b 0 0 900" (many 900 "w")) (line "STORED")
    ∷ ask 1 5 (line "get a") (value "a 0 900" (many 900 "x") ++ end)
    ∷ ask 1 6 (with_data "set d 0 0 900" (many 900 "x")) (line "STORED")
    ∷ ask 1 7 (with_data "set e 0 0 900" (many 900 "x")) (line "STORED")
    ∷ ask 1 8 (line "get a b c d") (value "b 0 900" (many 900 "w") ++ value "c 0 900" (many 900 "x") ++ value "d 0 900" (many 900 "x") ++ end)
    ∷ ask 1 8 (line "get e") (value "e 0 900" (many 900 "x") ++ end)
    ∷ [])

-- add is a use; EXISTS is none; touch is one and keeps the cas number
abbrev pub what_is_a_use : Script
what_is_a_use =
    script 1024 200 1 16 every_use
    (admit 1 0 0
    ∷ ask 1 1 (with_data "set a 0 0 900" (many 900 "x")) (line "STORED")
    ∷ ask 1 2 (with_data "set b 0 0 900" (many 900 "x")) (line "STORED")
    ∷ ask 1 3 (with_data "set c 0 0 900" (many 900 "x")) (line "STORED")
    ∷ ask 1 4 (with_data "set d 0 0 900" (many 900 "x")) (line "STORED")
    ∷ ask 1 5 (with_data "add a 0 0 900" (many 900 "q")) (line "NOT_STORED")
    ∷ ask 1 6 (with_data "cas b 0 0 900 9" (many 900 "q")) (line "EXISTS")
    ∷ ask 1 7 (line "touch c 0") (line "TOUCHED")
    ∷ ask 1 8 (with_data "set e 0 0 900" (many 900 "x")) (line "STORED")
    ∷ ask 1 8 (line "gets a b c") (value "a 0 900 1" (many 900 "x") ++ value "c 0 900 3" (many 900 "x") ++ end)
    ∷ ask 1 9 (with_data "set f 0 0 900" (many 900 "x")) (line "STORED")
    ∷ ask 1 9 (line "gets a d c") (value "a 0 900 1" (many 900 "x") ++ value "c 0 900 3" (many 900 "x") ++ end)
    ∷ [])
