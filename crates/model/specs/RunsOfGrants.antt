-- Runs of a class that is full: what gives way, and in which order.
use Rattle.std.specs.Prelude.{[], ◌∷◌, ◌++◌}
use Rattle.model.specs.Scripts.{every_use, refusing, line, many, with_data, value, end, statistics, admit, ask, Script, script}

-- The least recently used of a full class goes, a moved one stays (policy 0)
abbrev pub least_recent_goes : Script
least_recent_goes =
    script 1024 200 1 16 every_use
    (admit 1 0 0
    ∷ ask 1 1 (with_data "set a 0 0 900" (many 900 "x")) (line "STORED")
    ∷ ask 1 2 (with_data "set b 0 0 900" (many 900 "x")) (line "STORED")
    ∷ ask 1 3 (with_data "set c 0 0 900" (many 900 "x")) (line "STORED")
    ∷ ask 1 4 (with_data "set d 0 0 900" (many 900 "x")) (line "STORED")
    ∷ ask 1 5 (line "get a") (value "a 0 900" (many 900 "x") ++ end)
    ∷ ask 1 6 (with_data "set e 7 0 1000" (many 1000 "y")) (line "STORED")
    ∷ ask 1 7 (line "get b") end
    ∷ ask 1 7 (line "get a c d e") (value "a 0 900" (many 900 "x") ++ value "c 0 900" (many 900 "x") ++ value "d 0 900" (many 900 "x") ++ value "e 7 1000" (many 1000 "y") ++ end)
    ∷ ask 1 8 (line "stats") (statistics ("1" ∷ "0" ∷ "4" ∷ "5" ∷ "0" ∷ "0" ∷ "0" ∷ "0" ∷ "1" ∷ "0" ∷ "5" ∷ "1" ∷ "1" ∷ "16" ∷ []))
    ∷ [])

-- A dead record in the middle is reclaimed before the live rearmost one
abbrev pub dead_in_the_middle : Script
dead_in_the_middle =
    script 1024 200 1 16 every_use
    (admit 1 0 0
    ∷ ask 1 1 (with_data "set a 0 0 900" (many 900 "x")) (line "STORED")
    ∷ ask 1 2 (with_data "set b 0 10 900" (many 900 "x")) (line "STORED")
    ∷ ask 1 3 (with_data "set c 0 0 900" (many 900 "x")) (line "STORED")
    ∷ ask 1 4 (with_data "set d 0 0 900" (many 900 "x")) (line "STORED")
    ∷ ask 1 20 (with_data "set e 0 0 900" (many 900 "x")) (line "STORED")
    ∷ ask 1 20 (line "get a") (value "a 0 900" (many 900 "x") ++ end)
    ∷ ask 1 20 (line "get b") end
    ∷ ask 1 20 (line "stats") (statistics ("1" ∷ "0" ∷ "4" ∷ "5" ∷ "0" ∷ "0" ∷ "0" ∷ "1" ∷ "0" ∷ "0" ∷ "1" ∷ "1" ∷ "1" ∷ "16" ∷ []))
    ∷ [])

-- Two dead records: the one nearer the back goes
abbrev pub dead_nearest_the_back : Script
dead_nearest_the_back =
    script 1024 200 1 16 refusing
    (admit 1 0 0
    ∷ ask 1 1 (with_data "set a 0 0 900" (many 900 "x")) (line "STORED")
    ∷ ask 1 2 (with_data "set b 0 10 900" (many 900 "x")) (line "STORED")
    ∷ ask 1 3 (with_data "set c 0 5 900" (many 900 "x")) (line "STORED")
    ∷ ask 1 4 (with_data "set d 0 0 900" (many 900 "x")) (line "STORED")
    ∷ ask 1 20 (with_data "set e 0 0 900" (many 900 "x")) (line "STORED")
    ∷ ask 1 20 (line "stats") (statistics ("1" ∷ "0" ∷ "4" ∷ "5" ∷ "0" ∷ "0" ∷ "0" ∷ "1" ∷ "0" ∷ "0" ∷ "0" ∷ "0" ∷ "1" ∷ "16" ∷ []))
    ∷ ask 1 20 (with_data "set f 0 0 900" (many 900 "x")) (line "STORED")
    ∷ ask 1 20 (with_data "set g 0 0 900" (many 900 "x")) (line "SERVER_ERROR out of memory storing object")
    ∷ ask 1 20 (line "stats") (statistics ("1" ∷ "0" ∷ "4" ∷ "6" ∷ "0" ∷ "0" ∷ "0" ∷ "2" ∷ "0" ∷ "0" ∷ "0" ∷ "0" ∷ "1" ∷ "16" ∷ []))
    ∷ [])

-- A set whose grant takes its own old record: evicted, not replaced
abbrev pub its_own_record_evicted : Script
its_own_record_evicted =
    script 1024 200 1 16 every_use
    (admit 1 0 0
    ∷ ask 1 1 (with_data "set a 0 0 900" (many 900 "x")) (line "STORED")
    ∷ ask 1 2 (with_data "set b 0 0 900" (many 900 "x")) (line "STORED")
    ∷ ask 1 3 (with_data "set c 0 0 900" (many 900 "x")) (line "STORED")
    ∷ ask 1 4 (with_data "set d 0 0 900" (many 900 "x")) (line "STORED")
    ∷ ask 1 5 (with_data "set a 0 0 901" (many 901 "z")) (line "STORED")
    ∷ ask 1 6 (line "get a b") (value "a 0 901" (many 901 "z") ++ value "b 0 900" (many 900 "x") ++ end)
    ∷ ask 1 6 (line "get c d") (value "c 0 900" (many 900 "x") ++ value "d 0 900" (many 900 "x") ++ end)
    ∷ ask 1 6 (line "stats") (statistics ("1" ∷ "0" ∷ "4" ∷ "5" ∷ "0" ∷ "0" ∷ "0" ∷ "0" ∷ "1" ∷ "0" ∷ "4" ∷ "0" ∷ "1" ∷ "16" ∷ []))
    ∷ [])

-- A set whose grant takes another record: that one evicted, the old one replaced
abbrev pub another_evicted : Script
another_evicted =
    script 1024 200 1 16 every_use
    (admit 1 0 0
    ∷ ask 1 1 (with_data "set a 0 0 900" (many 900 "x")) (line "STORED")
    ∷ ask 1 2 (with_data "set b 0 0 900" (many 900 "x")) (line "STORED")
    ∷ ask 1 3 (with_data "set c 0 0 900" (many 900 "x")) (line "STORED")
    ∷ ask 1 4 (with_data "set d 0 0 900" (many 900 "x")) (line "STORED")
    ∷ ask 1 5 (with_data "set d 0 0 901" (many 901 "z")) (line "STORED")
    ∷ ask 1 6 (line "get a") end
    ∷ ask 1 6 (line "get d") (value "d 0 901" (many 901 "z") ++ end)
    ∷ ask 1 6 (line "stats") (statistics ("1" ∷ "0" ∷ "3" ∷ "5" ∷ "1" ∷ "0" ∷ "0" ∷ "0" ∷ "1" ∷ "0" ∷ "1" ∷ "1" ∷ "1" ∷ "16" ∷ []))
    ∷ ask 1 7 (with_data "set f 0 0 900" (many 900 "x")) (line "STORED")
    ∷ ask 1 7 (line "stats") (statistics ("1" ∷ "0" ∷ "4" ∷ "6" ∷ "1" ∷ "0" ∷ "0" ∷ "0" ∷ "1" ∷ "0" ∷ "1" ∷ "1" ∷ "1" ∷ "16" ∷ []))
    ∷ [])
