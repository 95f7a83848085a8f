-- Runs in which a record finds no place: who keeps the old record, and who loses it.
use Rattle.std.specs.Prelude.{[], ◌∷◌, ◌++◌, codes}
use Rattle.model.specs.Scripts.{every_use, refusing, line, many, with_data, value, end, statistics, admit, ask, Script, script}

-- A policy that never evicts: set drops its old record, replace and add keep
abbrev pub never_evicting : Script
never_evicting =
    script 1024 200 1 16 refusing
    (admit 1 0 0
    ∷ ask 1 1 (with_data "set a 0 0 900" (many 900 "x")) (line "STORED")
    ∷ ask 1 2 (with_data "set b 0 0 900" (many 900 "x")) (line "STORED")
    ∷ ask 1 3 (with_data "set c 0 0 900" (many 900 "x")) (line "STORED")
    ∷ ask 1 4 (with_data "set d 0 0 900" (many 900 "x")) (line "STORED")
    ∷ ask 1 5 (with_data "replace b 0 0 901" (many 901 "z")) (line "SERVER_ERROR out of memory storing object")
    ∷ ask 1 5 (line "get b") (value "b 0 900" (many 900 "x") ++ end)
    ∷ ask 1 6 (with_data "add e 0 0 900" (many 900 "x")) (line "SERVER_ERROR out of memory storing object")
    ∷ ask 1 7 (with_data "set a 0 0 901" (many 901 "z")) (line "SERVER_ERROR out of memory storing object")
    ∷ ask 1 7 (line "get a") end
    ∷ ask 1 8 (with_data "add e 0 0 900" (many 900 "x")) (line "STORED")
    ∷ ask 1 8 (line "stats") (statistics ("1" ∷ "0" ∷ "4" ∷ "5" ∷ "0" ∷ "0" ∷ "0" ∷ "0" ∷ "0" ∷ "1" ∷ "1" ∷ "1" ∷ "1" ∷ "16" ∷ []))
    ∷ [])

-- Too large: set drops, cas and replace keep
abbrev pub too_large : Script
too_large =
    script 96 125 2 16 every_use
    (admit 1 0 0
    ∷ ask 1 1 (with_data "set a 0 0 1" (codes "x")) (line "STORED")
    ∷ ask 1 1 (with_data "replace a 0 0 4096" (many 4096 "x")) (line "SERVER_ERROR object too large for cache")
    ∷ ask 1 1 (line "get a") (value "a 0 1" (codes "x") ++ end)
    ∷ ask 1 1 (with_data "cas a 0 0 4096 1" (many 4096 "x")) (line "SERVER_ERROR object too large for cache")
    ∷ ask 1 1 (with_data "cas a 0 0 4096 2" (many 4096 "x")) (line "EXISTS")
    ∷ ask 1 1 (with_data "set a 0 0 4095" (many 4095 "x")) (line "STORED")
    ∷ ask 1 1 (with_data "set a 0 0 4096" (many 4096 "x")) (line "SERVER_ERROR object too large for cache")
    ∷ ask 1 1 (line "get a") end
    ∷ ask 1 1 (line "stats") (statistics ("2" ∷ "0" ∷ "0" ∷ "2" ∷ "1" ∷ "0" ∷ "0" ∷ "0" ∷ "0" ∷ "1" ∷ "1" ∷ "1" ∷ "1" ∷ "16" ∷ []))
    ∷ [])

-- Another class without a page: out of memory even though the policy evicts
abbrev pub no_page_for_the_class : Script
no_page_for_the_class =
    script 1024 200 1 16 every_use
    (admit 1 0 0
    ∷ ask 1 1 (with_data "set a 0 0 900" (many 900 "x")) (line "STORED")
    ∷ ask 1 2 (with_data "set a 0 0 1500" (many 1500 "x")) (line "SERVER_ERROR out of memory storing object")
    ∷ ask 1 3 (line "get a") end
    ∷ ask 1 3 (line "stats") (statistics ("1" ∷ "0" ∷ "0" ∷ "1" ∷ "0" ∷ "0" ∷ "0" ∷ "0" ∷ "0" ∷ "1" ∷ "0" ∷ "1" ∷ "1" ∷ "16" ∷ []))
    ∷ ask 1 4 (with_data "set b 0 0 1" (codes "x")) (line "STORED")
    ∷ ask 1 4 (line "get b") (value "b 0 1" (codes "x") ++ end)
    ∷ [])
