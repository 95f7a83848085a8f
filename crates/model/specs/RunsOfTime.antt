-- Runs about expiry, flushing and the growth of the hash.
use Rattle.std.specs.Prelude.{[], ◌∷◌, ◌++◌, codes}
use Rattle.model.specs.Scripts.{every_use, line, with_data, value, end, statistics, admit, ask, Script, script}

-- Expiry: dead when found, counted once; negative is dead at once; the clock never runs back
abbrev pub when_records_die : Script
when_records_die =
    script 96 125 1 16 every_use
    (admit 1 0 0
    ∷ ask 1 100 (with_data "set a 0 50 1" (codes "x")) (line "STORED")
    ∷ ask 1 149 (line "get a") (value "a 0 1" (codes "x") ++ end)
    ∷ ask 1 150 (line "delete a") (line "NOT_FOUND")
    ∷ ask 1 100 (line "stats") (statistics ("1" ∷ "0" ∷ "0" ∷ "1" ∷ "0" ∷ "0" ∷ "0" ∷ "1" ∷ "0" ∷ "0" ∷ "1" ∷ "0" ∷ "1" ∷ "16" ∷ []))
    ∷ ask 1 150 (with_data "set b 0 -1 1" (codes "x")) (line "STORED")
    ∷ ask 1 150 (line "get b") end
    ∷ ask 1 150 (with_data "set c 0 2592000 1" (codes "x")) (line "STORED")
    ∷ ask 1 150 (with_data "set d 0 2592001 1" (codes "x")) (line "STORED")
    ∷ ask 1 2592001 (line "get c d") (value "c 0 1" (codes "x") ++ end)
    ∷ ask 1 2592150 (line "get c") end
    ∷ ask 1 0 (line "touch e 5") (line "NOT_FOUND")
    ∷ ask 1 0 (line "stats") (statistics ("1" ∷ "0" ∷ "0" ∷ "4" ∷ "0" ∷ "0" ∷ "0" ∷ "4" ∷ "0" ∷ "0" ∷ "2" ∷ "3" ∷ "1" ∷ "16" ∷ []))
    ∷ [])

-- flush_all counts the dead too
abbrev pub flushing : Script
flushing =
    script 96 125 1 16 every_use
    (admit 1 0 0
    ∷ ask 1 1 (with_data "set a 0 5 1" (codes "x")) (line "STORED")
    ∷ ask 1 1 (with_data "set b 0 0 1" (codes "x")) (line "STORED")
    ∷ ask 1 9 (line "flush_all") (line "OK")
    ∷ ask 1 9 (line "get a b") end
    ∷ ask 1 9 (line "stats") (statistics ("1" ∷ "0" ∷ "0" ∷ "2" ∷ "0" ∷ "0" ∷ "2" ∷ "0" ∷ "0" ∷ "0" ∷ "0" ∷ "2" ∷ "1" ∷ "16" ∷ []))
    ∷ [])

-- The record hash doubles when 2 x records passes 3 x slots
abbrev pub the_hash_doubles : Script
the_hash_doubles =
    script 96 125 1 64 every_use
    (admit 1 0 0
    ∷ ask 1 1 (with_data "set k0 0 0 1" (codes "x")) (line "STORED")
    ∷ ask 1 1 (with_data "set k1 0 0 1" (codes "x")) (line "STORED")
    ∷ ask 1 1 (with_data "set k2 0 0 1" (codes "x")) (line "STORED")
    ∷ ask 1 1 (with_data "set k3 0 0 1" (codes "x")) (line "STORED")
    ∷ ask 1 1 (with_data "set k4 0 0 1" (codes "x")) (line "STORED")
    ∷ ask 1 1 (with_data "set k5 0 0 1" (codes "x")) (line "STORED")
    ∷ ask 1 1 (with_data "set k6 0 0 1" (codes "x")) (line "STORED")
    ∷ ask 1 1 (with_data "set k7 0 0 1" (codes "x")) (line "STORED")
    ∷ ask 1 1 (with_data "set k8 0 0 1" (codes "x")) (line "STORED")
    ∷ ask 1 1 (with_data "set k9 0 0 1" (codes "x")) (line "STORED")
    ∷ ask 1 1 (with_data "set k10 0 0 1" (codes "x")) (line "STORED")
    ∷ ask 1 1 (with_data "set k11 0 0 1" (codes "x")) (line "STORED")
    ∷ ask 1 1 (with_data "set k12 0 0 1" (codes "x")) (line "STORED")
    ∷ ask 1 1 (with_data "set k13 0 0 1" (codes "x")) (line "STORED")
    ∷ ask 1 1 (with_data "set k14 0 0 1" (codes "x")) (line "STORED")
    ∷ ask 1 1 (with_data "set k15 0 0 1" (codes "x")) (line "STORED")
    ∷ ask 1 1 (with_data "set k16 0 0 1" (codes "x")) (line "STORED")
    ∷ ask 1 1 (with_data "set k17 0 0 1" (codes "x")) (line "STORED")
    ∷ ask 1 1 (with_data "set k18 0 0 1" (codes "x")) (line "STORED")
    ∷ ask 1 1 (with_data "set k19 0 0 1" (codes "x")) (line "STORED")
    ∷ ask 1 1 (with_data "set k20 0 0 1" (codes "x")) (line "STORED")
    ∷ ask 1 1 (with_data "set k21 0 0 1" (codes "x")) (line "STORED")
    ∷ ask 1 1 (with_data "set k22 0 0 1" (codes "x")) (line "STORED")
    ∷ ask 1 1 (with_data "set k23 0 0 1" (codes "x")) (line "STORED")
    ∷ ask 1 1 (line "stats") (statistics ("1" ∷ "0" ∷ "24" ∷ "24" ∷ "0" ∷ "0" ∷ "0" ∷ "0" ∷ "0" ∷ "0" ∷ "0" ∷ "0" ∷ "1" ∷ "16" ∷ []))
    ∷ ask 1 1 (with_data "set k24 0 0 1" (codes "x")) (line "STORED")
    ∷ ask 1 1 (line "stats") (statistics ("1" ∷ "0" ∷ "25" ∷ "25" ∷ "0" ∷ "0" ∷ "0" ∷ "0" ∷ "0" ∷ "0" ∷ "0" ∷ "0" ∷ "1" ∷ "32" ∷ []))
    ∷ [])
