-- Runs about sessions and refusals.
use Rattle.std.specs.Prelude.{[], ◌∷◌, codes}
use Rattle.model.specs.Scripts.{every_use, first_in, line, end, statistics, admit, leave, idle, ask, refused, Script, script}

-- Sessions: refusals and the longest idle first
abbrev pub sessions_open_and_close : Script
sessions_open_and_close =
    script 96 125 1 16 every_use
    (admit 1 10 0
    ∷ admit 1 10 5
    ∷ admit 4194304 10 4
    ∷ admit 4194303 20 0
    ∷ refused 2 20 every_use (line "get a") 18432 7
    ∷ ask 1 30 (line "get a") end
    ∷ idle 40 15 1
    ∷ ask 1 40 (line "get a") end
    ∷ refused 4194303 40 every_use (line "get a") 18432 7
    ∷ leave 4194303 40 7
    ∷ ask 1 50 (line "quit") []
    ∷ refused 1 50 every_use (line "get a") 18432 7
    ∷ leave 1 60 7
    ∷ idle 60 0 0
    ∷ admit 7 60 0
    ∷ idle 60 0 1
    ∷ idle 61 65535 0
    ∷ [])

-- A wrong policy number, a short buffer, no line end
abbrev pub requests_refused : Script
requests_refused =
    script 96 125 1 16 first_in
    (admit 1 10 0
    ∷ refused 1 10 every_use (line "get a") 18432 3
    ∷ refused 2 10 every_use (line "get a") 18432 3
    ∷ refused 1 10 first_in (line "get a") 18431 8
    ∷ refused 2 10 first_in (line "get a") 0 7
    ∷ refused 1 99 first_in (codes "get a") 18432 9
    ∷ ask 1 10 (line "stats") (statistics ("1" ∷ "1" ∷ "0" ∷ "0" ∷ "0" ∷ "0" ∷ "0" ∷ "0" ∷ "0" ∷ "0" ∷ "0" ∷ "0" ∷ "1" ∷ "16" ∷ []))
    ∷ [])
