-- Worked examples, computed from the definitions.
use Rattle.std.specs.Prelude.{◌≡◌, ℕ, zero, suc, ◌+◌, ◌-◌, ◌^◌, Bool, true, not, ◌&&◌, List, [], ◌∷◌, ◌++◌, map, pos, neg_ℤ, Some, None, codes, Option, ◌==◌}
use Rattle.refusals.specs.declared.Refusal.{Refusal}
use Rattle.refusals.specs.Numbers.{number_of}
use Rattle.plan.specs.Examples.{all_true, same_class as same_option, same_sizes as same_numbers}
use Rattle.model.specs.Records.{Record, expiry_of, dead_at}
use Rattle.chained.specs.Fnv.{fnv}
use Rattle.chained.specs.Growth.{grow_after}
use Rattle.model.specs.Store.{everything}
use Rattle.model.specs.Calls.{State, after, empty, refuse_request}
use Rattle.model.specs.Opening.{refuse_opening}
use Rattle.model.specs.Scripts.{every_use, sixty_seconds, refusing, line, many, with_data, value, end, Entry, admit, ask, Script, script, opening, call_of, right}

-- THE STATE AFTER A SCRIPT

abbrev pub final : Script → State
final x = after (opening x) (map (call_of x.policy) x.entries) (empty (opening x))

abbrev pub moved_of : Record → ℕ
moved_of r = r.moved

abbrev pub cas_of : Record → ℕ
cas_of r = r.cas

-- the moved seconds, and the cas numbers, of the records held, front to back
abbrev pub moved_seconds : Script → List ℕ
moved_seconds x = map moved_of (everything (final x).store)

abbrev pub cas_numbers : Script → List ℕ
cas_numbers x = map cas_of (everything (final x).store)

-- SCRIPTS

-- The bytes of a first get: a caller is admitted, stores one byte and reads it.
abbrev pub first_get : Script
first_get =
    script 96 125 4 512 every_use
    (admit 5 100 0
    ∷ ask 5 100 (codes "set a 0 0 1" ++ 13 ∷ 10 ∷ codes "x" ++ 13 ∷ 10 ∷ []) (codes "STORED" ++ 13 ∷ 10 ∷ [])
    ∷ ask 5 100 (codes "get a" ++ 13 ∷ 10 ∷ []) (codes "VALUE a 0 1" ++ 13 ∷ 10 ∷ codes "x" ++ 13 ∷ 10 ∷ codes "END" ++ 13 ∷ 10 ∷ [])
    ∷ [])

-- One page and two keys of need 4,001: the second set evicts the first record, or fails where none may be evicted.
abbrev pub second_evicts : Script
second_evicts =
    script 96 125 1 16 every_use
    (admit 1 0 0
    ∷ ask 1 1 (with_data "set a 0 0 4000" (many 4000 "x")) (line "STORED")
    ∷ ask 1 2 (with_data "set b 0 0 4000" (many 4000 "y")) (line "STORED")
    ∷ ask 1 3 (line "get a b") (value "b 0 4000" (many 4000 "y") ++ end)
    ∷ [])

abbrev pub second_fails : Script
second_fails =
    script 96 125 1 16 refusing
    (admit 1 0 0
    ∷ ask 1 1 (with_data "set a 0 0 4000" (many 4000 "x")) (line "STORED")
    ∷ ask 1 2 (with_data "set b 0 0 4000" (many 4000 "y")) (line "SERVER_ERROR out of memory storing object")
    ∷ ask 1 3 (line "get a b") (value "a 0 4000" (many 4000 "x") ++ end)
    ∷ [])

-- Two records are stored at 100; then the rear one is read at this second.
abbrev pub read_at : ℕ → Script
read_at second =
    script 96 125 1 16 sixty_seconds
    (admit 1 100 0
    ∷ ask 1 100 (with_data "set a 0 0 1" (codes "x")) (line "STORED")
    ∷ ask 1 100 (with_data "set b 0 0 1" (codes "y")) (line "STORED")
    ∷ ask 1 second (line "get a") (value "a 0 1" (codes "x") ++ end)
    ∷ [])

-- The same record is read at 159 and then at 160: what counts is when it was last moved, not when it was last read.
abbrev pub read_twice : Script
read_twice =
    script 96 125 1 16 sixty_seconds
    (admit 1 100 0
    ∷ ask 1 100 (with_data "set a 0 0 1" (codes "x")) (line "STORED")
    ∷ ask 1 100 (with_data "set b 0 0 1" (codes "y")) (line "STORED")
    ∷ ask 1 159 (line "get a") (value "a 0 1" (codes "x") ++ end)
    ∷ ask 1 160 (line "get a") (value "a 0 1" (codes "x") ++ end)
    ∷ [])

-- A key of so many bytes is asked for, with this reply.
abbrev pub long_key : ℕ → List ℕ → Script
long_key bytes reply =
    script 96 125 1 16 every_use
    (admit 1 0 0
    ∷ ask 1 0 (codes "get " ++ many bytes "k" ++ 13 ∷ 10 ∷ []) reply
    ∷ [])

-- A request at 150 after one at 200 runs at 200: ten seconds from then on are over at 210.
abbrev pub clock_stays : Script
clock_stays =
    script 96 125 1 16 every_use
    (admit 1 0 0
    ∷ ask 1 200 (line "get a") end
    ∷ ask 1 150 (with_data "set a 0 10 1" (codes "x")) (line "STORED")
    ∷ ask 1 209 (line "get a") (value "a 0 1" (codes "x") ++ end)
    ∷ ask 1 210 (line "get a") end
    ∷ [])

-- So many callers, from the number `caller` on, are admitted one after the other; one more is then refused with number 6.
abbrev pub admits : ℕ → ℕ → List Entry
admits caller zero = admit caller 0 6 ∷ []
admits caller (suc n) = admit caller 0 0 ∷ admits (caller + 1) n

abbrev pub all_sessions : Script
all_sessions = script 96 125 1 16 every_use (admits 1 64)

-- THE HASH'S GROWTH

abbrev pub same_growth : ℕ × ℕ → ℕ × ℕ → Bool
same_growth x y = x.0 == y.0 && x.1 == y.1

-- THE LAST REFUSAL

-- the number that refuses a request, 0 where none does
abbrev pub refusal_number : Option Refusal → ℕ
refusal_number None = 0
refusal_number (Some r) = number_of r

-- the state after a first get, but with so many requests answered
abbrev pub after_so_many : ℕ → State
after_so_many answered =
    record { clock = (final first_get).clock; answered = answered; sessions = (final first_get).sessions; store = (final first_get).store }

abbrev pub number_after : ℕ → ℕ
number_after answered = refusal_number (refuse_request (opening first_get) 5 every_use (line "get a") 18432 (after_so_many answered))

-- OPENINGS

-- the number that refuses an opening with so many bytes of page memory, rows and hash slots, and all else as it should be
abbrev pub opening_number : ℕ → ℕ → ℕ → ℕ → ℕ → ℕ
opening_number begin percent memory rows slots =
    refusal_number (refuse_opening (record { begin = begin; percent = percent; policy = 0; memory = memory; rows = rows; slots = slots; session_rows = 64; session_slots = 64 }))

-- ALL OF THEM

abbrev pub examples : List Bool
examples =
    -- at now 100 an exptime of 2,592,000 counts from now, one more is the second itself, and 0 is never
    same_option (expiry_of 100 (pos 2592000)) (Some 2592100)
    ∷ same_option (expiry_of 100 (pos 2592001)) (Some 2592001)
    ∷ same_option (expiry_of 100 (pos 0)) None
    -- at now 0, −1 is dead; a record is dead at its expiry second, and not one before
    ∷ dead_at 0 (expiry_of 0 (neg_ℤ (pos 1)))
    ∷ dead_at 2592100 (expiry_of 100 (pos 2592000))
    ∷ not (dead_at 2592099 (expiry_of 100 (pos 2592000)))
    ∷ right first_get
    ∷ right second_evicts
    ∷ right second_fails
    -- moved at 100: a get at 159 moves nothing, one at 160 moves the record to the front; `a` has cas number 1, `b` 2
    ∷ right (read_at 159)
    ∷ same_numbers (moved_seconds (read_at 159)) (100 ∷ 100 ∷ [])
    ∷ same_numbers (cas_numbers (read_at 159)) (2 ∷ 1 ∷ [])
    ∷ right (read_at 160)
    ∷ same_numbers (moved_seconds (read_at 160)) (160 ∷ 100 ∷ [])
    ∷ same_numbers (cas_numbers (read_at 160)) (1 ∷ 2 ∷ [])
    ∷ right read_twice
    ∷ same_numbers (moved_seconds read_twice) (160 ∷ 100 ∷ [])
    ∷ same_numbers (cas_numbers read_twice) (1 ∷ 2 ∷ [])
    -- a key of 250 bytes may be asked for, one of 251 is a bad line
    ∷ right (long_key 250 end)
    ∷ right (long_key 251 (line "CLIENT_ERROR bad command line format"))
    ∷ right clock_stays
    ∷ right all_sessions
    -- 24 entries in 16 slots are not too many, 25 are; while it grows, or at its limit, the hash does not double
    ∷ same_growth (grow_after 24 64 (16, 0)) (16, 0)
    ∷ same_growth (grow_after 25 64 (16, 0)) (32, 16)
    ∷ same_growth (grow_after 49 64 (32, 1)) (32, 1)
    ∷ same_growth (grow_after 25 16 (16, 0)) (16, 0)
    -- the last request that is answered, and the first that is not
    ∷ (number_after (2 ^ 60 - 1) == 0)
    ∷ (number_after (2 ^ 60) == 10)
    -- the hash of the key `a`
    ∷ (fnv (codes "a") == 0xE40C292C)
    -- openings: the plan is judged first; then whole pages, 85 rows a page, and a power of two of slots
    ∷ (opening_number 96 125 16384 340 512 == 0)
    ∷ (opening_number 48 110 0 0 0 == 1)
    ∷ (opening_number 96 125 0 0 512 == 2)
    ∷ (opening_number 96 125 16385 340 512 == 2)
    ∷ (opening_number 96 125 16384 341 512 == 2)
    ∷ (opening_number 96 125 16384 340 500 == 2)
    ∷ (opening_number 96 125 1048576 21760 16384 == 0)
    ∷ (opening_number 96 125 1052672 21845 16384 == 2)
    ∷ []

-- every example holds
abbrev pub Examples : Type 0
Examples = all_true examples ≡ true
