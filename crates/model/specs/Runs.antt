-- All small runs, and that each of them has the answers that are written there.
use Rattle.std.specs.Prelude.{◌≡◌, true, List, [], ◌∷◌}
use Rattle.model.specs.Scripts.{Script, all_right}
use Rattle.model.specs.RunsOfGrants.{least_recent_goes, dead_in_the_middle, dead_nearest_the_back, its_own_record_evicted, another_evicted}
use Rattle.model.specs.RunsOfFailures.{never_evicting, too_large, no_page_for_the_class}
use Rattle.model.specs.RunsOfUses.{a_first_get, sixty_seconds_pass, first_in_first_out, what_is_a_use}
use Rattle.model.specs.RunsOfTime.{when_records_die, flushing, the_hash_doubles}
use Rattle.model.specs.RunsOfSessions.{sessions_open_and_close, requests_refused}

abbrev pub scripts : List Script
scripts =
    least_recent_goes
    ∷ dead_in_the_middle
    ∷ dead_nearest_the_back
    ∷ its_own_record_evicted
    ∷ another_evicted
    ∷ never_evicting
    ∷ too_large
    ∷ no_page_for_the_class
    ∷ a_first_get
    ∷ sixty_seconds_pass
    ∷ first_in_first_out
    ∷ what_is_a_use
    ∷ when_records_die
    ∷ flushing
    ∷ the_hash_doubles
    ∷ sessions_open_and_close
    ∷ requests_refused
    ∷ []

-- every call of every run is answered as written: the number, the sessions closed, and the reply byte for byte
abbrev pub RunsAreRight : Type 0
RunsAreRight = all_right scripts ≡ true
