-- What is counted, and why a record leaves, as the reference table has it.
use Rattle.std.specs.Prelude.{ℕ, ◌+◌, ◌<◌}
use Rattle.model.specs.Store as model
use Rattle.store.specs.declared.counts.Counts.{Counts}
use Rattle.store.specs.declared.counts.Why.{Why}
use Rattle.store.specs.declared.counts.Why.TheVariants.{Replaced, Deleted, Flushed, Expired, Evicted, Dropped}

-- the counts, field by field
abbrev pub counts_shown : Counts → model.Counts
counts_shown c =
    model.counts_of c.linked c.replaced c.deleted c.flushed c.expired c.evicted c.dropped c.hits c.misses

-- the reason, by its name
abbrev pub why_of : Why → model.Why
why_of Replaced = model.Replaced
why_of Deleted = model.Deleted
why_of Flushed = model.Flushed
why_of Expired = model.Expired
why_of Evicted = model.Evicted
why_of Dropped = model.Dropped

-- nothing was counted yet
abbrev pub no_counts : Counts
no_counts = record { linked = 0; replaced = 0; deleted = 0; flushed = 0; expired = 0; evicted = 0; dropped = 0; hits = 0; misses = 0 }

-- how many records left
abbrev pub gone : Counts → ℕ
gone c = c.replaced + c.deleted + c.flushed + c.expired + c.evicted + c.dropped

-- one more record may leave: fewer left than were linked
abbrev pub Leaves : Counts → Type 0
Leaves c = gone c < c.linked
