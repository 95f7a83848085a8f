-- A request of the code: which command it says, and that its parts lie in the bytes brought.
use Rattle.std.specs.Prelude.{◌≡◌, ℕ, ◌+◌, ◌<◌, ◌≤◌, List, [], map, length, take, drop, Ok, Err, Option, Result, MatchOption, slice_index_or}
use Rattle.lines.specs.declared.Fault.{Fault}
use Rattle.lines.specs.declared.request.Keys.{Keys}
use Rattle.lines.specs.declared.request.Part.{Part}
use Rattle.lines.specs.declared.request.Request.{Request}
use Rattle.lines.specs.declared.request.Request.TheVariants as request
use Rattle.lines.specs.Command.{Command, Get, Store, Delete, Touch, FlushAll, Version, Quit, Stats, Reading, Asks, Faulty}
use Rattle.lines.specs.Spans.{span_bytes, nth_span, Inside}

-- The keys of a get, in the order written.
abbrev pub key_list : Keys → List (List ℕ)
key_list keys = map (span_bytes keys.line.now) (take keys.count keys.spans)

-- The command that a request says.
abbrev pub asked : Request → Command
asked (request.Get cas keys) = Get cas (key_list keys)
asked (request.Store verb key flags exptime block) =
    Store verb (record { key = key.bytes.now; flags = flags; exptime = exptime; block = block.bytes.now })
asked (request.Delete key) = Delete key.bytes.now
asked (request.Touch key exptime) = Touch key.bytes.now exptime
asked request.FlushAll = FlushAll
asked request.Version = Version
asked request.Quit = Quit
asked request.Stats = Stats

-- A part is the bytes at its place of the bytes brought.
pub record Lies (bytes : List ℕ) (part : Part) : Type 0 where
  pub within : part.at + length part.bytes.now ≤ length bytes
  pub same : take (length part.bytes.now) (drop part.at bytes) ≡ part.bytes.now

-- The keys of a get lie in the line that the bytes brought begin with, at most four of them.
pub record KeysOf (bytes : List ℕ) (keys : Keys) : Type 0 where
  pub line : take (length keys.line.now) bytes ≡ keys.line.now
  pub few : keys.count ≤ 4
  pub inside : Inside keys.line.now keys.spans keys.count

-- Each part of a request is the bytes at its place of the bytes brought.
abbrev pub Placed : List ℕ → Request → Type 0
Placed bytes (request.Get cas keys) = KeysOf bytes keys
Placed bytes (request.Store verb key flags exptime block) = Lies bytes key × Lies bytes block
Placed bytes (request.Delete key) = Lies bytes key
Placed bytes (request.Touch key exptime) = Lies bytes key
Placed bytes request.FlushAll = Unit {0}
Placed bytes request.Version = Unit {0}
Placed bytes request.Quit = Unit {0}
Placed bytes request.Stats = Unit {0}

-- The answer of the reader is what the bytes say: the command with all its values and its parts in their places, or that very fault.
abbrev pub Answers : List ℕ → Reading → Result Request Fault → Type 0
Answers bytes says (Ok r) = (says ≡ Asks (asked r)) × Placed bytes r
Answers bytes says (Err f) = says ≡ Faulty f

-- There is an i-th span, and it lies within the line.
abbrev pub HasKey : Keys → ℕ → Type 0
HasKey keys i = (i < keys.count) × (i < length keys.spans) × ((nth_span keys.spans i).at + (nth_span keys.spans i).len ≤ length keys.line.now)

-- The part that the i-th span names, and none where there is no such span.
abbrev pub KeyAt : Keys → ℕ → Option Part → Type 0
KeyAt keys i r =
    MatchOption r (HasKey keys i → ⊥)
    (λ p. HasKey keys i × (p.at ≡ (nth_span keys.spans i).at) × (p.bytes.now ≡ span_bytes keys.line.now (nth_span keys.spans i)))

-- The i-th of the keys, as a part of the bytes brought, and none past the last.
abbrev pub NthKey : List ℕ → Keys → ℕ → Option Part → Type 0
NthKey bytes keys i r =
    MatchOption r (length (key_list keys) ≤ i)
    (λ p. (i < length (key_list keys)) × (p.bytes.now ≡ slice_index_or (key_list keys) i []) × Lies bytes p)
