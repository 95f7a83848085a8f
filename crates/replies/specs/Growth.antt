-- What a write does to a buffer whose front is written.
use Rattle.std.specs.Prelude.{◌≡◌, ℕ, ◌+◌, ◌≤◌, List, ◌++◌, length, take, drop}
use Rattle.replies.specs.declared.output.Writer.{Writer}
use Rattle.replies.specs.Reply.{Reply}
use Rattle.replies.specs.Render.{render}

-- the buffer behind a writer, all of it
abbrev pub held : Writer → List ℕ
held w = w.out.now

-- the part of it that is written
abbrev pub front : Writer → List ℕ
front w = take w.len (held w)

-- there is room for `bs` behind what is written
abbrev pub Room : List ℕ → Writer → Type 0
Room bs w = w.len + length bs ≤ length (held w)

-- The writer `old` became `new` by writing just `bs`: it is the same buffer and as long as it was,
-- what is written grew by `bs`, and every byte behind that is as it was.
pub record Wrote (bs : List ℕ) (old new : Writer) : Type 0 where
  pub buffer : new.out.ghost_name ≡ old.out.ghost_name
  pub size : length (held new) ≡ length (held old)
  pub count : new.len ≡ old.len + length bs
  pub written : front new ≡ front old ++ bs
  pub rest : drop new.len (held new) ≡ drop new.len (held old)

-- A buffer that held `old` now holds the reply `r`, which takes `n` bytes, and behind it its old bytes.
pub record Replied (r : Reply) (n : ℕ) (old new : List ℕ) : Type 0 where
  pub count : n ≡ length (render r)
  pub whole : new ≡ render r ++ drop n old
