-- The size of a hash table that grows in place, one slot at a time: a pair (slots, unmoved). `slots` slots are in
-- use. While the table grows, the first `unmoved` slots are old ones that have still to be moved: each holds what
-- two of the slots in use will hold.
use Rattle.std.specs.Prelude.{ℕ, ◌-◌, ◌*◌, ◌/◌, ◌%◌, Bool, cond, ◌&&◌, ◌==◌, nat_le, nat_lt}

-- the size of a table at its opening
abbrev pub start : ℕ × ℕ
start = (16, 0)

-- whether a table of so many entries starts to grow: it is full by half as many again as its slots, it does not
-- grow yet, and there are twice as many slots
abbrev pub doubles : ℕ → ℕ → ℕ × ℕ → Bool
doubles entries limit size = nat_lt (3 * size.0) (2 * entries) && (size.1 == 0 && nat_le (2 * size.0) limit)

-- the size after an insertion, which left so many entries; there are `limit` slots in all
abbrev pub grow_after : ℕ → ℕ → ℕ × ℕ → ℕ × ℕ
grow_after entries limit size = cond (doubles entries limit size) (2 * size.0, size.0) size

-- the size after one old slot was moved, if one was left
abbrev pub move_one : ℕ × ℕ → ℕ × ℕ
move_one size = (size.0, size.1 - 1)

-- the slot of a hash: its old one, as long as that is not moved
abbrev pub slot : ℕ × ℕ → ℕ → ℕ
slot size hash = cond (nat_lt (hash % (size.0 / 2)) size.1) (hash % (size.0 / 2)) (hash % size.0)
