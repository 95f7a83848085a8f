-- The slot of a hash, while the table grows.
use Rattle.std.proofs.Common.{◌≡◌, ℕ, ◌-◌, ◌*◌, ◌/◌, ◌%◌, ◌<◌, ◌≤◌, cond, ◌&&◌, eqb, ltb, leb, sym, ap, ◌∙◌, mod-lt, arith}
use Rattle.std.proofs.lemmas.Bool.{cond-true, and_from, lt-ltb, eq-eqb, le-leb}
use Rattle.std.proofs.lemmas.Bool.Decides.{nat_tests}
use Rattle.chained.specs.Growth.{slot, grow_after, doubles}

-- the slot of a hash is one of those in use
pub slot_below : (slots unmoved h : ℕ) → 16 ≤ slots → unmoved ≤ slots / 2 → slot (slots, unmoved) h < slots
slot_below slots unmoved h least moving = let m : h % slots < slots = mod-lt h (omega arith) in grind (arith, nat_tests)

-- a table that starts to grow has each hash where it was
pub slot_doubled : (slots h : ℕ) → 16 ≤ slots → slot (2 * slots, slots) h ≡ slot (slots, 0) h
slot_doubled slots h least =
    let e : 2 * slots / 2 ≡ slots = omega arith in
    let m : h % slots < slots = mod-lt h (omega arith) in
    let f : cond (ltb (h % slots) slots) (h % slots) (h % (2 * slots)) ≡ slot (slots, 0) h = grind (arith, nat_tests) in
    ap (λ o. cond (ltb (h % o) slots) (h % o) (h % (2 * slots))) e ∙ f

-- a hash of another slot stays where it is
pub slot_moved : (slots unmoved h : ℕ) → 0 < unmoved → (slot (slots, unmoved) h ≡ unmoved - 1 → ⊥) → slot (slots, unmoved - 1) h ≡ slot (slots, unmoved) h
slot_moved slots unmoved h some ne = grind (arith, nat_tests)

-- where the rule asks for it, the size doubles
pub grows : (entries limit slots unmoved : ℕ) → 3 * slots < 2 * entries → unmoved ≡ 0 → 2 * slots ≤ limit → (2 * slots, slots) ≡ grow_after entries limit (slots, unmoved)
grows entries limit slots unmoved full still room =
    sym (cond-true (doubles entries limit (slots, unmoved)) (2 * slots, slots) (slots, unmoved)
    (and_from (ltb (3 * slots) (2 * entries)) (eqb unmoved 0 && leb (2 * slots) limit) (lt-ltb (3 * slots) (2 * entries) full)
    (and_from (eqb unmoved 0) (leb (2 * slots) limit) (eq-eqb unmoved 0 still) (le-leb (2 * slots) limit room))))
