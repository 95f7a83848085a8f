use Rattle.std.proofs.Common.{◌≡◌, vec_len, arith, rules}
use Rattle.store.specs.Showing.{pages_of}
use Rattle.store_demo.proofs.run.Goals as goal

pub invariant_of-desk : goal.invariant_of-desk
invariant_of-desk c =
    let rows : vec_len c.in_ok-rows.rows ≡ 85 = search rules in
    let wide : vec_len c.in_ok-memory.memory ≡ 4096 = search rules in
    let one : pages_of c.open-store.result ≡ 1 = c.open-store.ensures.pages 1 (omega arith) (omega arith) in
    record { wide = omega arith }
