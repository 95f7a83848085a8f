use Rattle.std.proofs.Common.{◌≡◌, [], map, length, refl, arith}
use lib.ListN.{length-map}
use Rattle.sessions.proofs.roster.Roster.open.Goals as goal

pub returns : goal.returns
returns c =
    let rows = c.all_of.new.rows in
    let all = c.all_of.ensures in
    let long : length rows ≡ 64 = omega arith in
    record {
      shown = (
        [],
        all.0,
        record {
          laid =
              record {
                listed = c.new.ensures (map (λ row. row.next) rows) (map (λ row. row.prev) rows) (omega (arith, length-map rows (λ row. row.next)));
                spare = all.1;
                kept = c.open.ensures.empty (map (λ row. row.link) rows) (map (λ row. row.caller) rows) (omega (arith, length-map rows (λ row. row.link)));
                apart = λ k. omega (arith, all.1.once k);
                all_rows = long;
                all_slots = omega arith;
              };
          whole = omega (arith, all.2);
          counted = refl;
          distinct = λ caller. omega arith;
        },
        refl,
      );
      size = c.open.ensures.starts;
    }
