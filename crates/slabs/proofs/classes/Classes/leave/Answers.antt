use Rattle.std.proofs.Common.{◌≡◌, length, arith, rules}
use native.Mathlib.Bridge.{le_prop}
use mathlib.Core.Logic.{∥∥₁_map, ∥∥₁_elim}
use Rattle.recency.proofs.Columns.{column_kept}
use Rattle.slabs.specs.Classes.{frame, no_class}
use Rattle.slabs.specs.Lists.{list_of}
use Rattle.slabs.proofs.Families.{left, present, list_some, length_without}
use Rattle.slabs.proofs.classes.Classes.leave.Goals as goal

pub leave-requires : goal.leave-requires
leave-requires c =
    let classes = c.args.self.now.all in
    let rows = c.args.rows.now in
    let stand = c.args.stand in
    let class = c.args.class in
    record {
      within = c.requires.within;
      some = ∥∥₁_elim c.requires.lists le_prop (λ t.
          let n = t.1.counted class stand c.requires.class in
          let one = present classes rows t.0 t.1 c.args.i (list_of stand class) (list_some stand class) c.requires.home in
          let k = length_without c.args.i (t.0 (list_of stand class)) in
          omega arith);
      inside = ∥∥₁_map c.requires.lists (λ t. (
        t.0 (list_of stand class),
        t.1.reads class stand c.requires.class,
        present classes rows t.0 t.1 c.args.i (list_of stand class) (list_some stand class) c.requires.home,
      ));
    }

pub returns : goal.returns
returns c =
    let classes = c.args.self.now.all in
    let rows = c.args.rows.now in
    let cls = c.leave.new.self in
    let class = c.args.class in
    let told = c.leave.ensures in
    let long : length classes ≡ 33 = search rules in
    record {
      lists = λ ls f. left classes rows c.leave.new.rows class cls c.args.stand c.args.i c.requires.class long c.requires.within told.kept ls f c.requires.home told.counted told.listed told.others told.homes;
      homes = told.homes;
      rests = told.rests;
      frames = column_kept frame classes class no_class cls (omega (arith, c.requires.class)) told.frame;
    }
