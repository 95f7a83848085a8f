use Rattle.std.proofs.Common.{◌≡◌, length, arith, rules}
use mathlib.Core.Logic.{∥∥₁_map}
use Rattle.recency.proofs.Columns.{column_kept}
use Rattle.slabs.specs.Classes.{frame, no_class}
use Rattle.slabs.specs.Lists.{list_of}
use Rattle.slabs.proofs.Families.{refreshed, present, list_some}
use Rattle.slabs.proofs.classes.Classes.refresh.Goals as goal

pub refresh-requires : goal.refresh-requires
refresh-requires c =
    let stand = c.args.stand in
    let class = c.args.class in
    record {
      within = c.requires.within;
      inside = ∥∥₁_map c.requires.lists (λ t. (
        t.0 (list_of stand class),
        t.1.reads class stand c.requires.class,
        present c.args.self.now.all c.args.rows.now t.0 t.1 c.args.i (list_of stand class) (list_some stand class) c.requires.home,
      ));
    }

pub returns : goal.returns
returns c =
    let classes = c.args.self.now.all in
    let rows = c.args.rows.now in
    let cls = c.refresh.new.self in
    let class = c.args.class in
    let stand = c.args.stand in
    let told = c.refresh.ensures in
    let long : length classes ≡ 33 = search rules in
    record {
      lists = λ ls f. refreshed classes rows c.refresh.new.rows class cls stand c.args.i c.requires.class long c.requires.within told.kept ls f c.requires.home told.counted told.listed told.others told.homes;
      homes = told.homes;
      rests = told.rests;
      frames = column_kept frame classes class no_class cls (omega (arith, c.requires.class)) told.frame;
    }
