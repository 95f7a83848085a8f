use Rattle.std.proofs.Common.{◌≡◌, length, set, ap, ◌∙◌, arith, rules}
use mathlib.Core.Logic.{∥∥₁_map}
use Rattle.recency.proofs.Columns.{column_kept}
use Rattle.slabs.specs.Rows.{homes}
use Rattle.slabs.specs.Classes.{frame, no_class}
use Rattle.slabs.specs.Lists.{list_of}
use Rattle.slabs.proofs.Families.{entered, absent, list_some}
use Rattle.slabs.proofs.classes.Classes.enter.Goals as goal

pub enter-requires : goal.enter-requires
enter-requires c =
    let stand = c.args.stand in
    let class = c.args.class in
    record {
      within = c.requires.within;
      room = c.requires.room;
      outside = ∥∥₁_map c.requires.lists (λ t. (
        t.0 (list_of stand class),
        t.1.reads class stand c.requires.class,
        absent c.args.self.now.all c.args.rows.now t.0 t.1 c.args.i (list_of stand class) (list_some stand class) (λ e. omega (arith, c.requires.home, list_some stand class)),
      ));
    }

pub returns : goal.returns
returns c =
    let classes = c.args.self.now.all in
    let rows = c.args.rows.now in
    let ws = c.enter.new.rows in
    let cls = c.enter.new.self in
    let stand = c.args.stand in
    let class = c.args.class in
    let i = c.args.i in
    let told = c.enter.ensures in
    let long : length classes ≡ 33 = search rules in
    let home : homes ws ≡ set (homes rows) i (list_of stand class) = told.homes ∙ ap (λ h. set (homes rows) i h) c.number-home.ensures in
    record {
      lists = λ ls f. entered classes rows ws class cls stand i c.requires.class long c.requires.within told.kept ls f c.requires.home told.counted told.listed told.others home;
      homes = home;
      rests = told.rests;
      frames = column_kept frame classes class no_class cls (omega (arith, c.requires.class)) told.frame;
    }
