use Rattle.std.proofs.Common.{eqb, length, get_or, set, ap, ◌∙◌, arith}
use native.Mathlib.Bridge.{le_prop}
use mathlib.Core.Logic.{∥∥₁_map, ∥∥₁_elim}
use lib.ListN.{length-map}
use Rattle.std.proofs.lemmas.List.{get_or-set_same, set-set}
use Rattle.slabs.specs.Rows.{homes, rest}
use Rattle.slabs.specs.Lists.{list_of, out_of}
use Rattle.slabs.proofs.Families.{out_shorter}
use Rattle.slabs.proofs.classes.Classes.shift.Goals as goal

pub enter-requires : goal.enter-requires
enter-requires c =
    let rows = c.args.rows.now in
    let i = c.args.i in
    let class = c.args.class in
    let to = c.args.to in
    let from = list_of c.args.from class in
    let told = c.leave.ensures in
    let even = ap length told.rests in
    record {
      class = c.requires.class;
      within = omega (arith, length-map c.leave.new.rows rest, length-map rows rest, c.requires.within);
      room = ∥∥₁_elim c.requires.lists le_prop (λ t.
          let was = t.1.counted class to c.requires.class in
          let now_is = (told.lists t.0 t.1).counted class to c.requires.class in
          let shorter = out_shorter (eqb (list_of to class) from) i (t.0 (list_of to class)) in
          omega (arith, c.requires.room));
      lists = ∥∥₁_map c.requires.lists (λ t. (out_of i from t.0, told.lists t.0 t.1));
      home = ap (λ hs. get_or hs i 0) told.homes ∙ get_or-set_same (homes rows) i 0 0 (omega (arith, length-map rows (λ row. row.home), c.requires.within));
    }

pub returns : goal.returns
returns c =
    let i = c.args.i in
    let out = c.leave.ensures in
    let in' = c.enter.ensures in
    let h = list_of c.args.to c.args.class in
    record {
      lists = λ ls f. in'.lists (out_of i (list_of c.args.from c.args.class) ls) (out.lists ls f);
      homes = in'.homes ∙ ap (λ hs. set hs i h) out.homes ∙ set-set (homes c.args.rows.now) i 0 h;
      rests = in'.rests ∙ out.rests;
      frames = in'.frames ∙ out.frames;
    }
