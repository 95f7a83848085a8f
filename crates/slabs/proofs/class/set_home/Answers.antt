use Rattle.std.proofs.Common.{refl}
use Rattle.recency.proofs.Columns.{column_set, column_kept}
use Rattle.slabs.specs.Rows.{rest, blank}
use Rattle.slabs.proofs.class.set_home.Goals as goal

pub returns : goal.returns
returns c =
    let rows = c.args.rows.now in
    let i = c.args.i in
    record {
      next = column_kept (λ r. r.next) rows i blank _ c.requires refl;
      prev = column_kept (λ r. r.prev) rows i blank _ c.requires refl;
      homes = column_set (λ r. r.home) rows i _ c.args.home refl;
      rests = column_kept rest rows i blank _ c.requires refl;
    }
