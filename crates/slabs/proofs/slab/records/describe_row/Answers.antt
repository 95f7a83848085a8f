use Rattle.std.proofs.Common.{refl}
use Rattle.recency.proofs.Columns.{column_set, column_kept}
use Rattle.slabs.specs.Rows.{blank}
use Rattle.slabs.proofs.slab.records.describe_row.Goals as goal

pub returns : goal.returns
returns c =
    let rows = c.args.rows.now in
    let i = c.args.i in
    record {
      next = column_kept (λ r. r.next) rows i blank _ c.requires refl;
      prev = column_kept (λ r. r.prev) rows i blank _ c.requires refl;
      homes = column_kept (λ r. r.home) rows i blank _ c.requires refl;
      described =
          record {
            key_lens_are = column_set (λ r. r.key_len) rows i _ c.args.key_len refl;
            data_lens_are = column_set (λ r. r.data_len) rows i _ c.args.data_len refl;
            chains_stay = column_kept (λ r. r.chain) rows i blank _ c.requires refl;
            tags_are = column_set (λ r. r.tag) rows i _ c.args.tag refl;
          };
    }
