use Rattle.std.proofs.Common.{◌+◌, length, get_or, drop, ap, ◌∙◌, arith}
use Rattle.std.proofs.lemmas.List.{length-take}
use Rattle.slabs.specs.Rows.{blank}
use Rattle.slabs.specs.Layouts.{start}
use Rattle.slabs.specs.Slabs.{rows_of, layout}
use Rattle.slabs.specs.Records.{bytes_at, data_lens}
use Rattle.slabs.proofs.Ends.{record_fits, chunk_inside}
use Rattle.records.proofs.Telling.{at_column}
use Rattle.records.proofs.records.Records.data.Goals as goal

pub returns-clause-short : goal.returns-clause-short
returns-clause-short c =
    let s = c.args.self.now.slab in
    let i = c.args.i in
    let memory = c.args.memory.now in
    let row = get_or (rows_of s) i blank in
    let key = at_column (λ r. r.key_len) (rows_of s) i in
    let block = at_column (λ r. r.data_len) (rows_of s) i in
    let is = c.data_if_held.ensures.is c.unwrap.result c.unwrap.ensures
    ∙ ap (λ k. bytes_at memory (start (layout s) i + k) (get_or (data_lens (rows_of s)) i 0)) key
    ∙ ap (λ n. bytes_at memory (start (layout s) i + row.key_len) n) block in
    let span = at_column (λ r. r.key_len + r.data_len) (rows_of s) i in
    let fits = record_fits s c.args.self.now.sound i c.requires.held in
    let inside = chunk_inside s c.args.self.now.sound i (rw c.requires.held (omega arith)) in
    omega (arith, ap length is, length-take row.data_len (drop (start (layout s) i + row.key_len) memory))
