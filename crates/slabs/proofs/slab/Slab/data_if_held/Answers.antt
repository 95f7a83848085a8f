use Rattle.std.proofs.Common.{◌≡◌, ℕ, ◌+◌, get_or, Some, None, refl, ap, ◌∙◌, subst, ⊎_elim, arith}
use Rattle.std.proofs.lemmas.Bool.{cases_eq}
use Rattle.slabs.specs.Rows.{blank}
use Rattle.slabs.specs.Lists.{held_of}
use Rattle.slabs.specs.Layouts.{start, class_at}
use Rattle.slabs.specs.Slabs.{rows_of, homes_of, layout, Holds}
use Rattle.slabs.specs.Records.{bytes_at, key_lens, data_of}
use Rattle.slabs.proofs.Telling.{lens_of_row, record_end}
use Rattle.slabs.proofs.slab.Slab.data_if_held.Goals as goal

pub overflow_add-at : goal.overflow_add-at
overflow_add-at c =
    let s = c.args.self.now in
    let i = c.args.i in
    let told = c.in_ok-row.ensures in
    ⊎_elim
    (λ (held : Holds s i).
    let end = record_end s c.requires i held in
    let few = end.1 in
    let lens = lens_of_row (rows_of s) i in
    omega (arith, end.0, ap (λ r. r.key_len) (told.is c.in_ok-row.row refl), lens.0, c.start.ensures))
    (λ no. let e : Some c.in_ok-row.row ≡ None = told.none no in let z : ◌≡◌ {A = ℕ} 0 1 = cc in absurd (omega arith))
    (cases_eq (get_or (homes_of s) i 0) (held_of (class_at (layout s) i)))

pub returns : goal.returns
returns c =
    let s = c.args.self.now in
    let i = c.args.i in
    let memory = c.args.memory.now in
    let told = c.in_ok-row.ensures in
    let row = c.in_ok-row.row.now in
    let is : row ≡ get_or (rows_of s) i blank = told.is c.in_ok-row.row refl in
    let lens = lens_of_row (rows_of s) i in
    let data_is : c.cut.result.now ≡ data_of s memory i =
    c.cut.ensures
    ∙ ap (λ x. bytes_at memory (x + row.key_len) row.data_len) c.start.ensures
    ∙ ap (λ x. bytes_at memory (start (layout s) i + x) row.data_len) (ap (λ r. r.key_len) is ∙ lens.0)
    ∙ ap (λ x. bytes_at memory (start (layout s) i + get_or (key_lens (rows_of s)) i 0) x) (ap (λ r. r.data_len) is ∙ lens.1) in
    record {
      some = λ _. refl;
      none = λ no. let e : Some c.in_ok-row.row ≡ None = told.none no in cc;
      is = λ y e. let same : c.cut.result ≡ y = cc in subst (λ x. x.now ≡ data_of s memory i) same data_is;
    }
