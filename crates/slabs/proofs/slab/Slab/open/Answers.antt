use Rattle.std.proofs.Common.{◌≡◌, ◌*◌, ◌≤◌, replicate, vec_len, refl, ap, ◌∙◌, arith}
use Rattle.slabs.specs.Rows.{blank}
use Rattle.slabs.specs.Openings.{pages_of}
use Rattle.slabs.proofs.Opening.{rows_opened, opened_order, opened_lists, opened_sizes, opened_chunks}
use Rattle.slabs.proofs.slab.Slab.open.Goals as goal

pub returns : goal.returns
returns c =
    let pages = c.pages_for-pages.result in
    let all : pages ≡ pages_of (vec_len c.args.rows) = c.pages_for-pages.ensures ∙ ap pages_of c.len.ensures in
    let few : pages ≤ 256 = omega (arith, c.pages_for-pages.ensures) in
    let told = c.planned.ensures in
    let rows = rows_opened (c.fill.ensures.items (λ y e. e)) pages (omega (arith, c.truncate.ensures.len)) c.blank.ensures in
    let classes = c.planned.result.all in
    let items = c.fill.new.self.items in
    let plan = c.args.plan.now in
    record {
      sound = ∣ opened_order classes items (replicate 256 0) pages plan rows few refl told.long told.classes ∣₁;
      empty = opened_lists classes items (replicate 256 0) pages plan rows few refl told.long told.classes;
      opened =
          record {
            all_pages = all;
            none_given = refl;
            blank_rows = rows ∙ ap (λ k. replicate (85 * k) blank) all;
            class_sizes = opened_sizes classes items (replicate 256 0) pages plan rows few refl told.long told.classes;
            class_chunks = opened_chunks classes items (replicate 256 0) pages plan rows few refl told.long told.classes;
          };
    }
