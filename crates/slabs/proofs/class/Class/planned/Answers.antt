use Rattle.std.proofs.Common.{map, unwrap_or, refl, ap, ◌∙◌, arith}
use lib.ListN.{length-map}
use Rattle.plan.specs.Plans.{plan_sizes}
use Rattle.plan.specs.Classes.{chunks_of}
use Rattle.slabs.specs.Classes.{no_chunks}
use Rattle.slabs.proofs.Reading.{reads_as}
use Rattle.slabs.proofs.Opening.{value_planned, same_three}
use Rattle.slabs.proofs.class.Class.planned.Goals as goal

pub returns : goal.returns
returns c =
    record {
      size_is = c.unwrap_or.ensures ∙ ap (λ o. unwrap_or o 0) c.size.ensures ∙ value_planned (λ s. s) (plan_sizes c.args.plan.now) c.args.class;
      chunks_are = c.unwrap_or-2.ensures ∙ ap (λ o. unwrap_or o 0) c.chunks_per_page.ensures.value ∙ value_planned chunks_of (plan_sizes c.args.plan.now) c.args.class;
      no_pages = refl;
      no_rows = λ stand rows few. reads_as rows rows _ (ap (λ x. x.list) (same_three _ no_chunks stand)) refl refl (c.new.ensures (map (λ r. r.next) rows) (map (λ r. r.prev) rows) (omega (arith, length-map rows (λ r. r.next))));
      no_counts = λ stand. ap (λ x. x.count) (same_three _ no_chunks stand);
    }
