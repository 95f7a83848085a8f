use Rattle.std.proofs.Common.{◌≡◌, ◌+◌, ◌-◌, ◌<◌, ◌≤◌, [], length, get_or, take, drop, sym, refl, ap, ◌∙◌, subst, arith, rules}
use Rattle.lines.proofs.Places.{nth_bytes, lies_at, part_of_front}
use Rattle.lines.proofs.line.Line.token.Goals as goal
use Rattle.lines.specs.Spans.{CutAt, nth_span}
use Rattle.std.proofs.lemmas.List.{length-take}

pub returns : goal.returns
returns c =
    let bytes = c.args.self.now.bytes.now in
    let end = c.args.self.now.end in
    let spans = c.deref.result.now in
    let same : spans ≡ c.args.self.now.tokens.items = search rules in
    let cut : CutAt bytes end spans = subst (CutAt bytes end) (sym same) c.args.self.now.cut in
    let known : c.args.i < length spans = omega (arith, ap length same, c.requires) in
    let span = nth_span spans c.args.i in
    let fits : span.at + span.len ≤ end = omega (arith, cut.split.inside c.args.i known, length-take end bytes) in
    let long : span.at + span.len - span.at ≡ span.len = omega arith in
    let text = ap (λ n. take n (drop span.at bytes)) long in
    record {
      text =
          text
          ∙ sym (part_of_front bytes end span.at span.len fits)
          ∙ sym (nth_bytes (take end bytes) spans c.args.i known)
          ∙ ap (λ ts. get_or ts c.args.i []) cut.split.all;
      placed = lies_at bytes span.at span.len _ (omega (arith, cut.ended)) refl text;
    }
