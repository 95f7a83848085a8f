use Rattle.std.proofs.Common.{◌≡◌, ◌-◌, length, take, drop, sym, refl, ap, ◌∙◌, rules}
use Rattle.lines.proofs.Lined.{got}
use Rattle.lines.proofs.line.Line.retrieval.Goals as goal
use Rattle.lines.specs.Lines.{rest}
use Rattle.std.proofs.lemmas.List.{length-drop, take_at, take_rest}

pub returns : goal.returns
returns c =
    let line = c.args.self.now in
    let spans = line.tokens.items in
    let same : c.deref.result.now ≡ spans = search rules in
    let behind = take (length c.deref.result.now - 1) (drop 1 c.deref.result.now) in
    let are : behind ≡ drop 1 spans = take_rest c.deref.result.now 1 ∙ ap (drop 1) same in
    let copied : c.copy_from_slice.new.self ≡ behind = search rules in
    let size : length c.copy_from_slice.new.self ≡ length behind = ap length copied in
    got line.bytes.now line.end spans _ line.cut c.requires.few refl
    (take_at c.copy_from_slice.new.self _ (length behind) size ∙ copied ∙ are)
    (ap length are ∙ length-drop 1 spans)
    c.args.cas (rest line) (sym c.if-not-has_keys.ensures) c.in_ok-alone.ensures
