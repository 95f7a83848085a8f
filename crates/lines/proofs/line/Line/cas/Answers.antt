use Rattle.std.proofs.Common.{[], sym, ap, ◌∙◌}
use Rattle.lines.proofs.Lined.{no_verb}
use Rattle.lines.proofs.line.Line.cas.Goals as goal
use Rattle.lines.specs.Command.{Faulty}
use Rattle.lines.specs.Lines.{args, rest, toks}
use Rattle.lines.specs.Numbers.{cas_of}
use Rattle.lines.specs.Reading.{cas_verb, storage}
use Rattle.std.proofs.lemmas.List.{get_or-drop}
use Rattle.std.proofs.lemmas.Result.{err_from_is_err_and}

pub returns-in_err-number : goal.returns-in_err-number
returns-in_err-number c =
    let p = err_from_is_err_and c.from_residual.result c.from_residual.ensures.1 in
    let line = c.args.self.now in
    let bad = ap cas_of (get_or-drop 1 (toks line) 4 []) ∙ c.in_err-number.ensures.0 in
    rw (p.1, p.2)
    (ap (λ o. storage (cas_verb o) (args line) (rest line)) bad ∙ no_verb (args line) (rest line) ∙ ap Faulty (sym c.in_err-number.ensures.1))
