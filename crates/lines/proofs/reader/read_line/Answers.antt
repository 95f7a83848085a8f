use Rattle.std.proofs.Common.{◌≡◌, ◌<◌, length, take, Err, None, Some, Option, sym, ap, ◌∙◌, arith}
use Rattle.lines.proofs.Judging.{line_inside, reading_many}
use Rattle.lines.proofs.reader.read_line.Goals as goal
use Rattle.lines.proofs.reader.read_line.Goals.{then-end-bytes-via-then-end-bytes, then-end-bytes-via-else-end-bytes+then-bytes-end-lt2}
use Rattle.lines.specs.declared.Fault.{Fault}
use Rattle.lines.specs.Command.{Faulty}
use Rattle.lines.specs.Tokens.{tokens}
use Rattle.std.proofs.lemmas.Result.{err_from_is_err_and}
use Rattle.std.specs.Option.{ok_or}

pub returns-then-end-bytes : goal.returns-then-end-bytes
returns-then-end-bytes c = λ e.
    let inside = line_inside c.args.bytes.now c.args.end e in
    elim c.then-end-bytes.branch [
      | then-end-bytes-via-then-end-bytes w ↦ absurd (omega (arith, w.if-end-bytes.true))
      | then-end-bytes-via-else-end-bytes+then-bytes-end-lt2 w ↦ absurd (omega (arith, w.if-bytes-end-lt2.true))
    ]

-- An error that stands for a value that is not there.
missing : {A : Type 0} (o : Option A) (f g : Fault) → Err g ≡ ok_or o f → (o ≡ None) × (g ≡ f)
missing None f g e = (cc, cc)
missing (Some x) f g e = (cc, cc)

pub returns-in_err-tokens : goal.returns-in_err-tokens
returns-in_err-tokens c = λ e.
    let p = err_from_is_err_and c.from_residual.result c.from_residual.ensures.1 in
    let none = missing c.split.result _ _ c.in_err-tokens.ensures.value in
    let many : 6 < length (tokens (take c.args.end c.args.bytes.now)) = rw none.0 at c.split.ensures in
    rw (p.1, p.2) (reading_many c.args.bytes.now c.args.end e many ∙ ap Faulty (sym none.1))
