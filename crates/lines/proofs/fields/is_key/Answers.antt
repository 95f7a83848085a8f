use Rattle.std.proofs.Common.{◌<◌, length, sym, ◌∙◌, arith, rules}
use Rattle.lines.proofs.Bytewise.{all_key_bytes, good_key_by_bytes}
use Rattle.lines.proofs.fields.is_key.Goals as goal
use Rattle.lines.proofs.fields.is_key.Goals.{then-not-is_empty, else-not-is_empty}
use Rattle.lines.specs.Numbers.{key_byte}
use Rattle.std.proofs.lemmas.Bool.{eqb-false}
use Rattle.std.proofs.lemmas.Iterator.{YieldsList-from_slice}
use Rattle.std.proofs.lemmas.Iterator.Search.{all_from_yields_List}
use borrow.Author.Tests.{tests}

pub returns-then-token-le-KEY_LIMIT : goal.returns-then-token-le-KEY_LIMIT
returns-then-token-le-KEY_LIMIT c =
    let token = c.args.token.now in
    let some : 0 < length token =
    elim c.if-not-is_empty.branch [
      | then-not-is_empty w ↦ omega (arith, eqb-false _ _ (sym w.if-not-is_empty.ensures))
      | else-not-is_empty w ↦ search rules
    ] in
    all_from_yields_List key_byte _ _ _ c.all.ensures.ran (YieldsList-from_slice token c.iter.ensures.rest) (λ x b q k. search (rules, tests))
    ∙ all_key_bytes token
    ∙ sym (good_key_by_bytes token some (omega arith))
