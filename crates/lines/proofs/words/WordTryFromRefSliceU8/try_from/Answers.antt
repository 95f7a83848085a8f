use Rattle.std.proofs.Common.{◌≡◌, ℕ, List, map, refl, ap, ◌∙◌, subst, rules, Bor}
use Rattle.lines.proofs.Listed.{entry, is_named, found_word}
use Rattle.lines.proofs.words.WordTryFromRefSliceU8.try_from.Goals as goal
use Rattle.lines.specs.declared.Fault.TheVariants as fault
use Rattle.lines.specs.declared.words.Word.{Word}
use Rattle.lines.specs.Words.{named_in}
use Rattle.std.proofs.lemmas.Iterator.{YieldsList-from_slice}
use Rattle.std.proofs.lemmas.Iterator.Search.{find_from_yields_List}
use Rattle.std.specs.Option.{ok_or, option_map}
use Rattle.std.specs.Slice.Iter.{iter_rest}
use borrow.Author.Tests.{tests}

pub returns : goal.returns
returns c =
    let token = c.args.token.now in
    let pairs : List (Bor (List ℕ) × Word) = iter_rest c.iter.result in
    let mapped : c.map.result ≡ option_map (λ (q : Bor (List ℕ) × Word). q.1) (option_map (λ (q : Bor (Bor (List ℕ) × Word)). q.now) c.find.result) = search rules in
    let found = find_from_yields_List (is_named token) _ _ c.find.result c.find.ensures.ran (YieldsList-from_slice pairs refl) (λ x b q k. search (rules, tests)) in
    let is = subst (λ (ps : List (Bor (List ℕ) × Word)). c.map.result ≡ named_in (map entry ps) token) c.iter.ensures.rest
    (mapped ∙ ap (option_map (λ (q : Bor (List ℕ) × Word). q.1)) found ∙ found_word token pairs) in
    c.ok_or.ensures.value ∙ ap (λ o. ok_or o fault.Unknown) is
