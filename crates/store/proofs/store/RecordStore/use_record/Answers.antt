use Rattle.std.proofs.Common.{None, sym, refl, ap, ◌∙◌, subst}
use Rattle.std.proofs.lemmas.Bool.{cond-true, cond-false}
use Rattle.model.specs.Store.{to_front}
use Rattle.store.specs.Showing.{Shows, found_record}
use Rattle.store.proofs.Shown.{shown_fronted}
use Rattle.store.proofs.store.RecordStore.use_record.Goals as goal

pub returns-then-moves-clause-shown : goal.returns-then-moves-clause-shown
returns-then-moves-clause-shown g c =
    let t = c.args.self.now in
    let second = c.args.second in
    let moves = g.P.Policy.moving c.args.policy.now second in
    let done = c.bring_to_front.ensures in
    let yes = ap (λ tag. moves tag.moved) (sym c.tag-tag.ensures) ∙ sym c.moves.ensures ∙ c.if-moves.true in
    λ setup n memory s sh.
    let r = found_record t memory c.args.found in
    subst (Shows setup n _ memory None) (sym (cond-true (moves r.moved) (to_front setup second r s) s yes))
    (shown_fronted t _ s sh c.args.found.row c.requires.held done.kept refl refl refl second (done.shown setup memory s.classes sh.records) refl)

pub returns-else-moves-clause-shown : goal.returns-else-moves-clause-shown
returns-else-moves-clause-shown g c =
    let t = c.args.self.now in
    let second = c.args.second in
    let moves = g.P.Policy.moving c.args.policy.now second in
    let no = ap (λ tag. moves tag.moved) (sym c.tag-tag.ensures) ∙ sym c.moves.ensures ∙ c.if-moves.false in
    λ setup n memory s sh.
    let r = found_record t memory c.args.found in
    subst (Shows setup n t memory None) (sym (cond-false (moves r.moved) (to_front setup second r s) s no)) sh
