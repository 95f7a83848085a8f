use Rattle.std.proofs.Common.{◌≡◌, true, false, Some, None, sym, ap, ◌∙◌, subst}
use Rattle.std.specs.Option.{option_map}
use Rattle.slabs.specs.Slabs.{layout, rows_of}
use Rattle.model.specs.Records.{Record, dead_at, dead}
use Rattle.model.specs.Store.{Expired, held}
use Rattle.records.specs.Reading.{record_at}
use Rattle.store.specs.Showing.{Shows, found_record}
use Rattle.store.proofs.Finds.{none_left, find_none, find_dead, find_alive}
use Rattle.store.proofs.store.RecordStore.find.Goals as goal

pub returns-in_err-row-clause-shown : goal.returns-in_err-row-clause-shown
returns-in_err-row-clause-shown c = λ setup n s sh.
    let key = c.args.key.now.bytes.now in
    let none : held key s ≡ None = c.in_err-row.ensures.found setup s.classes sh.records in
    let same = find_none setup c.args.second key s none in (
      subst (Shows setup n c.args.self.now c.args.memory.now None) (sym same) sh,
      ap (held key) same ∙ none ∙ ap (option_map (found_record c.args.self.now c.args.memory.now)) (sym c.from_residual.ensures),
    )

pub returns-then-is_dead-clause-shown : goal.returns-then-is_dead-clause-shown
returns-then-is_dead-clause-shown c =
    let key = c.args.key.now.bytes.now in
    let t = c.args.self.now.records.slab in
    let memory = c.args.memory.now in
    let r : Record = record_at (layout t) (rows_of t) memory c.in_ok-row.row in
    λ setup n s sh.
    let found : held key s ≡ Some r = c.in_ok-row.ensures.found setup s.classes sh.records in
    let is : dead c.args.second r ≡ true = ap (λ tag. dead_at c.args.second tag.expiry) (sym c.tag-tag.ensures) ∙ sym c.is_dead.ensures ∙ c.if-is_dead.true in
    let same = find_dead setup c.args.second key s r found is in
    let after = c.leave.ensures.shown setup n memory None s c.args.second sh in
    (subst (Shows setup n c.leave.new.self memory None) (sym same) after, ap (held key) same ∙ none_left setup s sh.records.kept c.args.second Expired key r found)

pub returns-clause-shown : goal.returns-clause-shown
returns-clause-shown c =
    let key = c.args.key.now.bytes.now in
    let t = c.args.self.now.records.slab in
    let memory = c.args.memory.now in
    let r : Record = record_at (layout t) (rows_of t) memory c.in_ok-row.row in
    λ setup n s sh.
    let found : held key s ≡ Some r = c.in_ok-row.ensures.found setup s.classes sh.records in
    let is : dead c.args.second r ≡ false = ap (λ tag. dead_at c.args.second tag.expiry) (sym c.tag-tag.ensures) ∙ sym c.is_dead.ensures ∙ c.if-is_dead.false in
    let same = find_alive setup c.args.second key s r found is in
    (subst (Shows setup n c.args.self.now memory None) (sym same) sh, ap (held key) same ∙ found)
