use Rattle.std.proofs.Common.{◌∷◌, refl, ap, ◌∙◌, subst, rules}
use Rattle.model.specs.Store.{class_at, with_records}
use Rattle.model.specs.Records.{number_or_0}
use Rattle.records.specs.Showing.{ShowsRecords}
use Rattle.store.proofs.Links.{num, noted_for, brought_new, shown_inserted}
use Rattle.store.proofs.store.RecordStore.insert.Goals as goal

pub returns-clause-shown : goal.returns-clause-shown
returns-clause-shown c =
    let t = c.args.self.now in
    let key = c.args.key.now.bytes.now in
    let block = c.args.data.now in
    let grant = c.args.grant in
    let fresh = c.args.fresh in
    let done = c.put.ensures in
    λ setup n s few of free sh.
    let seconds = c.note_new.ensures ∙ noted_for t s grant sh few key block fresh of c.requires.fits c.saturating_add-need.result c.saturating_add-need.ensures in
    let is = brought_new t s grant sh few key block fresh of c.saturating_add-self.result c.saturating_add-self.ensures c.args.key.now.hash in
    shown_inserted t s grant sh few key block fresh of _ c.put.new.memory done.kept done.spent refl c.saturating_add-self.ensures c.stored.ensures (search rules) seconds
    (subst (λ r. ShowsRecords setup c.put.new.self.slab c.put.new.memory (with_records grant.class (r ∷ (class_at grant.class s.classes).records) s.classes)) is
    (done.shown setup s.classes sh.records (num t s grant sh few key block fresh of) c.args.key.now.exact (ap number_or_0 of) free))
