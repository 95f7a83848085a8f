use Rattle.std.proofs.Common.{◌<◌, length, get_or, sym, ap, ◌∙◌, subst, arith}
use lib.ListN.{length-map}
use Rattle.slabs.specs.declared.slab.Slab.{Slab}
use Rattle.slabs.specs.Rows.{blank}
use Rattle.slabs.specs.Slabs.{rows_of, homes_of}
use Rattle.slabs.specs.Records.{Retagged, tags}
use Rattle.model.specs.Records.{expiring}
use Rattle.slabs.specs.Slabs.{layout}
use Rattle.records.proofs.Chaining.{within}
use Rattle.records.proofs.Telling.{until, at_column, by_columns, retagged_here, shows_expiry}
use Rattle.records.proofs.records.Records.set_expiry.Goals as goal
use Rattle.records.proofs.records.Records.set_expiry.Goals.{After-retag}

pub retag-requires-clause-hash : goal.retag-requires-clause-hash
retag-requires-clause-hash c =
    let rs = rows_of c.args.self.now.slab in
    ap (λ x. x.hash) (c.tag-tag.ensures blank.tag ∙ at_column (λ row. row.tag) rs c.args.i) ∙ sym (at_column (λ row. row.tag.hash) rs c.args.i)

module _ (c : After-retag) where
  abbrev old : Slab
  old = c.args.self.now.slab

  retagged : Retagged old c.retag.new.self.slab c.args.i (until c.args.expiry (get_or (tags (rows_of old)) c.args.i blank.tag))
  retagged = subst (λ x. Retagged old c.retag.new.self.slab c.args.i (until c.args.expiry x)) (c.tag-tag.ensures blank.tag) c.retag.ensures.retagged

  there : c.args.i < length (rows_of old)
  there = rw (length-map (rows_of old) (λ row. row.home)) at (within (homes_of old) c.args.i (rw c.requires.held (omega arith)))

pub returns-clause-shown : goal.returns-clause-shown
returns-clause-shown c = λ setup memory ks sh.
    let a = (goal.at.returns-clause-shown c).After-retag in
    shows_expiry setup (old a) memory ks sh c.args.i c.requires.held (there a) c.retag.new.self.slab c.args.expiry (retagged a)

pub returns-clause-told : goal.returns-clause-told
returns-clause-told c = λ memory.
    let a = (goal.at.returns-clause-told c).After-retag in
    let s = c.args.self.now.slab in
    retagged_here s c.retag.new.self.slab c.args.i _ (retagged a) memory (there a) ∙ ap (expiring c.args.expiry) (sym (by_columns (layout s) (rows_of s) memory c.args.i))
