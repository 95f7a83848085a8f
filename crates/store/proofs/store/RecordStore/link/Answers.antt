use Rattle.std.proofs.Common.{◌+◌, ◌*◌, ◌≤◌, length, get_or, Some, None, sym, refl, subst}
use Rattle.model.specs.Store.{Replaced, held, remove_any, numbered, insert, grow}
use Rattle.store.specs.Showing.{Shows, new_record}
use Rattle.store.proofs.Links.{cleared, same_cas}
use Rattle.store.proofs.store.RecordStore.link.Goals as goal

pub insert-requires : goal.insert-requires
insert-requires c =
    let gone = c.clear.ensures in
    record {
      granted = gone.grants c.args.grant.row c.args.grant.class c.requires.granted;
      fits = subst (λ l. length c.args.key.now.bytes.now + length c.args.data.now ≤ get_or l.sizes c.args.grant.class 0) (sym gone.kept.layout) c.requires.fits;
      memory = subst (λ l. 4096 * l.pages ≤ length c.args.memory.now) (sym gone.kept.layout) c.requires.memory;
    }

pub returns-clause-shown : goal.returns-clause-shown
returns-clause-shown c =
    let key = c.args.key.now.bytes.now in
    let fresh = c.args.fresh in
    let r = new_record key c.args.data.now fresh in
    λ setup n s few of sh.
    let now = fresh.second in
    let clear = remove_any setup now Replaced (held key s) s in
    let after = c.clear.ensures.shown setup n (Some c.args.grant) s now sh in
    let stored = c.insert.ensures.shown setup n clear few of (cleared setup s sh.records.kept now Replaced key (held key s) refl) after in
    subst (λ cas. Shows setup (n + 1) c.grow.new.self c.insert.new.memory None (grow setup (insert setup (numbered (cas + 1) r) clear))) (same_cas setup now Replaced (held key s) s)
    (c.grow.ensures.shown setup (n + 1) c.insert.new.memory None (insert setup (numbered (clear.cas + 1) r) clear) stored)
