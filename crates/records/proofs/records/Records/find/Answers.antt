use Rattle.std.proofs.Common.{vec_items, sym, subst}
use mathlib.Core.Logic.{∥∥₁_map}
use Rattle.chained.specs.Chains.{Keeps}
use Rattle.records.proofs.Searching.{lent_search, searched_held, searched}
use Rattle.records.proofs.records.Records.find.Goals as goal

-- what the table keeps over slots and rows as they are lent
pub find-requires : goal.find-requires
find-requires c =
    let t = c.args.self.now in
    ∥∥₁_map c.args.self.now.indexed (λ ix. (
      ix.ids,
      subst (λ hs. Keeps (λ row. row.chain) (λ row. row.tag.hash) t.table hs c.deref-2.result.now ix.ids) (sym c.deref.ensures.value)
          (subst (λ rs. Keeps (λ row. row.chain) (λ row. row.tag.hash) t.table (vec_items t.heads) rs ix.ids) (sym c.deref-2.ensures.value) ix.kept),
    ))

pub returns : goal.returns
returns c =
    let t = c.args.self.now in
    let s = lent_search t c.args.memory.now c.args.key.now.bytes.now c.deref.result.now c.deref-2.result.now c.find.result c.deref.ensures.value c.deref-2.ensures.value c.find.ensures in
    record {
      held = searched_held t c.args.memory.now c.args.key.now.bytes.now c.find.result s;
      found = λ setup ks sh. searched t c.args.memory.now c.args.key.now.bytes.now setup ks sh c.find.result s;
    }
