-- What is shown of a store as it is opened. Assumes nothing.
use Rattle.std.proofs.Common.{◌≡◌, ℕ, zero, suc, ◌-◌, ◌*◌, ◌≤◌, List, [], length, get_or, replicate, None, vec_len, sym, refl, ap, subst, arith}
use Rattle.std.specs.List.{AllByRecursion}
use Rattle.plan.specs.Plans.{plan_sizes}
use Rattle.chained.specs.Chains.{size}
use Rattle.chained.specs.Growth.{start}
use Rattle.slabs.specs.declared.slab.Slab.{Slab}
use Rattle.slabs.specs.Openings.{Opened}
use Rattle.model.specs.Setup.{Setup}
use Rattle.model.specs.Calls.{empty}
use Rattle.model.specs.Store.{bare}
use Rattle.model.proofs.Accounts.{even_empty}
use Rattle.records.specs.Kept.{NoGrant}
use Rattle.records.specs.Showing.{ShowsRecords}
use Rattle.store.specs.declared.store.RecordStore.{RecordStore}
use Rattle.store.specs.Counting.{no_counts}
use Rattle.store.specs.Showing.{Shows, NotBefore, counts_shown}

-- so many rows serve so many pages
pub pages_served : {sizes : List ℕ} (s : Slab) (rows pages : ℕ) → Opened sizes rows s → rows ≡ 85 * pages → pages ≤ 256 → s.pages ≡ pages
pages_served s rows pages opened is few = let all = opened.all_pages in omega arith

no_records : (n i : ℕ) → (get_or (replicate n bare) i bare).records ≡ []
no_records zero i = refl
no_records (suc n) zero = refl
no_records (suc n) (suc i) = no_records n i

pub shown_opened : {setup : Setup} {memory : List ℕ} {sizes : List ℕ} (t : RecordStore) (rows : ℕ) → Opened sizes rows t.records.slab → rows ≡ 85 * setup.pages → setup.pages ≤ 256
    → ShowsRecords setup t.records.slab memory (replicate (length setup.sizes) bare) → NoGrant t.records.slab → size t.records.table ≡ start → vec_len t.records.heads ≡ setup.limit → plan_sizes t.plan ≡ setup.sizes → t.cas ≡ 0 → t.counts ≡ no_counts
    → Shows setup 0 t memory None (empty setup).store
shown_opened {setup} t rows opened is few records granted table slots sizes cas counts =
    let none = opened.none_given in
    record {
      records = records;
      granted = granted;
      pages = pages_served t.records.slab rows setup.pages opened is few;
      free = omega arith;
      growth = table;
      limit = slots;
      sizes = sizes;
      cas = cas;
      counts = ap counts_shown counts;
      soon = λ class num. subst (AllByRecursion (NotBefore (get_or t.soonest.seconds class 0))) (sym (no_records (length setup.sizes) (class - 1))) tt;
      tame = record { linked = omega arith; numbered = omega arith; asked = omega arith; balance = even_empty setup };
    }
