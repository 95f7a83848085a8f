-- What the list and the table of a book leave of each other.
use Rattle.std.proofs.Common.{◌≡◌, ℕ, false, List, map, get_or, sym, refl, ap, ◌∙◌, subst}
use Rattle.recency.specs.Lists.{Reads, Listed}
use Rattle.recency.specs.declared.RecencyList.{RecencyList}
use Rattle.recency.proofs.Columns.{column_of_rest}
use Rattle.chained.specs.Chains.{Holds, size}
use Rattle.linked_rows.specs.Registers.{Registered}
use Rattle.linked_rows.specs.Books.{mark}
use Rattle.linked_rows.specs.declared.register.Register.{Register}
use Rattle.linked_rows.specs.declared.entry.Entry.{Entry}

-- an entry but for its place in the list, and but for its mark and its place in its chain
abbrev pub unlisted : Entry → Entry
unlisted row = record { at = row.at; len = row.len; hash = row.hash; held = row.held; link = row.link; next = 0; prev = 0 }

abbrev pub unheld : Entry → Entry
unheld row = record { at = row.at; len = row.len; hash = row.hash; held = false; link = 0; next = row.next; prev = row.prev }

-- a table does not see what the list writes
pub held_by_list : (register : Register) (heads : List ℕ) (old new : List Entry) (ids : List ℕ) → map unlisted new ≡ map unlisted old → Registered (λ row. row.link) (λ row. row.hash) mark register heads old ids → Registered (λ row. row.link) (λ row. row.hash) mark register heads new ids
held_by_list register heads old new ids rest h =
    record {
      kept =
          subst (λ c. Holds (size register.chains) heads c (map (λ row. row.hash) new) ids) (sym (column_of_rest unlisted (λ row. row.link) (λ _. refl) old new rest))
          (subst (λ c. Holds (size register.chains) heads (map (λ row. row.link) old) c ids) (sym (column_of_rest unlisted (λ row. row.hash) (λ _. refl) old new rest)) h.kept);
      marks = λ k. h.marks k ∙ ap (λ m. get_or m k 0) (sym (column_of_rest unlisted mark (λ _. refl) old new rest));
    }

-- a list does not see what the table writes
pub listed_by_table : (list : RecencyList) (old new : List Entry) (ids : List ℕ) → map unheld new ≡ map unheld old → Reads (λ row. row.next) (λ row. row.prev) list old ids → Reads (λ row. row.next) (λ row. row.prev) list new ids
listed_by_table list old new ids rest l =
    subst (λ c. Listed list.front list.back c (map (λ row. row.prev) new) ids) (sym (column_of_rest unheld (λ row. row.next) (λ _. refl) old new rest))
    (subst (λ c. Listed list.front list.back (map (λ row. row.next) old) c ids) (sym (column_of_rest unheld (λ row. row.prev) (λ _. refl) old new rest)) l)
