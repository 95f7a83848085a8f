-- What rows and page memory say: the record of a row, and the records of each class.
use Rattle.std.specs.Prelude.{◌≡◌, ℕ, ◌+◌, ◌≤◌, List, ◌∷◌, map, length, filter, Option, slice_index, slice_index_or}
use Rattle.slabs.specs.declared.row.Row.{Row}
use Rattle.slabs.specs.declared.row.Tag.{Tag}
use Rattle.slabs.specs.Rows.{blank}
use Rattle.slabs.specs.Lists.{held_of}
use Rattle.slabs.specs.Layouts.{Layout, start}
use Rattle.slabs.specs.Records.{bytes_at}
use Rattle.model.specs.Setup.{Setup}
use Rattle.model.specs.Records.{Record, class_no, other_key, moved_at}
use Rattle.model.specs.Store.{Class, class_at, with_records, aged}

-- the record of a row whose chunk begins at a place: the key's bytes, and then the data's
abbrev pub record_of : Row → ℕ → List ℕ → Record
record_of row at pages =
    record {
      key = bytes_at pages at row.key_len;
      flags = row.tag.flags;
      expiry = row.tag.expiry;
      cas = row.tag.cas;
      block = bytes_at pages (at + row.key_len) row.data_len;
      moved = row.tag.moved;
    }

abbrev pub record_at : Layout → List Row → List ℕ → ℕ → Record
record_at l rows pages i = record_of (slice_index_or rows i blank) (start l i) pages

-- the record of a key and data of which a tag tells the rest
abbrev pub brought : List ℕ → List ℕ → Tag → Record
brought key block tag =
    record { key = key; flags = tag.flags; expiry = tag.expiry; cas = tag.cas; block = block; moved = tag.moved }

-- the class of the reference table that a list of rows and page memory show
abbrev pub shown_class : Layout → List Row → List ℕ → (ℕ → List ℕ) → ℕ → Class
shown_class l rows pages lists class =
    record { pages = slice_index l.shares class; records = map (record_at l rows pages) (lists (held_of class)) }

-- each class of the reference table is the one that rows and page memory show
abbrev pub ShowsClasses : Setup → Layout → List Row → List ℕ → (ℕ → List ℕ) → List Class → Type 0
ShowsClasses setup l rows pages lists ks =
    (class : ℕ) → 1 ≤ class → class ≤ length setup.sizes → class_at class ks ≡ shown_class l rows pages lists class

-- the classes without a record, which is known by its key
abbrev pub without_record : Setup → Record → List Class → List Class
without_record setup r ks = with_records (class_no setup r) (filter (other_key r.key) (class_at (class_no setup r) ks).records) ks

-- the classes with a record at the front of its class, moved there at a second
abbrev pub with_front : Setup → ℕ → Record → List Class → List Class
with_front setup now r ks = with_records (class_no setup r) (moved_at now r ∷ filter (other_key r.key) (class_at (class_no setup r) ks).records) ks

-- the classes with another expiry of a record, which is known by its key
abbrev pub with_expiry : Setup → Option ℕ → Record → List Class → List Class
with_expiry setup expiry r ks = with_records (class_no setup r) (map (aged r.key expiry) (class_at (class_no setup r) ks).records) ks
