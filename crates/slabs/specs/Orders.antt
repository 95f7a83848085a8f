-- When the classes and the rows of a slab are in order.
use Rattle.std.specs.Prelude.{ℕ, ◌+◌, ◌<◌, List, map}
use Rattle.slabs.specs.declared.row.Row.{Row}
use Rattle.slabs.specs.declared.class.Class.{Class}
use Rattle.slabs.specs.Rows.{homes}
use Rattle.slabs.specs.Lists.{Family}
use Rattle.slabs.specs.Layouts.{Layout, Placed, Fitting, Full}

-- the length of key and data of each row
abbrev pub spans_of : List Row → List ℕ
spans_of rows = map (λ row. row.key_len + row.data_len) rows

-- how these classes cut pages with these owners
abbrev pub cut : List Class → List ℕ → ℕ → ℕ → Layout
cut classes owners given pages =
    record {
      sizes = map (λ class. class.size) classes;
      chunks = map (λ class. class.chunks) classes;
      shares = map (λ class. class.pages) classes;
      owners = owners;
      given = given;
      pages = pages;
    }

-- classes and rows whose lists, pages, chunks and counts are in order, in pages that are cut so
pub record InOrder (classes : List Class) (rows : List Row) (l : Layout) : Type 0 where
  pub lists : ℕ → List ℕ
  pub listed : Family classes rows lists
  pub placed : Placed l (homes rows)
  pub fitting : Fitting l (homes rows) (spans_of rows)
  pub full : (class : ℕ) → class < 33 → Full l lists class
