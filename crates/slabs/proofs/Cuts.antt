-- A layout whose classes keep their frames.
use Rattle.std.proofs.Common.{◌≡◌, ℕ, List, map, refl, ap, ◌∙◌}
use Rattle.recency.proofs.Columns.{column_of_rest}
use Rattle.slabs.specs.declared.class.Class.{Class}
use Rattle.slabs.specs.Classes.{frame}
use Rattle.slabs.specs.Layouts.{Layout}
use Rattle.slabs.specs.Slabs.{cut}

module _ (classes classes' : List Class) (owners : List ℕ) (given pages : ℕ) where
  from : List ℕ → List ℕ → List ℕ → Layout
  from sizes chunks shares = record { sizes = sizes; chunks = chunks; shares = shares; owners = owners; given = given; pages = pages }

  pub cut_same : map frame classes' ≡ map frame classes → cut classes' owners given pages ≡ cut classes owners given pages
  unfolding from
  cut_same e =
      ap (λ sizes. from sizes (map (λ x. x.chunks) classes') (map (λ x. x.pages) classes')) (column_of_rest frame (λ x. x.size) (λ _. refl) classes classes' e)
      ∙ ap (λ chunks. from (map (λ x. x.size) classes) chunks (map (λ x. x.pages) classes')) (column_of_rest frame (λ x. x.chunks) (λ _. refl) classes classes' e)
      ∙ ap (λ shares. from (map (λ x. x.size) classes) (map (λ x. x.chunks) classes) shares) (column_of_rest frame (λ x. x.pages) (λ _. refl) classes classes' e)
