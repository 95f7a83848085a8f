-- Worked examples, computed from the definitions.
use Rattle.std.specs.Prelude.{◌≡◌, ℕ, Bool, true, false, not, ◌&&◌, List, [], ◌∷◌, Some, None, Option, ◌==◌}
use Rattle.refusals.specs.declared.Refusal.TheVariants.{Plan as Unlawful}
use Rattle.refusals.specs.Numbers.{number_of}
use Rattle.plan.specs.Sizes.{sizes_of, lawful}
use Rattle.plan.specs.Classes.{class_of}

-- whether two lists of sizes are the same
abbrev pub same_sizes : List ℕ → List ℕ → Bool
same_sizes [] [] = true
same_sizes [] (y ∷ ys) = false
same_sizes (x ∷ xs) [] = false
same_sizes (x ∷ xs) (y ∷ ys) = x == y && same_sizes xs ys

-- whether two answers to 'which class' are the same
abbrev pub same_class : Option ℕ → Option ℕ → Bool
same_class None None = true
same_class None (Some y) = false
same_class (Some x) None = false
same_class (Some x) (Some y) = x == y

abbrev pub all_true : List Bool → Bool
all_true [] = true
all_true (b ∷ bs) = b && all_true bs

-- the sizes of the plan that starts at 96 and grows by 125 percent
abbrev pub common_sizes : List ℕ
common_sizes = 96 ∷ 120 ∷ 152 ∷ 192 ∷ 240 ∷ 304 ∷ 384 ∷ 480 ∷ 600 ∷ 752 ∷ 944 ∷ 1184 ∷ 1480 ∷ 1856 ∷ 4096 ∷ []

-- Plan 96, 125 is lawful and has those sizes; under it a need of 96 bytes is of class 1, 97 of class 2, 4,096 of
-- class 15, and 4,097 of none. Plan 48, 110 would have too many classes: it is refused, with number 1.
abbrev pub examples : List Bool
examples =
    lawful 96 125
    ∷ same_sizes (sizes_of 96 125) common_sizes
    ∷ same_class (class_of 96 (sizes_of 96 125)) (Some 1)
    ∷ same_class (class_of 97 (sizes_of 96 125)) (Some 2)
    ∷ same_class (class_of 4096 (sizes_of 96 125)) (Some 15)
    ∷ same_class (class_of 4097 (sizes_of 96 125)) None
    ∷ not (lawful 48 110)
    ∷ (number_of Unlawful == 1)
    ∷ []

-- every example holds
abbrev pub Examples : Type 0
Examples = all_true examples ≡ true
