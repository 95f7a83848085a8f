-- What a plan that was made is.
use Rattle.std.specs.Prelude.{◌≡◌, ℕ, ◌-◌, ◌<◌, ◌≤◌, true, List, length, take, slice_index, slice_index_or}
use Rattle.plan.specs.declared.plan.Plan.{Plan}
use Rattle.plan.specs.Sizes.{page, sizes_of, lawful, Follows}

-- the sizes of a plan's classes, class 1 first
abbrev pub plan_sizes : Plan → List ℕ
plan_sizes plan = take plan.count plan.sizes

-- every class has larger chunks than the one before it
abbrev pub Rises : List ℕ → Type 0
Rises sizes = (i j : ℕ) → i < j → j < length sizes → slice_index sizes i < slice_index sizes j

-- the plan that was made from a first size and a percent
pub record Made (first percent : ℕ) (plan : Plan) : Type 0 where
  pub lawfully : lawful first percent ≡ true
  pub sizes : plan_sizes plan ≡ sizes_of first percent
  pub by_rule : Follows percent first (plan_sizes plan)
  pub few : length (plan_sizes plan) ≤ 32
  pub rising : Rises (plan_sizes plan)
  pub last : slice_index_or (plan_sizes plan) (length (plan_sizes plan) - 1) 0 ≡ page
