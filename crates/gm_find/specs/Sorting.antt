-- Found positions in rising order.
use Rattle.std.specs.Prelude.{◌+◌, ◌*◌, ◌^◌, ℕ, List, Option, None, Some, IsPermutation}
use Rattle.std.specs.Ordering.{nat_cmp}
use Rattle.std.specs.List.Sorted.{IsNonDecreasingBy, IsStableByKey}
use Rattle.gm_find.specs.declared.found.Found.{Found}
use Rattle.gm_find.specs.declared.tries.Tries.{Tries}
use Rattle.gm_find.specs.declared.sought.Order.{Order}
use Rattle.gm_find.specs.declared.sought.Order.TheVariants.{Long, Hard}

-- the sum of the tries along the solution; 0 where they are not counted
abbrev pub total_in : Option Tries → ℕ
total_in None = 0
total_in (Some x) = x.total

-- the sort key of a found position
abbrev pub order_key : Order → Found → ℕ
order_key Long x = x.value.remoteness
order_key Hard x = 2 ^ 32 * total_in x.tries + x.value.remoteness

-- ys are the xs in rising order; those with one key keep their order
pub record IsRising (order : Order) (xs ys : List Found) : Type 0 where
  pub same : IsPermutation xs ys
  pub rising : IsNonDecreasingBy (order_key order) ys
  pub stable : IsStableByKey (order_key order) nat_cmp xs ys
