use Rattle.std.proofs.Common.{rules}
use Rattle.std.proofs.lemmas.List.Sorted.{IsNonDecreasingBy-from_sort, answers_always}
use Rattle.std.proofs.lemmas.Result.{on_ok_weaker}
use Rattle.gm_find.specs.declared.sought.Order.TheVariants.{Long, Hard}
use Rattle.gm_find.specs.Sorting.{order_key}
use Rattle.gm_find.proofs.sorted.put_in_order.Goals as goal

pub returns-in-Long : goal.returns-in-Long
returns-in-Long c = rw c.in-Long.is (on_ok_weaker c.sort_by_key.result (λ s. record {
  same = c.sort_by_key.ensures.permutation;
  rising = IsNonDecreasingBy-from_sort (order_key Long) _ (s (order_key Long) (answers_always _ _ _ (λ f a r g h. search rules)));
  stable = c.sort_by_key.ensures.stable (order_key Long) (answers_always _ _ _ (λ f a r g h. search rules));
}) c.sort_by_key.ensures.sorted)

pub returns-in-Hard : goal.returns-in-Hard
returns-in-Hard c = rw c.in-Hard.is (on_ok_weaker c.sort_by_key-in-Hard.result (λ s. record {
  same = c.sort_by_key-in-Hard.ensures.permutation;
  rising = IsNonDecreasingBy-from_sort (order_key Hard) _ (s (order_key Hard) (answers_always _ _ _ (λ f a r g h. search rules)));
  stable = c.sort_by_key-in-Hard.ensures.stable (order_key Hard) (answers_always _ _ _ (λ f a r g h. search rules));
}) c.sort_by_key-in-Hard.ensures.sorted)
