use Rattle.std.proofs.Common.{rules}
use Rattle.std.proofs.lemmas.List.Sorted.{IsNonDecreasingBy-from_sort, answers_always}
use Rattle.std.proofs.lemmas.Result.{on_ok_weaker}
use Rattle.gm_page.specs.declared.puzzles.Puzzle.{Puzzle}
use Rattle.gm_page.specs.Puzzles.{moves_key}
use Rattle.gm_page.proofs.puzzles.put_in_order.Goals as goal

pub returns-then-rising : goal.returns-then-rising
returns-then-rising c = rw c.if-rising.true (on_ok_weaker c.sort_by_key.result (λ s. record {
  same = c.sort_by_key.ensures.permutation;
  rising = IsNonDecreasingBy-from_sort (λ (p : Puzzle). moves_key p.solved) _ (s (λ (p : Puzzle). moves_key p.solved) (answers_always _ _ _ (λ f a r g h. search rules)));
  stable = c.sort_by_key.ensures.stable (λ (p : Puzzle). moves_key p.solved) (answers_always _ _ _ (λ f a r g h. search rules));
}) c.sort_by_key.ensures.sorted)
