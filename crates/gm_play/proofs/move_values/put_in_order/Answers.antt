use Rattle.gm_play.proofs.Lower.{rules}
use Rattle.std.proofs.lemmas.List.Sorted.{IsNonDecreasingBy-from_sort, answers_always}
use Rattle.arrayvec.proofs.ArrayVecLemmas.{items-with_items}
use Rattle.gm_play.specs.MoveValues.{sort_key}
use Rattle.gm_play.proofs.move_values.put_in_order.Goals as goal

pub returns-clause-ordered : goal.returns-clause-ordered
returns-clause-ordered c = rw (items-with_items c.args.list.now c.sort_unstable_by_key.new.self (search rules))
    (IsNonDecreasingBy-from_sort sort_key _ (c.sort_unstable_by_key.ensures.sorted sort_key (answers_always _ _ _ (λ f a r g h. search rules))))
