use Rattle.gm_tiers.proofs.Lower.{TooManyTiers, TierTooLarge, []}
use Rattle.gm_tiers.proofs.StepLemmas.{passed_on, ends_as}
use Rattle.gm_tiers.proofs.SearchLemmas.{too_many_reached, found_next_reached}
use Rattle.gm_tiers.proofs.AnswerLemmas.{found_is, many_is, large_is}
use Rattle.gm_tiers.proofs.OrderLemmas.{order_is, children_first}
use Rattle.gm_tiers.proofs.order.TierOrder.from_tier.Goals as goal

pub returns-in_err-found-clause-refusal : goal.returns-in_err-found-clause-refusal
returns-in_err-found-clause-refusal g c e = ends_as c.from_residual.result _ (λ _. []) e (passed_on c.from_residual.result c.search.result
    c.in_err-found.field-0.0 _ _ _ _ c.from_residual.ensures.1 c.in_err-found.was c.search.ensures (λ x. x))

pub returns-in_err-found-clause-too_many : goal.returns-in_err-found-clause-too_many
returns-in_err-found-clause-too_many g c is = many_is g.G.Game.rules c.args.first (returns-in_err-found-clause-refusal g c TooManyTiers is)

pub returns-in_err-found-clause-more : goal.returns-in_err-found-clause-more
returns-in_err-found-clause-more g c is = too_many_reached g.G.Game.rules c.args.first (returns-in_err-found-clause-too_many g c is)

pub returns-in_err-found-clause-too_large : goal.returns-in_err-found-clause-too_large
returns-in_err-found-clause-too_large g c t is = large_is g.G.Game.rules c.args.first t (returns-in_err-found-clause-refusal g c (TierTooLarge t) is)

pub returns-in_err-found-clause-reached : goal.returns-in_err-found-clause-reached
returns-in_err-found-clause-reached g c t is =
    let (large, found, next) = returns-in_err-found-clause-too_large g c t is in found_next_reached g.G.Game.rules c.args.first found t next

pub returns-in-Ok-clause-order : goal.returns-in-Ok-clause-order
returns-in-Ok-clause-order g c = order_is g.G.Game.rules c.args.first c.in_ok-found.found.keys c.in-Ok.tiers.items
    (found_is g.G.Game.rules c.args.first c.in_ok-found.found.keys c.in_ok-found.ensures) c.in-Ok.ensures.same c.in-Ok.ensures.ordered

pub returns-in-Ok-clause-children_first : goal.returns-in-Ok-clause-children_first
returns-in-Ok-clause-children_first g c = children_first g.G.Game.rules g.met.G.Game.lawful c.args.first c.in-Ok.tiers.items (returns-in-Ok-clause-order g c)
