use Rattle.gm_shard.proofs.Lower.{◌∙◌, refl, ap, subst, sym, arith}
use Rattle.gm_counters.specs.Steps.{IsWhole, at_next_level}
use Rattle.gm_shard.proofs.CloseLemmas.{not_whole, whole_from}
use Rattle.gm_shard.proofs.shard.Shard.close.Goals as goal

pub returns-then-delivered-number : goal.returns-then-delivered-number
returns-then-delivered-number g c = (
  refl,
  not_whole g.met.G.Game.lawful c.range-range.ensures.good c.number-number.ensures.exact c.requires.is_for (omega arith),
  c.delivered-delivered.ensures.value,
  c.number-number.ensures.value,
  c.if-delivered-number.true,
)

pub close-requires-clause-whole : goal.close-requires-clause-whole
close-requires-clause-whole g c = subst (IsWhole g.G.Game.rules) (sym c.self.view_is)
    (whole_from g.met.G.Game.lawful c.range-range.ensures.good c.number-number.ensures.exact c.requires.is_for (omega arith))

pub returns : goal.returns
returns g c = (
  c.close.ensures ∙ ap at_next_level c.self.view_is,
  whole_from g.met.G.Game.lawful c.range-range.ensures.good c.number-number.ensures.exact c.requires.is_for (omega arith),
)
