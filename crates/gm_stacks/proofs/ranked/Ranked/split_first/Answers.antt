use Rattle.std.proofs.Common.{◌≡◌, ℕ, ◌-◌, ◌∷◌, sym, ap, ap₂, ◌∙◌, arith}
use Rattle.gm_stacks.specs.Heights.{stackings, sum_down, first_height, unrank_heights}
use Rattle.gm_stacks.specs.laws.HeightRanks.{IsFirst, first_bound, first_fits, rest_below, rest_is}
use Rattle.gm_stacks.proofs.ranked.Ranked.split_first.Goals.{After-first_height-height, After-with_less}
use Rattle.gm_stacks.proofs.ranked.Ranked.split_first.Goals as goal

first : (c : After-first_height-height) → IsFirst (stackings c.args.self.rows (c.args.self.columns - 1)) c.args.self.rows c.args.self.pieces c.args.self.rank
    (first_height (stackings c.args.self.rows (c.args.self.columns - 1)) c.args.self.rows c.args.self.pieces c.args.self.rank)
first c = first_fits c.args.self.rows c.args.self.columns c.args.self.pieces c.args.self.rank c.requires c.args.self.below

less : (c : After-with_less) → c.with_less.result ≡ sum_down (stackings c.args.self.rows (c.args.self.columns - 1))
    (first_height (stackings c.args.self.rows (c.args.self.columns - 1)) c.args.self.rows c.args.self.pieces c.args.self.rank) c.args.self.pieces
less c = c.with_less.ensures.value
    ∙ ap (λ (x : ℕ). sum_down (stackings c.args.self.rows (c.args.self.columns - 1)) x c.args.self.pieces) c.first_height-height.ensures

pub first_height-height-requires-clause-rank : goal.first_height-height-requires-clause-rank
first_height-height-requires-clause-rank c = first_bound c.args.self.rows c.args.self.columns c.args.self.pieces c.args.self.rank c.requires c.args.self.below

pub overflow_sub-rest : goal.overflow_sub-rest
overflow_sub-rest c = rw c.first_height-height.ensures (first ((goal.at.overflow_sub-rest c).After-first_height-height)).few

pub with_less-requires-clause-first : goal.with_less-requires-clause-first
with_less-requires-clause-first c = rw c.first_height-height.ensures (first ((goal.at.with_less-requires-clause-first c).After-first_height-height)).few

pub overflow_sub-rest-2 : goal.overflow_sub-rest-2
overflow_sub-rest-2 c = rw (less ((goal.at.overflow_sub-rest-2 c).After-with_less)) (first_fits c.args.self.rows c.args.self.columns c.args.self.pieces c.args.self.rank c.requires c.args.self.below).low

pub invariant_of-rest : goal.invariant_of-rest
invariant_of-rest c = record {
  low = c.args.self.low;
  narrow = (let n = c.args.self.narrow in omega (arith, n));
  few = (let n = c.args.self.few in omega (arith, n));
  below = rw (less ((goal.at.invariant_of-rest c).After-with_less), c.first_height-height.ensures)
      (rest_below c.args.self.rows c.args.self.columns c.args.self.pieces c.args.self.rank c.requires c.args.self.below);
}

pub returns-clause-low : goal.returns-clause-low
returns-clause-low c = rw c.first_height-height.ensures
    (first_fits c.args.self.rows c.args.self.columns c.args.self.pieces c.args.self.rank c.requires c.args.self.below).room

pub returns-clause-list : goal.returns-clause-list
returns-clause-list c =
    rest_is c.args.self.rows c.args.self.columns c.args.self.pieces c.args.self.rank c.requires c.args.self.below
    ∙ ap₂ (λ (x v : ℕ). x ∷ unrank_heights c.args.self.rows (c.args.self.columns - 1) (c.args.self.pieces - x) (c.args.self.rank - v))
    (sym c.first_height-height.ensures) (sym (less ((goal.at.returns-clause-list c).After-with_less)))
