use Rattle.gm_game.specs.declared.limits.TheConstants.{REMOTENESS}
use Rattle.gm_game.specs.Records.{IsRecord}
use Rattle.gm_find.proofs.Lower.{is_some, subst, IsTrueValue}
use Rattle.gm_find.proofs.Matching.{match_value}
use Rattle.gm_find.proofs.positions.is_sought.Goals as goal

pub returns-then-not-is_value : goal.returns-then-not-is_value
returns-then-not-is_value g c = (
  λ e. absurd (cc),
  λ m. (
      let t = c.is_value.ensures.1 (match_value g.G.Game.rules c.args.search.now.sought (is_some c.args.search.now.reached) c.args.p c.in-Some.solved
      (subst (IsRecord g.G.Game.rules REMOTENESS (IsTrueValue g.G.Game.rules) c.args.p) c.in-Some.is c.requires.stored).1 m) in
      let f = c.if-not-is_value.true in
      cc
      ),
)

pub returns-then-not-has_fitting_moves : goal.returns-then-not-has_fitting_moves
returns-then-not-has_fitting_moves g c = (
  λ e. absurd (cc),
  λ m. (let t = c.has_fitting_moves.ensures.1 (m.choice, m.only, m.fastest) in let f = c.if-not-has_fitting_moves.true in cc),
)

pub returns-then-not-is_in : goal.returns-then-not-is_in
returns-then-not-is_in g c = (λ e. absurd (cc), λ m. (let t = c.is_in.ensures.1 m.reaches in let f = c.if-not-is_in.true in cc))
