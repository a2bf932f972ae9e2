use Rattle.std.proofs.Common.{◌≡◌, ℕ, ◌*◌, ap₂, ◌∙◌, arith}
use Rattle.gm_stacks.specs.Heights.{split_stackings}
use Rattle.gm_stacks.specs.Stacks.{stacked_boards}
use Rattle.gm_stacks.specs.laws.StackedBoards.{no_middle_boards}
use Rattle.gm_stacks.proofs.NumberingSteps.{boards_fit}
use Rattle.gm_stacks.proofs.columns.Stacks.size.Goals.{After-binomial}
use Rattle.gm_stacks.proofs.columns.Stacks.size.Goals as goal

pub overflow_mul-result : goal.overflow_mul-result
overflow_mul-result c =
    let p = boards_fit c.args.self.columns c.args.self.rows c.args.self.middle c.args.outer c.args.middle _ _ c.binomial.result c.args.self.low c.args.self.narrow
    c.args.self.inside c.stackings.ensures.value c.stackings-2.ensures.value c.binomial.ensures.small in
    omega (arith, p)

value : (c : After-binomial) → c.stackings.result * c.stackings-2.result * c.binomial.result
    ≡ stacked_boards c.args.self.columns c.args.self.rows c.args.self.middle c.args.outer c.args.middle c.args.own
unfolding stacked_boards split_stackings
value c =
    ap₂ (λ (x y : ℕ). x * y) (ap₂ (λ (x y : ℕ). x * y) c.stackings.ensures.value c.stackings-2.ensures.value) c.binomial.ensures.value

pub returns-clause-value : goal.returns-clause-value
returns-clause-value c = value ((goal.at.returns-clause-value c).After-binomial)

pub returns-clause-whole : goal.returns-clause-whole
returns-clause-whole c = λ e f. value ((goal.at.returns-clause-whole c).After-binomial)
    ∙ no_middle_boards c.args.self.columns c.args.self.rows c.args.self.middle c.args.outer c.args.middle c.args.own e f
