use Rattle.std.proofs.Common.{◌≡◌, ℕ, ◌+◌, ◌*◌, ◌<◌, ◌^◌, ap, ◌∙◌, arith}
use Rattle.gm_board.specs.Masks.{has_cell}
use Rattle.gm_stacks.specs.Heights.{rank_split}
use Rattle.gm_stacks.specs.Stacks.{heights}
use Rattle.gm_stacks.specs.laws.HeightRanks.{stackings_few}
use Rattle.gm_stacks.specs.laws.SplitRanks.{no_middle_rank}
use Rattle.gm_stacks.proofs.ColumnSteps.{rank_by}
use Rattle.gm_stacks.proofs.NumberingSteps.{index_fits}
use Rattle.gm_stacks.proofs.columns.Stacks.rank.Goals.{After-stackings}
use Rattle.gm_stacks.proofs.columns.Stacks.rank.Goals as goal

product : (c : After-stackings) → c.ranked.result.0.rank * c.stackings.result < 2 ^ 63
product c =
    let r = c.ranked.result.0 in
    let a = stackings_few r.rows r.columns r.pieces r.low r.narrow in
    let b = r.below in
    index_fits r.rank c.stackings.result (omega (arith, a, b)) c.stackings.ensures.small

pub overflow_mul-result : goal.overflow_mul-result
overflow_mul-result c = let p = product ((goal.at.overflow_mul-result c).After-stackings) in omega (arith, p)

pub overflow_add-result : goal.overflow_add-result
overflow_add-result c =
    let p = product ((goal.at.overflow_add-result c).After-stackings) in
    let r = c.ranked.result.1 in
    let a = stackings_few r.rows r.columns r.pieces r.low r.narrow in
    let b = r.below in
    omega (arith, p, a, b)

value : (c : After-stackings) → c.ranked.result.0.rank * c.stackings.result + c.ranked.result.1.rank
    ≡ rank_split c.args.self.rows c.args.self.middle (heights c.args.self.columns c.args.self.rows (has_cell c.args.taken))
value c =
    let r = c.ranked.result.0 in
    let q = c.ranked.result.1 in
    rank_by c.args.self.rows c.args.self.middle _ r.rows r.columns r.pieces r.rank q.rows q.columns q.pieces q.rank c.stackings.result
    c.ranked.ensures.rows.0 c.ranked.ensures.rows.1 r.below q.below c.ranked.ensures.middle c.ranked.ensures.outer c.stackings.ensures.value

pub returns-clause-value : goal.returns-clause-value
returns-clause-value c = value ((goal.at.returns-clause-value c).After-stackings)

pub returns-clause-whole : goal.returns-clause-whole
returns-clause-whole c = λ e.
    let hs = heights c.args.self.columns c.args.self.rows (has_cell c.args.taken) in
    value ((goal.at.returns-clause-whole c).After-stackings)
    ∙ ap (λ (k : ℕ). rank_split c.args.self.rows k hs) e
    ∙ no_middle_rank c.args.self.rows hs
