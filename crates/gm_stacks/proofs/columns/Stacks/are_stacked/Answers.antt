use Rattle.std.proofs.Common.{◌-◌, ◌∙◌, ℕ, ap}
use Rattle.gm_stacks.proofs.StandingSteps.{standing}
use Rattle.gm_stacks.proofs.columns.Stacks.are_stacked.Goals as goal

pub returns : goal.returns
returns c = standing c.args.self.columns c.args.self.rows c.args.taken c.saturating_sub.result c.args.self.few c.requires
    (c.saturating_sub.ensures ∙ ap (λ (n : ℕ). n - c.args.self.columns) c.cells.ensures)
