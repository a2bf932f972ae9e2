use Rattle.gm_table.proofs.Lower.{ap, sym, ◌∙◌, greatest_of}
use Rattle.gm_table.proofs.LevelLemmas.{greatest_is}
use Rattle.gm_table.proofs.table.Table.greatest.Goals as goal

pub returns-in-WinLose-clause-value : goal.returns-in-WinLose-clause-value
returns-in-WinLose-clause-value g c =
    greatest_is c.args.phase c.args.self.now.records c.self.inside.outline.greatest_win_lose
    (c.self.invariant.outlined.greatest_win_lose ∙ ap (λ p. greatest_of p c.self.inside.records) (sym c.in-WinLose.is) ∙ ap
    (λ t. greatest_of c.args.phase t.records) c.self.view_is)

pub returns-in-Ties-clause-value : goal.returns-in-Ties-clause-value
returns-in-Ties-clause-value g c =
    greatest_is c.args.phase c.args.self.now.records c.self.inside.outline.greatest_tie
    (c.self.invariant.outlined.greatest_tie ∙ ap (λ p. greatest_of p c.self.inside.records) (sym c.in-Ties.is) ∙ ap
    (λ t. greatest_of c.args.phase t.records) c.self.view_is)
