use Rattle.gamesman.proofs.Lower.{OutOfMemory, on_ok_weaker, game_spec}
use Rattle.gamesman.specs.Listed.{IsUnfilled}
use Rattle.gamesman.proofs.Cut.{passed}
use Rattle.gamesman.proofs.sheet.fill_from.Goals as goal

pub returns-clause-ok : goal.returns-clause-ok
returns-clause-ok g c = on_ok_weaker c.fill_lines.result (λ h. record { filled = h; legends = c.in_ok-push_legend.ensures }) c.fill_lines.ensures.ok

pub returns-in_err-push_legend-clause-err : goal.returns-in_err-push_legend-clause-err
returns-in_err-push_legend-clause-err g c =
    passed c.from_residual.result (IsUnfilled (game_spec g.G.Game.rules g.G.Shown.shown g.G.Shown.move_shown g.G.Pictured.picture) c.args.k c.args.lines.now)
    (OutOfMemory c.in_err-push_legend.field-0.0) c.from_residual.ensures.1 tt
