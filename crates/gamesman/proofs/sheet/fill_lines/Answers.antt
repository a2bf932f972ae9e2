use Rattle.gamesman.proofs.Lower.{◌≡◌, ◌∙◌, ℕ, length, arith, subst, game_spec}
use Rattle.gamesman.specs.Listed.{AreFilled, IsUnfilled}
use Rattle.gamesman.proofs.Cut.{passed}
use Rattle.gamesman.proofs.Sheeted.{fill_begins}
use Rattle.gamesman.proofs.sheet.fill_lines.Goals as goal

pub loop-j-init : goal.loop-j-init
loop-j-init g c = record {
  many = c.requires.many;
  filled = fill_begins (game_spec g.G.Game.rules g.G.Shown.shown g.G.Shown.move_shown g.G.Pictured.picture) c.args.look c.args.k c.args.lines.now c.args.puzzles.now.items;
}

pub loop-j-preserved : goal.loop-j-preserved
loop-j-preserved g c = record {
  many = c.fill_line.ensures.many ∙ c.loop-j.invariant.many;
  filled = c.in_ok-fill_line.ensures.ok c.args.puzzles.now.items c.loop-j.invariant.filled;
}

pub returns-in_err-fill_line-clause-err : goal.returns-in_err-fill_line-clause-err
returns-in_err-fill_line-clause-err g c =
    passed c.from_residual.result (IsUnfilled (game_spec g.G.Game.rules g.G.Shown.shown g.G.Shown.move_shown g.G.Pictured.picture) c.args.k c.args.lines.now)
    c.in_err-fill_line.field-0.0 c.from_residual.ensures.1 (c.in_err-fill_line.ensures.err c.args.puzzles.now.items c.loop-j.invariant.filled)

pub returns-clause-ok : goal.returns-clause-ok
returns-clause-ok g c =
    let lines = c.args.lines.now in
    let all : c.loop-j.j ≡ length lines = omega (arith, c.loop-j-test.false, c.loop-j.auto.j-end) in
    subst (λ (n : ℕ). AreFilled (game_spec g.G.Game.rules g.G.Shown.shown g.G.Shown.move_shown g.G.Pictured.picture) c.args.look c.args.k lines n
    c.args.puzzles.now.items c.loop-j.puzzles.items) all c.loop-j.invariant.filled
