use Rattle.gamesman.proofs.Lower.{◌≡◌, length, game_spec}
use Rattle.gamesman.specs.Listed.{AreFilled}
use Rattle.gamesman.proofs.sheet.fill_lines.Given as goal

abbrev pub invariant-loop-j : goal.invariant-loop-j
invariant-loop-j g l = record {
  many : length l.puzzles.items ≡ length l.lines;
  filled : AreFilled (game_spec g.G.Game.rules g.G.Shown.shown g.G.Shown.move_shown g.G.Pictured.picture) l.look l.k l.lines l.j l.fn.puzzles.items
      l.puzzles.items;
}
