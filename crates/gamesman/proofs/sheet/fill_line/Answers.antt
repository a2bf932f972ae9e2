use Rattle.gamesman.proofs.Lower.{◌+◌, ◌<◌, ◌∙◌, ℕ, List, length, sym, ap, subst, game_spec}
use Rattle.gm_page.specs.declared.puzzles.Puzzle.{Puzzle}
use Rattle.gamesman.specs.Listed.{AreFilled, IsPuzzleOf, IsNoPuzzle}
use Rattle.gamesman.proofs.Sheeted.{fill_one, fill_none, puzzle_fault, some_before, set_long}
use Rattle.gamesman.proofs.sheet.fill_line.Goals as goal

pub returns-then-place-k-clause-ok : goal.returns-then-place-k-clause-ok
returns-then-place-k-clause-ok g c start so_far =
    fill_none (game_spec g.G.Game.rules g.G.Shown.shown g.G.Shown.move_shown g.G.Pictured.picture) c.args.look c.args.k c.args.lines.now c.args.j
    c.line_at-line.result.now c.line_at-line.ensures start c.args.puzzles.now.items so_far c.if-place-k.true

pub returns-in-Ok-clause-many : goal.returns-in-Ok-clause-many
returns-in-Ok-clause-many g c =
    ap (λ (ps : List Puzzle). length ps) c.put.ensures ∙ set_long c.args.puzzles.now.items c.args.j c.in-Ok.made

pub returns-in-Ok-clause-ok : goal.returns-in-Ok-clause-ok
returns-in-Ok-clause-ok g c start so_far =
    let spec = game_spec g.G.Game.rules g.G.Shown.shown g.G.Shown.move_shown g.G.Pictured.picture in
    let made = c.in-Ok.made in
    let j = c.args.j in
    subst (AreFilled spec c.args.look c.args.k c.args.lines.now (j + 1) start) (sym c.put.ensures)
    (fill_one spec c.args.look c.args.k c.args.lines.now j c.line_at-line.result.now c.line_at-line.ensures start c.args.puzzles.now.items so_far made
    c.if-place-k.false (subst (λ (n : ℕ). j < n) (sym c.requires.many) c.requires.within)
    (subst (λ (t : List ℕ). IsPuzzleOf spec c.args.look t made) c.as_slice.ensures.value c.in-Ok.ensures.ok))

pub returns-in-Err-clause-err : goal.returns-in-Err-clause-err
returns-in-Err-clause-err g c start so_far =
    let spec = game_spec g.G.Game.rules g.G.Shown.shown g.G.Shown.move_shown g.G.Pictured.picture in
    let line = c.line_at-line.result.now in
    let fault = c.in-Err.fault in
    puzzle_fault spec c.args.k c.args.j c.args.lines.now line c.line_at-line.ensures c.if-place-k.false
    (some_before spec c.args.look c.args.k c.args.lines.now c.args.j start c.args.puzzles.now.items so_far) fault
    (subst (λ (n : ℕ). IsNoPuzzle spec line.text.items n fault) c.number_at-number.ensures
    (subst (λ (t : List ℕ). IsNoPuzzle spec t c.number_at-number.result fault) c.as_slice.ensures.value c.in-Err.ensures.err))
