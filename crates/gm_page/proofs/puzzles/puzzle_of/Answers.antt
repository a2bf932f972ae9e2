use Rattle.gm_page.proofs.Lower.{ap, refl, ◌∙◌}
use Rattle.gm_page.proofs.puzzles.puzzle_of.Goals as goal

pub returns : goal.returns
returns g c =
    let shown = g.G.Shown.shown in
    record {
      found = c.found_at-found.result;
      is_found = c.found_at-found.ensures.found;
      read = ap shown c.found_at-found.ensures.position;
      game = c.picture.ensures.title;
      side = c.mover.ensures;
      solved = refl;
      diagram = c.in_ok-diagram.ensures;
      solution = c.in_ok-solution.ensures;
      first_move = c.in_ok-first_move.ensures;
      same_text = c.show.ensures ∙ ap shown c.found_at-found.ensures.position;
    }
