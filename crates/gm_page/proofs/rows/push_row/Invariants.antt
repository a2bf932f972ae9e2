use Rattle.gm_page.proofs.Lower.{List, ◌++◌, length, map, All, view, Group, AreGroups, group_tree}
use Rattle.gm_play.specs.PlayTexts.{IsMoveOf}
use Rattle.gm_page.proofs.Rowing.{AreGrouped}
use Rattle.gm_page.proofs.rows.push_row.Given as goal

abbrev pub invariant-loop-x : goal.invariant-loop-x
invariant-loop-x g l = record {
  each : All (IsMoveOf g.G.Game.rules l.known.position) l.rest;
  grouped : (gs : List Group) → AreGroups l.rest gs → (
      let tree = group_tree g.G.Shown.shown g.G.Shown.move_shown l.list l.known.position in
      AreGrouped tree l.initial.rest (map view l.initial.cells.items) (map view l.cells.items ++ map tree gs));
}

abbrev pub decreases-loop-x : goal.decreases-loop-x
decreases-loop-x g l = length l.rest
