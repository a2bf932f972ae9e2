use Rattle.gm_pieces.proofs.Lower.{◌≤◌, length, take}
use Rattle.gm_game.specs.Children.{IsSetOf}
use Rattle.gm_pieces.proofs.lists.MoveLists.fill_children.Given as goal

abbrev pub invariant-loop-p : goal.invariant-loop-p
invariant-loop-p g l = record { members : IsSetOf (take l.p-index l.p-items) l.set.items; few : length l.set.items ≤ l.p-index }
