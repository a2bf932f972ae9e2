use Rattle.gm_page.proofs.Lower.{◌≡◌, ◌++◌, ℕ, List, take}
use Rattle.gm_page.specs.Defences.{AreDefences}
use Rattle.gm_page.proofs.defences.push_defences.Given as goal

abbrev pub invariant-loop-d : goal.invariant-loop-d
invariant-loop-d g l = (t : List ℕ) × AreDefences g.G.Game.rules g.G.Shown.move_shown l.after.position l.remoteness (take l.d-index l.moves) t
    × (l.text.items ≡ l.fn.text.items ++ t)
