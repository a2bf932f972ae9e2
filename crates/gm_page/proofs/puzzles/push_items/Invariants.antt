use Rattle.gm_page.proofs.Lower.{◌≡◌, ◌++◌, take}
use Rattle.gm_page.specs.Puzzles.{items_of}
use Rattle.gm_page.proofs.puzzles.push_items.Given as goal

abbrev pub invariant-loop-k : goal.invariant-loop-k
invariant-loop-k l = l.sheet.items ≡ l.fn.sheet.items ++ items_of l.caption 0 (take l.k l.puzzles)
