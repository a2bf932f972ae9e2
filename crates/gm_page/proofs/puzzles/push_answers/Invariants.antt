use Rattle.gm_page.proofs.Lower.{◌≡◌, ◌++◌, take, flat_map}
use Rattle.gm_page.specs.Puzzles.{answer_of}
use Rattle.gm_page.proofs.puzzles.push_answers.Given as goal

abbrev pub invariant-loop-p : goal.invariant-loop-p
invariant-loop-p l = l.sheet.items ≡ l.fn.sheet.items ++ flat_map answer_of (take l.p-index l.puzzles)
