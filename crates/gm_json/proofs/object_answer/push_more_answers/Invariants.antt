use Rattle.gm_json.proofs.Lower.{◌++◌, List, ℕ, codes, map, take}
use Rattle.std.specs.Prelude.{option_map}
use Rattle.serde_json.specs.View.{view}
use Rattle.gm_json.specs.Answers.{AreTextAnswers}
use Rattle.gm_json.proofs.object_answer.push_more_answers.Given as goal

abbrev pub invariant-loop-text : goal.invariant-loop-text
invariant-loop-text g l =
    (before : List (List ℕ)) → AreTextAnswers g.G.Game.rules g.G.Shown.shown g.G.Shown.move_shown l.asked l.tiers (option_map (λ v. view v.now) l.id) l.number
    before (l.fn.all.items ++ codes "\n")
    → AreTextAnswers g.G.Game.rules g.G.Shown.shown g.G.Shown.move_shown l.asked l.tiers (option_map (λ v. view v.now) l.id) l.number
    (before ++ map (λ t. t.items) (take l.text-index l.texts)) (l.all.items ++ codes "\n")
