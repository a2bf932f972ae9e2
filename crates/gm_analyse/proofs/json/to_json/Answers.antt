use Rattle.gm_analyse.proofs.Lower.{◌≡◌, ℕ, List, ap, ◌∙◌, name_text}
use Rattle.serde_json.specs.Written.{compact_text}
use Rattle.gm_analyse.specs.Tree.{analysis_tree}
use Rattle.std.proofs.lemmas.Result.{IfOk-weaker}
use Rattle.serde_json.proofs.Views.{view-Object}
use Rattle.gm_analyse.proofs.NoFloat.{tree_no_float}
use Rattle.gm_analyse.proofs.json.to_json.Goals as goal

pub returns : goal.returns
returns g c =
    let name : c.text_of.result.now ≡ name_text g.G.Game.rules.name = c.text_of.ensures ∙ ap name_text c.name-name.ensures in
    let same = view-Object c.put_members.new.members ∙ c.in_ok-put_members.ensures ∙ ap (λ (game : List ℕ). analysis_tree game c.args.analysis.now) name in
    IfOk-weaker c.to_string-text.result _ _ (λ s h. h (rw same (tree_no_float (name_text g.G.Game.rules.name) c.args.analysis.now)) ∙ ap compact_text same)
    c.to_string-text.ensures.text
