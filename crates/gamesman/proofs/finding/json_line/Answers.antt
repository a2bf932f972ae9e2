use Rattle.gamesman.proofs.Lower.{ap, ◌∙◌, ◌++◌, List, ℕ}
use Rattle.serde_json.specs.View.{view}
use Rattle.gm_json.specs.Words.{line_of}
use Rattle.gamesman.proofs.Entries.{finding_no_float}
use Rattle.gamesman.proofs.finding.json_line.Goals as goal

pub push_line-requires : goal.push_line-requires
push_line-requires c = finding_no_float _ _ _ c.in_ok-tree.ensures

pub returns : goal.returns
returns c = c.in_ok-push_line.ensures ∙ ap (λ (t : List ℕ). t ++ line_of (view c.in_ok-tree.tree)) c.new-line.ensures.items ∙ ap line_of c.in_ok-tree.ensures
