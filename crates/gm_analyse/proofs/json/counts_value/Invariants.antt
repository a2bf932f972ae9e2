use Rattle.gm_analyse.proofs.Lower.{◌≡◌, ◌++◌, drop, map, count_tree}
use Rattle.serde_json.specs.View.{view}
use Rattle.gm_analyse.proofs.json.counts_value.Given as goal

abbrev pub invariant-loop-count : goal.invariant-loop-count
invariant-loop-count l = map view l.list.items ++ map count_tree (drop l.count-index l.counts) ≡ map count_tree l.counts
