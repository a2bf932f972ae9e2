use Rattle.std.proofs.Common.{◌≡◌, ◌++◌, drop, map, option_map}
use Rattle.serde_json.specs.View.{items_view}
use Rattle.gm_json.specs.Objects.{lines_of_items}
use Rattle.gm_json.proofs.object.lines_of_items.Given as goal

abbrev pub invariant-loop-item : goal.invariant-loop-item
invariant-loop-item l =
    option_map (λ ls. map (λ v. v.items) l.lines.items ++ ls) (lines_of_items l.tier (items_view (drop l.item-index l.items)))
    ≡ lines_of_items l.tier (items_view l.items)
