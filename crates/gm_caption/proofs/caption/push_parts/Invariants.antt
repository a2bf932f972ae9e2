use Rattle.std.proofs.Common.{◌≡◌, ◌++◌, drop}
use Rattle.std.specs.List.{flat_map}
use Rattle.gm_caption.specs.Templates.{parts_from}
use Rattle.gm_caption.specs.Captions.{texts_of, part_text, template_text}
use Rattle.gm_caption.proofs.caption.push_parts.Given as goal

abbrev pub invariant-loop-at : goal.invariant-loop-at
invariant-loop-at l =
    l.item.items ++ flat_map (part_text (texts_of l.labels)) (parts_from l.skip (drop l.at l.template)) ≡ l.fn.item.items ++ template_text l.template (texts_of l.labels)
