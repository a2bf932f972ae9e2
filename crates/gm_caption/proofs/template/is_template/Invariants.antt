use Rattle.std.proofs.Common.{◌≡◌, drop}
use Rattle.std.specs.List.{list_all}
use Rattle.gm_caption.specs.Templates.{is_allowed, is_template, parts_from}
use Rattle.gm_caption.proofs.template.is_template.Given as goal

abbrev pub invariant-loop-at : goal.invariant-loop-at
invariant-loop-at l = list_all is_allowed (parts_from l.skip (drop l.at l.text)) ≡ is_template l.text
