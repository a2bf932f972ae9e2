use Rattle.std.proofs.Common.{◌∙◌, ap, get_or}
use Rattle.gm_caption.specs.Templates.{first_part}
use Rattle.gm_caption.proofs.Parts.{skipped, begun, rest_whole}
use Rattle.gm_caption.proofs.template.next_part.Goals as goal

pub returns-then-skip-gt0 : goal.returns-then-skip-gt0
returns-then-skip-gt0 c = skipped c.args.text.now c.args.at c.args.skip c.requires c.if-skip-gt0.true

pub returns : goal.returns
returns c =
    let text = c.args.text.now in
    let at = c.args.at in
    begun text at c.args.skip c.further.result c.part_at-part.result c.requires c.if-skip-gt0.false
    (c.part_at-part.ensures ∙ ap (first_part (get_or text at 0)) (rest_whole text at)) c.further.ensures
