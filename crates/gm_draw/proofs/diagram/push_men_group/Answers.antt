use Rattle.std.proofs.lemmas.Result.{on_ok_weaker}
use Rattle.gm_draw.specs.Diagrams.{svg_men}
use Rattle.gm_draw.proofs.Spreading.{joined}
use Rattle.gm_draw.proofs.diagram.push_men_group.Goals as goal

pub returns : goal.returns
unfolding svg_men
returns c =
    on_ok_weaker c.push_over_all.result
    (joined c.args.text.now.items _ _ c.extend_from_slice.new.self.items c.push_over_all.new.text.items c.in_ok-extend_from_slice.ensures.items)
    c.push_over_all.ensures
