use Rattle.std.proofs.lemmas.Result.{on_ok_weaker}
use Rattle.gm_draw.specs.Diagrams.{svg_net}
use Rattle.gm_draw.proofs.Spreading.{joined_three, when_ok}
use Rattle.gm_draw.proofs.diagram.push_net_group.Goals as goal

pub returns : goal.returns
unfolding svg_net
returns c =
    on_ok_weaker c.extend_from_slice-2.result
    (joined_three c.args.text.now.items _ _ _ c.extend_from_slice.new.self.items c.push_under_all.new.text.items c.extend_from_slice-2.new.self.items
    c.in_ok-extend_from_slice.ensures.items
    c.in_ok-push_under_all.ensures)
    (when_ok c.extend_from_slice-2.result c.extend_from_slice-2.new.self.items _ _ c.extend_from_slice-2.ensures.items)
