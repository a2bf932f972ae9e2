use Rattle.std.proofs.lemmas.Result.{on_ok_weaker}
use Rattle.gm_draw.specs.Diagrams.{svg_arrow}
use Rattle.gm_draw.proofs.Spreading.{joined_three}
use Rattle.gm_draw.proofs.diagram.push_arrow.Goals as goal

pub returns : goal.returns
unfolding svg_arrow
returns c =
    on_ok_weaker c.push_at.result
    (joined_three c.args.text.now.items _ _ _ c.extend_from_slice.new.self.items c.push_path.new.text.items c.push_at.new.text.items
    c.in_ok-extend_from_slice.ensures.items
    c.in_ok-push_path.ensures)
    c.push_at.ensures
