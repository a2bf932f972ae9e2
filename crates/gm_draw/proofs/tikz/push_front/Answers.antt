use Rattle.std.proofs.lemmas.Result.{on_ok_weaker}
use Rattle.gm_draw.specs.Tikz.{tikz_front}
use Rattle.gm_draw.proofs.Spreading.{joined}
use Rattle.gm_draw.proofs.tikz.push_front.Goals as goal

pub returns : goal.returns
unfolding tikz_front
returns c =
    on_ok_weaker c.push_under_all.result
    (joined c.args.text.now.items _ _ c.extend_from_slice.new.self.items c.push_under_all.new.text.items c.in_ok-extend_from_slice.ensures.items)
    c.push_under_all.ensures
