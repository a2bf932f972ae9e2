use Rattle.gm_page.proofs.Lower.{◌++◌}
use Rattle.gm_page.specs.declared.engine.TheConstants.{BETWEEN}
use Rattle.gm_page.specs.declared.viewer_asking.TheConstants.{ASKING}
use Rattle.gm_page.specs.declared.viewer_boards.TheConstants.{BOARDS}
use Rattle.gm_page.specs.declared.viewer_playing.TheConstants.{PLAYING}
use Rattle.gm_page.specs.declared.viewer_choosing.TheConstants.{CHOOSING}
use Rattle.gm_page.specs.declared.viewer_drawing.TheConstants.{DRAWING}
use Rattle.gm_page.specs.Pages.{page_back}
use Rattle.gm_page.proofs.Paging.{before_others}
use Rattle.gm_page.proofs.page.push_back.Goals as goal

pub returns : goal.returns
unfolding page_back
returns c =
    let e5 = before_others c.extend_from_slice-5.new.self.items CHOOSING.now c.extend_from_slice-6.new.self.items (DRAWING.now) c.extend_from_slice-7.new.self.items c.in_ok-extend_from_slice-6.ensures.items c.in_ok-extend_from_slice-7.ensures.items in
    let e4 = before_others c.extend_from_slice-4.new.self.items PLAYING.now c.extend_from_slice-5.new.self.items (CHOOSING.now ++ DRAWING.now) c.extend_from_slice-7.new.self.items c.in_ok-extend_from_slice-5.ensures.items e5 in
    let e3 = before_others c.extend_from_slice-3.new.self.items BOARDS.now c.extend_from_slice-4.new.self.items (PLAYING.now ++ (CHOOSING.now ++ DRAWING.now)) c.extend_from_slice-7.new.self.items c.in_ok-extend_from_slice-4.ensures.items e4 in
    let e2 = before_others c.extend_from_slice-2.new.self.items ASKING.now c.extend_from_slice-3.new.self.items (BOARDS.now ++ (PLAYING.now ++ (CHOOSING.now ++ DRAWING.now))) c.extend_from_slice-7.new.self.items c.in_ok-extend_from_slice-3.ensures.items e3 in
    let e1 = before_others c.extend_from_slice.new.self.items c.args.digits.now c.extend_from_slice-2.new.self.items (ASKING.now ++ (BOARDS.now ++ (PLAYING.now ++ (CHOOSING.now ++ DRAWING.now)))) c.extend_from_slice-7.new.self.items c.in_ok-extend_from_slice-2.ensures.items e2 in
    before_others c.args.page.now.items BETWEEN.now c.extend_from_slice.new.self.items (c.args.digits.now ++ (ASKING.now ++ (BOARDS.now ++ (PLAYING.now ++ (CHOOSING.now ++ DRAWING.now))))) c.extend_from_slice-7.new.self.items c.in_ok-extend_from_slice.ensures.items e1
