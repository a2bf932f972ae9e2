use Rattle.gm_page.proofs.Lower.{codes, refl}
use Rattle.gm_page.specs.Puzzles.{aside}
use Rattle.gm_page.proofs.Sheeting.{line_parts}
use Rattle.gm_page.proofs.puzzles.push_aside.Goals as goal

pub returns : goal.returns
unfolding aside
returns c =
    line_parts c.args.sheet.now.items (codes "<div style=\"width:9rem\">") c.args.first_move.now c.args.first_move.now (codes "</div>")
    c.extend_from_slice.new.self.items c.extend_from_slice-2.new.self.items c.extend_from_slice-3.new.self.items c.in_ok-extend_from_slice.ensures.items
    c.in_ok-extend_from_slice-2.ensures.items refl c.in_ok-extend_from_slice-3.ensures.items
