use Rattle.gm_draw.proofs.Spotting.{each_once}
use Rattle.gm_draw.proofs.diagram.each_once.Goals as goal

pub returns : goal.returns
returns g c = each_once g.G.Pictured.picture.style c.args.bytes.now g.G.Pictured.picture.board
