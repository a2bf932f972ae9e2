use Rattle.std.proofs.Common.{sym, subst}
use Rattle.gm_engine.specs.Games.{played}
use Rattle.gm_engine.specs.Replies.{IsReply}
use Rattle.gm_engine.specs.declared.request.Request.{Request}
use Rattle.gm_engine.proofs.replies.reply.Goals as goal

pub returns-in-Lines : goal.returns-in-Lines
returns-in-Lines g c =
    let game = played c.args.width g.G.Game.rules g.G.Shown.shown g.G.Shown.move_shown in
    subst (λ (r : Request). IsReply game r c.args.order.now c.args.order.now c.args.out.now c.lines_reply.new.out c.lines_reply.result) (sym c.in-Lines.is)
    c.lines_reply.ensures
