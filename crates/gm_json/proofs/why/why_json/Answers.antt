use Rattle.gm_json.proofs.Lower.{refl, sym, subst, ◌∙◌, All, MoveValue, List}
use Rattle.gm_play.specs.MoveValues.{IsMoveValue}
use Rattle.gm_play.specs.PlayTexts.{IsMoveOf}
use Rattle.std.proofs.lemmas.List.{take_all}
use Rattle.gm_json.specs.Whys.{AreReplyLines}
use Rattle.gm_json.proofs.ReplyLines.{lines_next}
use Rattle.gm_json.proofs.why.why_json.Goals as goal

pub loop-x-init : goal.loop-x-init
loop-x-init g c = c.new-lines.ensures.items

pub push_reply-requires : goal.push_reply-requires
push_reply-requires g c =
    let r = g.G.Game.rules in
    let p = c.args.known.now.position in
    let found = c.moves_of-list.ensures in
    let same = c.as_slice-x-items.ensures.value in
    record {
      each = subst (All (IsMoveOf r p)) (sym same) found.each c.loop-x.x-index _ c.loop-x-test.true;
      value = subst (All (IsMoveValue r p)) (sym (same ∙ found.moves.are)) found.moves.values.each c.loop-x.x-index _ c.loop-x-test.true;
    }

pub loop-x-preserved : goal.loop-x-preserved
loop-x-preserved g c =
    lines_next g.G.Game.rules g.G.Shown.shown g.G.Shown.move_shown c.args.known.now.position c.as_slice-x-items.result.now c.loop-x.x-index _
    c.loop-x.lines.items c.push_reply.new.out.items c.loop-x-test.true c.loop-x.invariant c.in_ok-push_reply.ensures

pub returns : goal.returns
returns g c =
    let found = c.moves_of-list.ensures.moves in
    record {
      position = c.args.known.now.position;
      read = (c.args.known.now.legal, refl);
      moves = found.list;
      values = found.values;
      best = found.best;
      lines = subst (λ (list : List MoveValue). AreReplyLines g.G.Game.rules g.G.Shown.shown g.G.Shown.move_shown c.args.known.now.position list
          c.loop-x.lines.items) (take_all c.loop-x.x-index _ c.loop-x-test.false ∙ c.as_slice-x-items.ensures.value ∙ found.are) c.loop-x.invariant;
    }
