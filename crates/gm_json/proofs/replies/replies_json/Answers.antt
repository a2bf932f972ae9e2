use Rattle.gm_json.proofs.Lower.{All, Position, refl, sym, subst, ◌∙◌, ap, ◌++◌}
use Rattle.serde_json.specs.Data.{Data}
use Rattle.gm_play.specs.MoveValues.{IsMoveValue}
use Rattle.gm_play.specs.Replies.{AreReplies}
use Rattle.gm_play.proofs.Choices.{all_chosen}
use Rattle.gm_play.proofs.RepliesRows.{turn_next}
use Rattle.gm_json.specs.Words.{line_of}
use Rattle.gm_json.specs.RepliesLines.{IsRepliesLine}
use Rattle.gm_json.proofs.replies.replies_json.Goals as goal

pub loop-x-preserved : goal.loop-x-preserved
loop-x-preserved g c =
    let r = g.G.Game.rules in
    let p = c.args.known.now.position in
    let found = c.moves_of-list.ensures.moves in
    let s = c.replies_in-replies.result in
    let each = subst (All (IsMoveValue r p)) (sym (c.as_slice-x-items.ensures.value ∙ found.are))
    (all_chosen r (IsMoveValue r p) c.args.distinct found.list found.values.each) in
    let there = c.play.ensures ∙ sym (each c.loop-x.x-index _ c.loop-x-test.true).position in
    turn_next (IsRepliesLine r g.G.Shown.shown g.G.Shown.move_shown p) c.as_slice-x-items.result.now c.loop-x.x-index _ c.loop-x.lines.items
    c.push_line.new.lines.items _ c.loop-x-test.true c.loop-x.invariant (s, subst (λ (q : Position). AreReplies r q s) there c.replies_in-replies.ensures, refl)
    (c.in_ok-push_line.ensures ∙ ap (λ (d : Data). c.loop-x.lines.items ++ line_of d) c.in_ok-tree.ensures)
