use Rattle.gm_play.proofs.Lower.{◌≡◌, All, Position, refl, sym, subst, ◌∙◌, IsMoveValue}
use Rattle.gm_play.specs.Replies.{AreReplies, IsRepliesRow}
use Rattle.gm_play.proofs.Choices.{all_chosen}
use Rattle.gm_play.proofs.RepliesRows.{turn_next}
use Rattle.gm_play.proofs.replies.replies_text.Goals as goal

pub loop-x-preserved : goal.loop-x-preserved
loop-x-preserved g c =
    let r = g.G.Game.rules in
    let p = c.args.known.now.position in
    let found = c.moves_of-list.ensures.moves in
    let s = c.replies_in-replies.result in
    let each = subst (All (IsMoveValue r p)) (sym (c.as_slice-x-items.ensures.value ∙ found.are))
    (all_chosen r (IsMoveValue r p) c.args.distinct found.list found.values.each) in
    let there = c.play.ensures ∙ sym (each c.loop-x.x-index _ c.loop-x-test.true).position in
    turn_next (IsRepliesRow r g.G.Shown.shown g.G.Shown.move_shown p) c.as_slice-x-items.result.now c.loop-x.x-index _ c.loop-x.rows.items
    c.push_replies.new.rows.items _ c.loop-x-test.true c.loop-x.invariant (s, subst (λ (q : Position). AreReplies r q s) there c.replies_in-replies.ensures, refl)
    c.in_ok-push_replies.ensures
