use Rattle.gm_play.proofs.Lower.{◌≡◌, ◌≢◌, ◌+◌, [], drop, drop_more, get_or, true, Option, None, Some, refl, subst, arith, inl, End}
use Rattle.std.proofs.lemmas.List.{drop_all}
use Rattle.std.proofs.Common.{is_some}
use Rattle.gm_play.specs.Lines.{IsReplied}
use Rattle.gm_play.proofs.Playing.{answers, played, ends_last, replies_on, replies_not, reached_answered, reached_replied, moves_answered, moves_replied}
use Rattle.gm_play.proofs.Reaching.{own_reached}
use Rattle.gm_play.proofs.Wanted.{none_if}
use Rattle.gm_play.proofs.play_line.walk.Goals as goal

-- whether the game has ended
ended_if : (o p : Option End) → o ≡ p → true ≡ is_some o → p ≢ None
ended_if None p e f none = let z : ⊥ = cc in z
ended_if (Some x) p e f none = let z : ⊥ = cc in z

pub loop-reply-init : goal.loop-reply-init
loop-reply-init g c = record { on = λ o h. h; reached = own_reached g.G.Game.rules c.args.start.now.position c.args.start.now.legal; few = omega arith }

pub replied-requires-clause-legal : goal.replied-requires-clause-legal
replied-requires-clause-legal g c =
    let line = c.loop-reply.line in
    (reached_answered g.G.Game.rules g.met.G.Game.lawful c.args.start.now.position.tier line.side line _ c.answered-line.ensures c.loop-reply.invariant.reached).0

pub returns-then-is_some : goal.returns-then-is_some
returns-then-is_some g c =
    let r = g.G.Game.rules in
    let line = c.loop-reply.line in
    let a = c.answered-line.result in
    let replies = drop c.loop-reply.reply-index c.args.replies.now in
    played r c.args.replies.now _ (Some a) refl (c.loop-reply.invariant.on (Some a) (answers r line.side line a replies (Some a) refl c.answered-line.ensures
    ([], inl (ended_if _ _ c.primitive.ensures c.if-is_some.ensures), refl)))

pub returns-in_err-line : goal.returns-in_err-line
returns-in_err-line g c =
    let r = g.G.Game.rules in
    let xs = c.args.replies.now in
    let i = c.loop-reply.reply-index in
    let line = c.loop-reply.line in
    let a = c.answered-line.result in
    let open_ : r.primitive a.position ≡ None = none_if _ _ c.primitive.ensures c.if-is_some.ensures in
    let is : IsReplied r a (get_or xs i 0) None = subst (IsReplied r a (get_or xs i 0)) c.in_err-line.was c.replied.ensures in
    rw c.from_residual.ensures
    (played r xs _ None refl (c.loop-reply.invariant.on None (answers r line.side line a (drop i xs) None refl c.answered-line.ensures
    (rw (drop_more xs i 0 c.loop-reply-test.true) (replies_not r line a c.answered-line.ensures open_ (get_or xs i 0) (drop (i + 1) xs) is)))))

pub loop-reply-preserved : goal.loop-reply-preserved
loop-reply-preserved g c =
    let r = g.G.Game.rules in
    let laws = g.met.G.Game.lawful in
    let xs = c.args.replies.now in
    let i = c.loop-reply.reply-index in
    let line = c.loop-reply.line in
    let a = c.answered-line.result in
    let new = c.in_ok-line.line in
    let tier = c.args.start.now.position.tier in
    let open_ : r.primitive a.position ≡ None = none_if _ _ c.primitive.ensures c.if-is_some.ensures in
    let is : IsReplied r a (get_or xs i 0) (Some new) = subst (IsReplied r a (get_or xs i 0)) c.in_ok-line.was c.replied.ensures in
    let few = c.loop-reply.invariant.few in
    let more = moves_answered r line.side line a c.answered-line.ensures in
    let one = moves_replied r (get_or xs i 0) a new is in
    record {
      on = λ o h. c.loop-reply.invariant.on o (answers r line.side line a (drop i xs) o refl c.answered-line.ensures
          (rw (drop_more xs i 0 c.loop-reply-test.true) (replies_on r line a c.answered-line.ensures open_ (get_or xs i 0) (drop (i + 1) xs) new o is h)));
      reached = reached_replied r laws tier (get_or xs i 0) a new is
          (reached_answered r laws tier line.side line a c.answered-line.ensures c.loop-reply.invariant.reached);
      few = omega arith;
    }

pub returns : goal.returns
returns g c =
    let r = g.G.Game.rules in
    let xs = c.args.replies.now in
    let line = c.loop-reply.line in
    let a = c.answered.result in
    played r xs _ (Some a) refl (c.loop-reply.invariant.on (Some a) (answers r line.side line a (drop c.loop-reply.reply-index xs) (Some a) refl c.answered.ensures
    (rw (drop_all c.loop-reply.reply-index xs c.loop-reply-test.false) (ends_last r line a c.answered.ensures))))
