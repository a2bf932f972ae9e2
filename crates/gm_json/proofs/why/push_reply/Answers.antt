use Rattle.gm_json.proofs.Lower.{◌≡◌, ◌++◌, ◌∷◌, [], List, ℕ, true, false, codes, ap, sym, subst, refl, ◌∙◌, on_ok_weaker, append_assoc, Members, member, no_members, members_text, compact_text, Position, line_of}
use Rattle.gm_game.specs.declared.position.Solved.{Solved}
use Rattle.gm_game.specs.Values.{IsTrueValue}
use Rattle.gm_play.specs.BestMoves.{IsBestMove}
use Rattle.gm_play.specs.Why.{left_after}
use Rattle.gm_json.specs.Words.{move_or_null}
use Rattle.gm_json.specs.Moves.{move_members}
use Rattle.gm_json.specs.Whys.{after_tree, reply_tree}
use Rattle.gm_json.specs.inner.Parts.{member_text}
use Rattle.gm_json.proofs.Writing.{opened, member_next}
use Rattle.gm_json.proofs.why.push_reply.Goals as goal

pub returns : goal.returns
returns g c =
    let r = g.G.Game.rules in
    let shown = g.G.Shown.shown in
    let move_shown = g.G.Shown.move_shown in
    let p = c.args.known.now.position in
    let x = c.args.x in
    let q = c.play-after.result.position in
    let answer = c.best_move-answer.result in
    -- the move leads to its result
    let same : q ≡ x.position = c.play-after.ensures ∙ sym c.requires.value.position in
    let found = c.in_ok-push_after.ensures in
    let s : Solved = found.0 in
    let there : c.left.result.position ≡ left_after r x.position answer = c.left.ensures ∙ ap (λ (z : Position). left_after r z answer) same in
    let old = c.args.out.now.items in
    let o1 = c.push_bytes.new.out.items in
    let o2 = c.push_move_members.new.out.items in
    let o3 = c.push_answer.new.out.items in
    let o4 = c.push_after.new.out.items in
    let best = move_or_null move_shown x.position answer in
    let tree = after_tree r shown move_shown (left_after r x.position answer) s in
    let m3 : Members = member (codes "after") tree no_members in
    let m2 : Members = member (codes "bestMove") best m3 in
    let e3 : o3 ≡ o2 ++ member_text true (codes "bestMove") best
    = c.in_ok-push_answer.ensures ∙ ap (λ (z : Position). o2 ++ member_text true (codes "bestMove") (move_or_null move_shown z answer)) same in
    let e4 : o4 ≡ o3 ++ member_text true (codes "after") tree
    = found.2 ∙ ap (λ (z : Position). o3 ++ member_text true (codes "after") (after_tree r shown move_shown z s)) there in
    let text = compact_text (reply_tree r shown move_shown p x answer s) in
    let all : o4 ++ members_text true no_members ≡ old ++ text
    = member_next o3 o4 true (codes "after") tree no_members e4
    ∙ member_next o2 o3 true (codes "bestMove") best m3 e3
    ∙ c.in_ok-push_move_members.ensures m2
    ∙ opened old o1 123 (members_text false (move_members r shown move_shown p x m2)) c.in_ok-push_bytes.ensures in
    on_ok_weaker c.push_bytes-2.result
    (λ e. (
      line_of (reply_tree r shown move_shown p x answer s),
      record {
        answer = answer;
        best = subst (λ (z : Position). IsBestMove r z answer) same c.best_move-answer.ensures;
        value = s;
        is_true = subst (λ (z : Position). IsTrueValue r z s) there found.1;
        out_is = refl;
      },
      e ∙ sym (append_assoc o4 (125 ∷ []) (10 ∷ [])) ∙ ap (λ (t : List ℕ). t ++ 10 ∷ []) all ∙ append_assoc old text (10 ∷ []),
    ))
    c.push_bytes-2.ensures
