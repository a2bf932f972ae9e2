use Rattle.gm_json.proofs.Lower.{◌≡◌, ◌++◌, List, ℕ, true, false, codes, ap, ◌∙◌, on_ok_weaker, Members, member, string, member_text, value_word, whole, text}
use Rattle.gm_json.proofs.Writing.{member_next}
use Rattle.gm_json.proofs.moves.push_move_members.Goals as goal

pub returns : goal.returns
returns g c =
    let shown = g.G.Shown.shown in
    let move_shown = g.G.Shown.move_shown in
    let x = c.args.x in
    let o1 = c.args.out.now.items in
    let o2 = c.push_text_member.new.out.items in
    let o3 = c.push_value_member.new.out.items in
    let o4 = c.push_text_member-2.new.out.items in
    let o5 = c.push_value_member-2.new.out.items in
    let o6 = c.push_number_member.new.out.items in
    let o7 = c.push_number_member-2.new.out.items in
    let e2 : o2 ≡ o1 ++ member_text false (codes "move") (text (move_shown c.args.p x.number))
    = c.in_ok-push_text_member.ensures ∙ ap (λ (t : List ℕ). o1 ++ member_text false (codes "move") (text t))
    (c.as_slice.ensures.value ∙ c.move_text.ensures) in
    let e4 : o4 ≡ o3 ++ member_text true (codes "position") (text (shown x.position))
    = c.in_ok-push_text_member-2.ensures ∙ ap (λ (t : List ℕ). o3 ++ member_text true (codes "position") (text t))
    (c.as_slice-2.ensures.value ∙ c.show.ensures) in
    let e6 : o6 ≡ o5 ++ member_text true (codes "remoteness") (whole x.result.remoteness)
    = c.in_ok-push_number_member.ensures ∙ ap (λ (n : ℕ). o5 ++ member_text true (codes "remoteness") (whole n)) c.from.ensures in
    on_ok_weaker c.push_number_member-2.result
    (λ e (more : Members).
    let m6 : Members = member (codes "moveRemoteness") (whole x.worth.remoteness) more in
    let m5 : Members = member (codes "remoteness") (whole x.result.remoteness) m6 in
    let m4 : Members = member (codes "positionValue") (string (value_word x.result.value)) m5 in
    let m3 : Members = member (codes "position") (text (shown x.position)) m4 in
    let m2 : Members = member (codes "moveValue") (string (value_word x.worth.value)) m3 in
    member_next o6 o7 true (codes "moveRemoteness") (whole x.worth.remoteness) more
    (e ∙ ap (λ (n : ℕ). o6 ++ member_text true (codes "moveRemoteness") (whole n)) c.from-2.ensures)
    ∙ member_next o5 o6 true (codes "remoteness") (whole x.result.remoteness) m6 e6
    ∙ member_next o4 o5 true (codes "positionValue") (string (value_word x.result.value)) m5 c.in_ok-push_value_member-2.ensures
    ∙ member_next o3 o4 true (codes "position") (text (shown x.position)) m4 e4
    ∙ member_next o2 o3 true (codes "moveValue") (string (value_word x.worth.value)) m3 c.in_ok-push_value_member.ensures
    ∙ member_next o1 o2 false (codes "move") (text (move_shown c.args.p x.number)) m2 e2)
    c.push_number_member-2.ensures
