use Rattle.gm_json.proofs.Lower.{◌≡◌, ◌++◌, List, ℕ, true, codes, ap, ◌∙◌, on_ok_weaker, Members, member, string, member_text, value_word, whole, text}
use Rattle.gm_json.proofs.Writing.{member_next}
use Rattle.gm_json.proofs.moves.push_value.Goals as goal

pub returns : goal.returns
returns g c =
    let shown = g.G.Shown.shown in
    let s = c.args.value in
    let o0 = c.args.out.now.items in
    let o1 = c.push_text_member.new.out.items in
    let o2 = c.push_value_member.new.out.items in
    let o3 = c.push_number_member.new.out.items in
    let e1 : o1 ≡ o0 ++ member_text c.args.later (codes "position") (text (shown c.args.p))
    = c.in_ok-push_text_member.ensures ∙ ap (λ (t : List ℕ). o0 ++ member_text c.args.later (codes "position") (text t))
    (c.as_slice.ensures.value ∙ c.show.ensures) in
    on_ok_weaker c.push_number_member.result
    (λ e (more : Members).
    member_next o2 o3 true (codes "remoteness") (whole s.remoteness) more (e ∙ ap (λ (n : ℕ). o2 ++ member_text true (codes "remoteness") (whole n))
    c.from.ensures)
    ∙ member_next o1 o2 true (codes "positionValue") (string (value_word s.value)) (member (codes "remoteness") (whole s.remoteness) more)
    c.in_ok-push_value_member.ensures
    ∙ member_next o0 o1 c.args.later (codes "position") (text (shown c.args.p)) (member (codes "positionValue") (string (value_word s.value))
    (member (codes "remoteness") (whole s.remoteness) more)) e1)
    c.push_number_member.ensures
