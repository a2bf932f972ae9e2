use Rattle.gm_json.proofs.Lower.{◌≡◌, ◌++◌, List, ℕ, true, false, codes, ap, ◌∙◌, on_ok_weaker, Members, member, member_text, whole, text}
use Rattle.gm_json.proofs.Writing.{member_next}
use Rattle.gm_json.proofs.extras.push_place.Goals as goal

pub returns : goal.returns
returns g c =
    let shown = g.G.Shown.shown in
    let p = c.args.p in
    let o1 = c.args.out.now.items in
    let o2 = c.push_number_member.new.out.items in
    let o3 = c.push_text_member.new.out.items in
    let o4 = c.push_number_member-2.new.out.items in
    let e3 : o3 ≡ o2 ++ member_text true (codes "position") (text (shown p))
    = c.in_ok-push_text_member.ensures ∙ ap (λ (t : List ℕ). o2 ++ member_text true (codes "position") (text t)) (c.as_slice.ensures.value ∙ c.show.ensures) in
    on_ok_weaker c.push_number_member-2.result
    (λ e (more : Members).
    let m3 : Members = member (codes "tier") (whole p.tier) more in
    member_next o3 o4 true (codes "tier") (whole p.tier) more e
    ∙ member_next o2 o3 true (codes "position") (text (shown p)) m3 e3
    ∙ member_next o1 o2 false (codes "index") (whole p.index) (member (codes "position") (text (shown p)) m3) c.in_ok-push_number_member.ensures)
    c.push_number_member-2.ensures
