use Rattle.gm_json.proofs.Lower.{◌≡◌, ◌++◌, [], List, ℕ, true, false, codes, ap, ◌∙◌, Members, member, no_members, string, members_text, take, utf8_lossy, whole, text, member_text}
use Rattle.gm_json.proofs.Writing.{opened, member_next, clear_lossy}
use Rattle.gm_json.proofs.object_answer.refusal.Goals as goal

pub returns : goal.returns
returns c =
    let o1 = c.push_bytes.new.out.items in
    let o2 = c.push_text_member.new.out.items in
    let o3 = c.push_number_member.new.out.items in
    let o4 = c.push_text_member-2.new.out.items in
    let why = c.args.why.now in
    let said = string why in
    let read = text (take 64 c.args.line.now) in
    let m3 : Members = member (codes "read") read no_members in
    let m2 : Members = member (codes "line") (whole c.args.number) m3 in
    let m1 : Members = member (codes "error") said m2 in
    let clear : utf8_lossy c.as_bytes.result.now ≡ why = ap utf8_lossy c.as_bytes.ensures.value ∙ clear_lossy why c.requires in
    let e2 : o2 ≡ o1 ++ member_text false (codes "error") said
    = c.in_ok-push_text_member.ensures ∙ ap (λ (t : List ℕ). o1 ++ member_text false (codes "error") (string t)) clear in
    let e4 : o4 ≡ o3 ++ member_text true (codes "read") read
    = c.in_ok-push_text_member-2.ensures ∙ ap (λ (t : List ℕ). o3 ++ member_text true (codes "read") (text t)) c.first_bytes.ensures in
    c.in_ok-push_bytes-2.ensures
    ∙ member_next o3 o4 true (codes "read") read no_members e4
    ∙ member_next o2 o3 true (codes "line") (whole c.args.number) m3 c.in_ok-push_number_member.ensures
    ∙ member_next o1 o2 false (codes "error") said m2 e2
    ∙ opened [] o1 123 (members_text false m1) (c.in_ok-push_bytes.ensures ∙ ap (λ (l : List ℕ). l ++ codes "{") c.new-out.ensures.items)
