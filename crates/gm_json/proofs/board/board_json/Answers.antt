use Rattle.gm_json.proofs.Lower.{◌++◌, [], List, ℕ, true, false, codes, ap, ◌∙◌, Members, member, no_members, members_text, position_members, text}
use Rattle.gm_json.proofs.Writing.{opened, member_next}
use Rattle.gm_json.proofs.board.board_json.Goals as goal

pub returns : goal.returns
returns g c =
    let r = g.G.Game.rules in
    let shown = g.G.Shown.shown in
    let move_shown = g.G.Shown.move_shown in
    let p = c.args.known.now.position in
    let s = c.value.result in
    let board = c.args.board.now in
    let mover = c.args.mover.now in
    let o1 = c.push_bytes.new.out.items in
    let o2 = c.push_value.new.out.items in
    let o3 = c.push_text_member.new.out.items in
    let o4 = c.push_text_member-2.new.out.items in
    let m3 : Members = member (codes "toMove") (text mover) no_members in
    let m2 : Members = member (codes "board") (text board) m3 in (
      s,
      c.value.ensures.value,
      c.in_ok-push_bytes-2.ensures
          ∙ member_next o3 o4 true (codes "toMove") (text mover) no_members c.in_ok-push_text_member-2.ensures
          ∙ member_next o2 o3 true (codes "board") (text board) m3 c.in_ok-push_text_member.ensures
          ∙ c.in_ok-push_value.ensures m2
          ∙ opened [] o1 123 (members_text false (position_members r shown move_shown p s m2))
          (c.in_ok-push_bytes.ensures ∙ ap (λ (t : List ℕ). t ++ codes "{") c.new-line.ensures.items),
    )
