use Rattle.gm_json.proofs.Lower.{false, ◌∙◌, on_ok_weaker, no_members, members_text}
use Rattle.gm_json.specs.Moves.{move_members}
use Rattle.gm_json.proofs.Writing.{opened}
use Rattle.gm_json.proofs.moves.push_move.Goals as goal

pub returns : goal.returns
returns g c =
    let members = move_members g.G.Game.rules g.G.Shown.shown g.G.Shown.move_shown c.args.p c.args.x no_members in
    let o0 = c.args.out.now.items in
    let o1 = c.push_bytes.new.out.items in
    on_ok_weaker c.push_bytes-2.result
    (λ e. e ∙ c.in_ok-push_move_members.ensures no_members ∙ opened o0 o1 123 (members_text false members) c.in_ok-push_bytes.ensures)
    c.push_bytes-2.ensures
