use Rattle.gm_json.proofs.Lower.{true, false, codes, refl, ◌∙◌, on_ok_weaker, no_members, members_text, position_members, compact_text}
use Rattle.gm_json.specs.Whys.{after_tree}
use Rattle.gm_json.proofs.Writing.{opened, value_after}
use Rattle.gm_json.proofs.why.push_after.Goals as goal

pub returns : goal.returns
returns g c =
    let r = g.G.Game.rules in
    let shown = g.G.Shown.shown in
    let move_shown = g.G.Shown.move_shown in
    let p = c.args.known.now.position in
    let s = c.value.result in
    let old = c.args.out.now.items in
    let o0 = c.push_key.new.out.items in
    let o1 = c.push_bytes.new.out.items in
    let new = c.push_bytes-2.new.out.items in
    let tree = after_tree r shown move_shown p s in
    on_ok_weaker c.push_bytes-2.result
    (λ e. (
      s,
      c.value.ensures.value,
      value_after old o0 new true (codes "after") (compact_text tree) tree c.in_ok-push_key.ensures
          (e ∙ c.in_ok-push_value.ensures no_members
          ∙ opened o0 o1 123 (members_text false (position_members r shown move_shown p s no_members)) c.in_ok-push_bytes.ensures) refl,
    ))
    c.push_bytes-2.ensures
