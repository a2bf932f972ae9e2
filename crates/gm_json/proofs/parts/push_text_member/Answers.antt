use Rattle.gm_json.proofs.Lower.{refl, utf8_lossy, on_ok_weaker, quoted, text}
use Rattle.gm_json.proofs.Writing.{value_after}
use Rattle.gm_json.proofs.parts.push_text_member.Goals as goal

pub returns : goal.returns
returns c =
    on_ok_weaker c.push_text.result
    (λ e. value_after c.args.out.now.items c.push_key.new.out.items c.push_text.new.out.items c.args.later c.args.key.now
    (quoted (utf8_lossy c.args.text.now)) (text c.args.text.now) c.in_ok-push_key.ensures e refl)
    c.push_text.ensures
