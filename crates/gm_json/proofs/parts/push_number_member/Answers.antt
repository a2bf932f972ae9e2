use Rattle.gm_json.proofs.Lower.{refl, on_ok_weaker, whole}
use Rattle.std.specs.Fmt.{decimal}
use Rattle.gm_json.proofs.Writing.{value_after}
use Rattle.gm_json.proofs.parts.push_number_member.Goals as goal

pub returns : goal.returns
returns c =
    on_ok_weaker c.push_number.result
    (λ e. value_after c.args.out.now.items c.push_key.new.out.items c.push_number.new.out.items c.args.later c.args.key.now (decimal c.args.number)
    (whole c.args.number) c.in_ok-push_key.ensures e refl)
    c.push_number.ensures
