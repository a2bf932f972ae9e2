use Rattle.gm_json.proofs.Lower.{on_ok_weaker}
use Rattle.gm_json.proofs.Writing.{clear_quoted}
use Rattle.gm_json.proofs.parts.push_clear.Goals as goal

pub returns : goal.returns
returns c =
    on_ok_weaker c.push_bytes-3.result
    (clear_quoted c.args.out.now.items c.push_bytes.new.out.items c.push_bytes-2.new.out.items c.push_bytes-3.new.out.items c.args.text.now c.requires
    c.in_ok-push_bytes.ensures c.in_ok-push_bytes-2.ensures)
    c.push_bytes-3.ensures
