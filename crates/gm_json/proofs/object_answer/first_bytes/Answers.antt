use Rattle.gm_json.proofs.Lower.{◌<◌, length, sym, arith, length-take}
use Rattle.std.proofs.lemmas.List.{take_all}
use Rattle.gm_json.proofs.object_answer.first_bytes.Goals as goal

pub slice_bounds-result-end : goal.slice_bounds-result-end
slice_bounds-result-end c = let long : 64 < length c.args.line.now = c.if-line-le-READ.false in omega (arith, length-take 64 c.args.line.now)

pub returns-then-line-le-READ : goal.returns-then-line-le-READ
returns-then-line-le-READ c = sym (take_all 64 c.args.line.now c.if-line-le-READ.true)
