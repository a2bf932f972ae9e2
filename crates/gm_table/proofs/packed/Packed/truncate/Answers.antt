use Rattle.gm_table.proofs.Lower.{map, take, ap, sym, ◌∙◌, unpacked}
use Rattle.std.proofs.lemmas.List.{take-map}
use Rattle.gm_table.proofs.packed.Packed.truncate.Goals as goal

pub returns : goal.returns
returns c = ap (map unpacked) c.truncate.ensures ∙ sym (take-map unpacked c.args.count c.self.inside.numbers) ∙ ap (take c.args.count) c.self.view_is
