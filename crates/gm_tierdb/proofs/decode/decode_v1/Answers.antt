use Rattle.gm_tierdb.proofs.Lower.{One}
use Rattle.gm_tierdb.proofs.RefusalLemmas.{exact_answer}
use Rattle.gm_tierdb.proofs.decode.decode_v1.Goals as goal

pub returns-clause-exact : goal.returns-clause-exact
returns-clause-exact g c =
    exact_answer (λ v. v.items) One g.G.Game.rules g.met.G.Game.lawful.name_length c.args.tier c.args.bytes.now c.read_list.result c.read_list.ensures.found
    c.read_list.ensures.refused
