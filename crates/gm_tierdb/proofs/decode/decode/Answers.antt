use Rattle.gm_tierdb.proofs.Lower.{Two}
use Rattle.gm_tierdb.proofs.RefusalLemmas.{exact_answer, old_answer}
use Rattle.gm_tierdb.proofs.decode.decode.Goals as goal

pub returns-clause-exact : goal.returns-clause-exact
returns-clause-exact g c =
    exact_answer (λ v. v.items) Two g.G.Game.rules g.met.G.Game.lawful.name_length c.args.tier c.args.bytes.now c.read_list.result c.read_list.ensures.found
    c.read_list.ensures.refused

pub returns-clause-old : goal.returns-clause-old
returns-clause-old g c =
    old_answer (λ v. v.items) g.G.Game.rules g.met.G.Game.lawful.name_length c.args.tier c.args.bytes.now c.read_list.result c.read_list.ensures.found
    c.read_list.ensures.refused
