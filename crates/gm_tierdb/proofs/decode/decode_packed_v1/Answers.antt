use Rattle.gm_tierdb.proofs.Lower.{One}
use Rattle.gm_tierdb.proofs.RefusalLemmas.{exact_answer}
use Rattle.gm_tierdb.proofs.decode.decode_packed_v1.Goals as goal

pub returns-clause-exact : goal.returns-clause-exact
returns-clause-exact g c =
    exact_answer (λ v. v) One g.G.Game.rules g.met.G.Game.lawful.name_length c.args.tier c.args.bytes.now c.read_file.result c.read_file.ensures.found
    c.read_file.ensures.refused
