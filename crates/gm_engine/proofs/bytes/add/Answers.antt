use Rattle.gm_engine.proofs.Lower.{length, sym, ap, ◌∙◌, record_with}
use Rattle.std.proofs.lemmas.List.{length-map}
use Rattle.std.proofs.lemmas.Result.{on_ok_weaker}
use Rattle.gm_engine.proofs.bytes.add.Goals as goal

pub returns-in-Byte-clause-added : goal.returns-in-Byte-clause-added
returns-in-Byte-clause-added g c =
    rw c.in-Byte.is (
    on_ok_weaker c.add_bytes.result (λ (more, is, same). (more, is, (sym (length-map more record_with) ∙ ap length same, same))) c.add_bytes.ensures.added
    )
