use Rattle.gm_table.proofs.Lower.{◌≡◌, List, Option, None, subst, Solved, record_at}
use Rattle.gm_table.proofs.HoleLemmas.{unpacked_holes}
use Rattle.gm_table.proofs.packed.Packed.skip_holes.Goals as goal

pub returns-clause-holes : goal.returns-clause-holes
returns-clause-holes c k low high =
    subst (λ (records : List (Option Solved)). record_at records k ≡ None) c.self.view_is (unpacked_holes c.self.inside.numbers k (c.skip_holes.ensures.holes k low high))
