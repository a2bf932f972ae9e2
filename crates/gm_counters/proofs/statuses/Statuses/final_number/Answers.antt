use Rattle.gm_counters.proofs.Lower.{status_numbered}
use Rattle.gm_counters.proofs.FinishLemmas.{final_record}
use Rattle.gm_counters.proofs.statuses.Statuses.final_number.Goals as goal

pub returns : goal.returns
returns c =
    let n = c.number-number.result in
    (status_numbered n, c.number-number.ensures, final_record n c.if-number-eq-UNDECIDED.false)
