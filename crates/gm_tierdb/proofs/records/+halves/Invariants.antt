use Rattle.gm_tierdb.proofs.Lower.{◌+◌}
use Rattle.std.proofs.Common.{◌*◌}
use Rattle.gm_tierdb.proofs.records.+halves.Given as goal

abbrev pub decreases-join+arg2 : goal.decreases-join+arg2
decreases-join+arg2 g l = 2 * l.halvings

abbrev pub decreases-join+arg3 : goal.decreases-join+arg3
decreases-join+arg3 g l = 2 * l.halvings

abbrev pub decreases-read_records_by : goal.decreases-read_records_by
decreases-read_records_by g l = 2 * l.halvings + 1
