use Rattle.gm_analyse.proofs.NoFloat.{row_no_float}
use Rattle.gm_analyse.proofs.json_rows.json_rows.Goals as goal

pub push_line-requires : goal.push_line-requires
push_line-requires c = row_no_float _ _ _ c.in_ok-tree.ensures
