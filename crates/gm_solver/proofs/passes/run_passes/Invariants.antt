use Rattle.gm_solver.proofs.Lower.{pairs_in, spot_of}
use Rattle.gm_solver.proofs.passes.run_passes.Given as goal

abbrev pub ghosts-run_at_desks-A-Ledger : goal.ghosts-run_at_desks-A-Ledger
ghosts-run_at_desks-A-Ledger g a = record { name = a.blanks.a.name; parts = a.blanks.a.parts }

abbrev pub ghosts-run_at_desks-A-ShardLedger : goal.ghosts-run_at_desks-A-ShardLedger
ghosts-run_at_desks-A-ShardLedger g a = record { spot = spot_of a.shards.a }

abbrev pub ghosts-run_at_desks-A-LevelLedger : goal.ghosts-run_at_desks-A-LevelLedger
ghosts-run_at_desks-A-LevelLedger g a = record { base = pairs_in a.shards.a; notes = a.job.now.level.now.notes }

abbrev pub ghosts-run_at_desks-B-Ledger : goal.ghosts-run_at_desks-B-Ledger
ghosts-run_at_desks-B-Ledger g a = record { name = a.blanks.b.name; parts = a.blanks.b.parts }

abbrev pub ghosts-run_at_desks-B-ShardLedger : goal.ghosts-run_at_desks-B-ShardLedger
ghosts-run_at_desks-B-ShardLedger g a = record { spot = spot_of a.shards.b }

abbrev pub ghosts-run_at_desks-B-LevelLedger : goal.ghosts-run_at_desks-B-LevelLedger
ghosts-run_at_desks-B-LevelLedger g a = record { base = pairs_in a.shards.b; notes = a.job.now.level.now.notes }

abbrev pub ghosts-run_at_desks-C-Ledger : goal.ghosts-run_at_desks-C-Ledger
ghosts-run_at_desks-C-Ledger g a = record { name = a.blanks.c.name; parts = a.blanks.c.parts }

abbrev pub ghosts-run_at_desks-C-ShardLedger : goal.ghosts-run_at_desks-C-ShardLedger
ghosts-run_at_desks-C-ShardLedger g a = record { spot = spot_of a.shards.c }

abbrev pub ghosts-run_at_desks-C-LevelLedger : goal.ghosts-run_at_desks-C-LevelLedger
ghosts-run_at_desks-C-LevelLedger g a = record { base = pairs_in a.shards.c; notes = a.job.now.level.now.notes }

abbrev pub ghosts-run_at_desks-D-Ledger : goal.ghosts-run_at_desks-D-Ledger
ghosts-run_at_desks-D-Ledger g a = record { name = a.blanks.d.name; parts = a.blanks.d.parts }

abbrev pub ghosts-run_at_desks-D-ShardLedger : goal.ghosts-run_at_desks-D-ShardLedger
ghosts-run_at_desks-D-ShardLedger g a = record { spot = spot_of a.shards.d }

abbrev pub ghosts-run_at_desks-D-LevelLedger : goal.ghosts-run_at_desks-D-LevelLedger
ghosts-run_at_desks-D-LevelLedger g a = record { base = pairs_in a.shards.d; notes = a.job.now.level.now.notes }
