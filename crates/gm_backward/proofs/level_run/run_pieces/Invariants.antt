use Rattle.gm_counters.specs.State.{pairs_in}
use Rattle.gm_backward.proofs.Lower.{spot_of}
use Rattle.gm_backward.proofs.level_run.run_pieces.Given as goal

abbrev pub ghosts-run_under_locks-A-Ledger : goal.ghosts-run_under_locks-A-Ledger
ghosts-run_under_locks-A-Ledger g a = record { name = a.blanks.a.name; parts = a.blanks.a.parts }

abbrev pub ghosts-run_under_locks-A-ShardLedger : goal.ghosts-run_under_locks-A-ShardLedger
ghosts-run_under_locks-A-ShardLedger g a = record { spot = spot_of a.shards.a }

abbrev pub ghosts-run_under_locks-A-LevelLedger : goal.ghosts-run_under_locks-A-LevelLedger
ghosts-run_under_locks-A-LevelLedger g a = record { base = pairs_in a.shards.a; notes = a.job.now.level.now.notes }

abbrev pub ghosts-run_under_locks-A-PieceLedger : goal.ghosts-run_under_locks-A-PieceLedger
ghosts-run_under_locks-A-PieceLedger g a = record { size = a.job.now.notes }

abbrev pub ghosts-run_under_locks-B-Ledger : goal.ghosts-run_under_locks-B-Ledger
ghosts-run_under_locks-B-Ledger g a = record { name = a.blanks.b.name; parts = a.blanks.b.parts }

abbrev pub ghosts-run_under_locks-B-ShardLedger : goal.ghosts-run_under_locks-B-ShardLedger
ghosts-run_under_locks-B-ShardLedger g a = record { spot = spot_of a.shards.b }

abbrev pub ghosts-run_under_locks-B-LevelLedger : goal.ghosts-run_under_locks-B-LevelLedger
ghosts-run_under_locks-B-LevelLedger g a = record { base = pairs_in a.shards.b; notes = a.job.now.level.now.notes }

abbrev pub ghosts-run_under_locks-B-PieceLedger : goal.ghosts-run_under_locks-B-PieceLedger
ghosts-run_under_locks-B-PieceLedger g a = record { size = a.job.now.notes }

abbrev pub ghosts-run_under_locks-C-Ledger : goal.ghosts-run_under_locks-C-Ledger
ghosts-run_under_locks-C-Ledger g a = record { name = a.blanks.c.name; parts = a.blanks.c.parts }

abbrev pub ghosts-run_under_locks-C-ShardLedger : goal.ghosts-run_under_locks-C-ShardLedger
ghosts-run_under_locks-C-ShardLedger g a = record { spot = spot_of a.shards.c }

abbrev pub ghosts-run_under_locks-C-LevelLedger : goal.ghosts-run_under_locks-C-LevelLedger
ghosts-run_under_locks-C-LevelLedger g a = record { base = pairs_in a.shards.c; notes = a.job.now.level.now.notes }

abbrev pub ghosts-run_under_locks-C-PieceLedger : goal.ghosts-run_under_locks-C-PieceLedger
ghosts-run_under_locks-C-PieceLedger g a = record { size = a.job.now.notes }

abbrev pub ghosts-run_under_locks-D-Ledger : goal.ghosts-run_under_locks-D-Ledger
ghosts-run_under_locks-D-Ledger g a = record { name = a.blanks.d.name; parts = a.blanks.d.parts }

abbrev pub ghosts-run_under_locks-D-ShardLedger : goal.ghosts-run_under_locks-D-ShardLedger
ghosts-run_under_locks-D-ShardLedger g a = record { spot = spot_of a.shards.d }

abbrev pub ghosts-run_under_locks-D-LevelLedger : goal.ghosts-run_under_locks-D-LevelLedger
ghosts-run_under_locks-D-LevelLedger g a = record { base = pairs_in a.shards.d; notes = a.job.now.level.now.notes }

abbrev pub ghosts-run_under_locks-D-PieceLedger : goal.ghosts-run_under_locks-D-PieceLedger
ghosts-run_under_locks-D-PieceLedger g a = record { size = a.job.now.notes }
