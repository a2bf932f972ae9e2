use Rattle.gm_counters.specs.State.{pairs_in}
use Rattle.gm_locks.specs.Spots.{spot_of}
use Rattle.tests_build.proofs.solver.piece_boards.on_brands.Given as goal

abbrev pub ghosts-named-A-Ledger : goal.ghosts-named-A-Ledger
ghosts-named-A-Ledger g a = record { name = a.blanks.a.name; parts = a.blanks.a.parts }

abbrev pub ghosts-named-A-ShardLedger : goal.ghosts-named-A-ShardLedger
ghosts-named-A-ShardLedger g a = record { spot = spot_of a.shards.a }

abbrev pub ghosts-named-A-LevelLedger : goal.ghosts-named-A-LevelLedger
ghosts-named-A-LevelLedger g a = record { base = pairs_in a.shards.a; notes = a.level.now.notes }

abbrev pub ghosts-named-A-PieceLedger : goal.ghosts-named-A-PieceLedger
ghosts-named-A-PieceLedger g a = record { size = 1 }

abbrev pub ghosts-named-B-Ledger : goal.ghosts-named-B-Ledger
ghosts-named-B-Ledger g a = record { name = a.blanks.b.name; parts = a.blanks.b.parts }

abbrev pub ghosts-named-B-ShardLedger : goal.ghosts-named-B-ShardLedger
ghosts-named-B-ShardLedger g a = record { spot = spot_of a.shards.b }

abbrev pub ghosts-named-B-LevelLedger : goal.ghosts-named-B-LevelLedger
ghosts-named-B-LevelLedger g a = record { base = pairs_in a.shards.b; notes = a.level.now.notes }

abbrev pub ghosts-named-B-PieceLedger : goal.ghosts-named-B-PieceLedger
ghosts-named-B-PieceLedger g a = record { size = 1 }

abbrev pub ghosts-named-C-Ledger : goal.ghosts-named-C-Ledger
ghosts-named-C-Ledger g a = record { name = a.blanks.c.name; parts = a.blanks.c.parts }

abbrev pub ghosts-named-C-ShardLedger : goal.ghosts-named-C-ShardLedger
ghosts-named-C-ShardLedger g a = record { spot = spot_of a.shards.c }

abbrev pub ghosts-named-C-LevelLedger : goal.ghosts-named-C-LevelLedger
ghosts-named-C-LevelLedger g a = record { base = pairs_in a.shards.c; notes = a.level.now.notes }

abbrev pub ghosts-named-C-PieceLedger : goal.ghosts-named-C-PieceLedger
ghosts-named-C-PieceLedger g a = record { size = 1 }

abbrev pub ghosts-named-D-Ledger : goal.ghosts-named-D-Ledger
ghosts-named-D-Ledger g a = record { name = a.blanks.d.name; parts = a.blanks.d.parts }

abbrev pub ghosts-named-D-ShardLedger : goal.ghosts-named-D-ShardLedger
ghosts-named-D-ShardLedger g a = record { spot = spot_of a.shards.d }

abbrev pub ghosts-named-D-LevelLedger : goal.ghosts-named-D-LevelLedger
ghosts-named-D-LevelLedger g a = record { base = pairs_in a.shards.d; notes = a.level.now.notes }

abbrev pub ghosts-named-D-PieceLedger : goal.ghosts-named-D-PieceLedger
ghosts-named-D-PieceLedger g a = record { size = 1 }
