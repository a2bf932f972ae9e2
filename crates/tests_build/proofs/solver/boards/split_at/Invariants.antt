use Rattle.gm_locks.specs.Spots.{spot_of}
use Rattle.tests_build.proofs.solver.boards.split_at.Given as goal

abbrev pub ghosts-named-A-Ledger : goal.ghosts-named-A-Ledger
ghosts-named-A-Ledger g a = record { name = a.blanks.a.name; parts = a.blanks.a.parts }

abbrev pub ghosts-named-A-ShardLedger : goal.ghosts-named-A-ShardLedger
ghosts-named-A-ShardLedger g a = record { spot = spot_of a.shards.a }

abbrev pub ghosts-named-B-Ledger : goal.ghosts-named-B-Ledger
ghosts-named-B-Ledger g a = record { name = a.blanks.b.name; parts = a.blanks.b.parts }

abbrev pub ghosts-named-B-ShardLedger : goal.ghosts-named-B-ShardLedger
ghosts-named-B-ShardLedger g a = record { spot = spot_of a.shards.b }

abbrev pub ghosts-named-C-Ledger : goal.ghosts-named-C-Ledger
ghosts-named-C-Ledger g a = record { name = a.blanks.c.name; parts = a.blanks.c.parts }

abbrev pub ghosts-named-C-ShardLedger : goal.ghosts-named-C-ShardLedger
ghosts-named-C-ShardLedger g a = record { spot = spot_of a.shards.c }

abbrev pub ghosts-named-D-Ledger : goal.ghosts-named-D-Ledger
ghosts-named-D-Ledger g a = record { name = a.blanks.d.name; parts = a.blanks.d.parts }

abbrev pub ghosts-named-D-ShardLedger : goal.ghosts-named-D-ShardLedger
ghosts-named-D-ShardLedger g a = record { spot = spot_of a.shards.d }
