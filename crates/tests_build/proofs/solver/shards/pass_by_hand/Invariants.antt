use Rattle.gm_counters.specs.State.{pairs_in}
use Rattle.gm_locks.specs.Spots.{spot_of}
use Rattle.tests_build.proofs.solver.shards.pass_by_hand.Given as goal

abbrev pub ghosts-pass_named-L-Ledger : goal.ghosts-pass_named-L-Ledger
ghosts-pass_named-L-Ledger g a = record { name = a.blank.name; parts = a.blank.parts }

abbrev pub ghosts-pass_named-L-ShardLedger : goal.ghosts-pass_named-L-ShardLedger
ghosts-pass_named-L-ShardLedger g a = record { spot = spot_of a.shard }

abbrev pub ghosts-pass_named-L-LevelLedger : goal.ghosts-pass_named-L-LevelLedger
ghosts-pass_named-L-LevelLedger g a = record { base = pairs_in a.shard; notes = a.level.now.notes }
