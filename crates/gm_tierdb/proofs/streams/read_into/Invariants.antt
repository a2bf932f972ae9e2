use Rattle.gm_tierdb.proofs.Lower.{length, ◌-◌, ◌≤◌}
use Rattle.gm_tierdb.specs.declared.streams.TheConstants.{READ_LEN}
use Rattle.std.specs.Io.KnownBytes.{Consumes}
use Rattle.gm_tierdb.proofs.streams.read_into.Given as goal

abbrev pub invariant-loop-chunk : goal.invariant-loop-chunk
invariant-loop-chunk g l =
    (length l.text.items ≤ READ_LEN) × Consumes (g.R.Read.remaining l.initial.reader) (g.R.Read.remaining l.reader) l.text.items

abbrev pub decreases-loop-chunk : goal.decreases-loop-chunk
decreases-loop-chunk g l = READ_LEN - length l.text.items
