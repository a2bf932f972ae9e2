use Rattle.gamesman.proofs.Lower.{◌≡◌, take, flat_map}
use Rattle.gamesman.specs.Listing.{entry_data, entry_line}
use Rattle.gamesman.proofs.listing.lines_of.Given as goal

abbrev pub invariant-loop-row : goal.invariant-loop-row
invariant-loop-row l = l.lines.items ≡ flat_map (λ row. entry_line l.json (entry_data row.0.now row.1 row.2.now row.3 row.4 row.5)) (take l.row-index l.rows)
