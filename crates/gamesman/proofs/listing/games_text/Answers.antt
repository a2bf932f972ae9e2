use Rattle.gamesman.proofs.Lower.{◌++◌, List, ℕ, ap, sym, ◌∙◌}
use Rattle.std.proofs.Common.{ap₂}
use Rattle.gamesman.specs.Listing.{listed_lines}
use Rattle.gamesman.proofs.listing.games_text.Goals as goal

pub returns-then-not-all-clause-lines : goal.returns-then-not-all-clause-lines
returns-then-not-all-clause-lines c = c.in_ok-lines.ensures ∙ ap (listed_lines c.args.json) (sym c.if-not-all.true)

pub returns-clause-lines : goal.returns-clause-lines
returns-clause-lines c =
    c.in_ok-extend_from_slice.ensures.items ∙ ap₂ (λ (a b : List ℕ). a ++ b) c.in_ok-lines.ensures (c.as_slice.ensures.value ∙ c.in_ok-later.ensures)
    ∙ ap (listed_lines c.args.json) (sym c.if-not-all.false)
