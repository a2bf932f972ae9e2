use Rattle.gm_pieces.specs.Common.{sym, ap, ◌∙◌, arith, has_cell}
use Rattle.std.specs.Prelude.{ℕ}
use Rattle.gm_squares.specs.laws.ReachFacts.{queen_line}
use Rattle.gm_squares.proofs.attacks.line_through.Goals as goal

pub returns-then-has_square-3 : goal.returns-then-has_square-3
returns-then-has_square-3 c =
    queen_line c.args.queen c.args.from c.args.to 2 _ c.if-queen.true (omega arith) c.rising-then-has_square-3.ensures
    (ap (λ (m : ℕ). has_cell m c.args.to) (sym c.rising.ensures) ∙ sym c.has_square-then-queen.ensures ∙ c.if-has_square-3.true)

pub returns-then-has_square-4 : goal.returns-then-has_square-4
returns-then-has_square-4 c =
    queen_line c.args.queen c.args.from c.args.to 3 _ c.if-queen-2.true (omega arith) c.falling-then-has_square-4.ensures
    (ap (λ (m : ℕ). has_cell m c.args.to) (sym c.falling.ensures) ∙ sym c.has_square-then-queen-2.ensures ∙ c.if-has_square-4.true)
