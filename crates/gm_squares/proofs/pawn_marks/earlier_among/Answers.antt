use Rattle.std.specs.Prelude.{◌+◌, ◌||◌}
use Rattle.gm_pieces.specs.Common.{Bool, refl, ap₂, ◌∙◌, has_or}
use Rattle.gm_squares.specs.inner.Runs.{row}
use Rattle.gm_squares.specs.laws.LineFacts.{each_square}
use Rattle.gm_squares.specs.laws.PawnReach.{pawn_back_among}
use Rattle.gm_squares.specs.laws.PawnTried.{black_piece}
use Rattle.gm_squares.proofs.pawn_marks.earlier_among.Goals as goal

pub returns-then-tier-eq5 : goal.returns-then-tier-eq5
returns-then-tier-eq5 c =
    let d = c.args.board in
    pawn_back_among c.args.tier d (row (4096 + d.men.piece) 64) _ refl c.if-tier-eq5.true (black_piece d c.requires.legal c.requires.turn)
    (λ k l. has_or _ _ k ∙ ap₂ (λ (x y : Bool). x || y) (c.square_below.ensures k l) (c.square_below-then-tier-eq5.ensures k l))

pub returns-else-tier-eq5 : goal.returns-else-tier-eq5
returns-else-tier-eq5 c k l e = each_square k l
