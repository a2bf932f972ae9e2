use Rattle.gm_pieces.specs.Common.{sym, ◌∙◌, arith}
use Rattle.gm_squares.specs.laws.LineFacts.{each_square}
use Rattle.gm_squares.specs.laws.PawnFacts.{pawn_below}
use Rattle.gm_squares.specs.laws.PawnReach.{pawn_among}
use Rattle.gm_squares.specs.laws.PawnTried.{pawn_kind}
use Rattle.gm_squares.proofs.pawn_marks.second_among.Goals as goal

pub squares_above-requires : goal.squares_above-requires
squares_above-requires c = pawn_below c.args.board c.requires.legal (pawn_kind c.args.board.kind (sym c.tier_of.ensures ∙ c.if-tier_of-eq5.true))

pub returns-then-tier_of-eq5 : goal.returns-then-tier_of-eq5
returns-then-tier_of-eq5 c =
    let pawn = pawn_kind c.args.board.kind (sym c.tier_of.ensures ∙ c.if-tier_of-eq5.true) in
    pawn_among c.args.board c.args.run c.squares_above.result (c.requires.row c.if-run-eq64.true) pawn (pawn_below c.args.board c.requires.legal pawn) c.squares_above.ensures

pub returns-else-run-eq64 : goal.returns-else-run-eq64
returns-else-run-eq64 c k l e = each_square k (let few = c.requires.few in omega (arith, l, few))
