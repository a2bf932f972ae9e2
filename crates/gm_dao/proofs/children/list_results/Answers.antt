use Rattle.gm_dao.proofs.Lower.{◌≡◌, ◌<◌, dao, legal, least_index_of, legal_in}
use Rattle.gm_dao.specs.DaoRules.{play}
use Rattle.gm_dao.specs.laws.BoardFacts.{IsLegal}
use Rattle.gm_dao.specs.laws.PlayFacts.{play_legal}
use Rattle.gm_pieces.specs.Common.{ℕ, true, List, Cell, length, get_or, sym, ap, subst, ◌∙◌, at, board_of, board_game, listed_move, one_listed}
use Rattle.gm_dao.proofs.children.list_results.Goals as goal

-- the board after a listed move is legal
after : (b d : List Cell) (ms : List ℕ) (i : ℕ) → legal b ≡ true → ms ≡ (board_game dao).moves b → i < length ms → d ≡ play b (get_or ms i 0) → IsLegal d
after b d ms i l e k is = subst IsLegal (sym is) (legal_in _ (play_legal b _ l (listed_move dao b ms i e k)))

pub play-requires : goal.play-requires
play-requires c =
    (listed_move dao (board_of 16 c.args.board.mine c.args.board.theirs) c.as_slice-m-items.result.now c.loop-m.m-index
    (c.as_slice-m-items.ensures.value ∙ c.moves-moves.ensures) c.loop-m-test.true).can

pub least_index-requires-clause-own : goal.least_index-requires-clause-own
least_index-requires-clause-own c =
    (after (board_of 16 c.args.board.mine c.args.board.theirs) _ c.as_slice-m-items.result.now c.loop-m.m-index c.requires
    (c.as_slice-m-items.ensures.value ∙ c.moves-moves.ensures) c.loop-m-test.true c.play.ensures.board).own

pub least_index-requires-clause-other : goal.least_index-requires-clause-other
least_index-requires-clause-other c =
    (after (board_of 16 c.args.board.mine c.args.board.theirs) _ c.as_slice-m-items.result.now c.loop-m.m-index c.requires
    (c.as_slice-m-items.ensures.value ∙ c.moves-moves.ensures) c.loop-m-test.true c.play.ensures.board).other

pub loop-m-preserved : goal.loop-m-preserved
loop-m-preserved c =
    let p = at 0 c.least_index.result in
    let is = ap (at 0) (c.least_index.ensures ∙ ap least_index_of c.play.ensures.board) in
    one_listed dao (board_of 16 c.args.board.mine c.args.board.theirs) c.as_slice-m-items.result.now c.loop-m.m-index p c.loop-m.list.items
    c.push.new.self.items c.loop-m-test.true is c.push.ensures.items c.loop-m.invariant
