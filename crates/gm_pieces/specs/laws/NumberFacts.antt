-- The numbering of the boards with these numbers of pieces of each side is one to one.
use Rattle.std.specs.Prelude.{◌≡◌, ◌<◌}
use Rattle.std.proofs.Common.{ℕ, List, reverse, length, sym, ap, ◌∙◌}
use Rattle.std.proofs.lemmas.List.{length-reverse, reverse-reverse}
use Rattle.gm_board.specs.declared.cell.Cell.{Cell}
use Rattle.gm_board.specs.Ranks.{members}
use Rattle.gm_board.specs.Arrangements.{mine_bits, their_bits, arrangement, arrangements, arrangement_index}
use Rattle.gm_board.specs.laws.Arrangements.{arrangement_is, index_below_at, back_at}
use Rattle.gm_board.specs.Cells.{is_mine, is_theirs, number_of}
use Rattle.gm_board.specs.laws.CellCounts.{number_reverse, mine_members, their_members}
use Rattle.gm_pieces.specs.Sides.{board_index, board_numbered}

-- the board has n cells, m pieces of the mover's and t of the opponent's
pub record HasNumbers (n m t : ℕ) (b : List Cell) : Type 0 where
  pub cells : length b ≡ n
  pub own : number_of is_mine b ≡ m
  pub other : number_of is_theirs b ≡ t

-- each board of an index below the number of arrangements has these numbers
pub board_numbers : (n m t i : ℕ) → i < arrangements n m t → HasNumbers n m t (board_numbered n m t i)
unfolding board_numbered
board_numbers n m t i l =
    let cs = arrangement n m t i in
    let h = arrangement_is n m t i l in
    record {
      cells = length-reverse cs ∙ h.cells;
      own = number_reverse is_mine cs ∙ sym (mine_members cs) ∙ h.mine;
      other = number_reverse is_theirs cs ∙ sym (their_members cs) ∙ h.theirs;
    }

module _ (n m t : ℕ) where
  module _ (b : List Cell) (h : HasNumbers n m t b) where
    reverse_mine : members (mine_bits (reverse b)) ≡ m
    reverse_mine = mine_members (reverse b) ∙ number_reverse is_mine b ∙ h.own

    reverse_theirs : members (their_bits (reverse b)) ≡ t
    reverse_theirs = their_members (reverse b) ∙ number_reverse is_theirs b ∙ h.other

    -- the index of a board is below the number of arrangements
    pub index_below : board_index b < arrangements n m t
    unfolding board_index
    index_below = index_below_at n m t (reverse b) (length-reverse b ∙ h.cells) reverse_mine reverse_theirs

    -- the index of a board gives the board back
    pub board_back : board_numbered n m t (board_index b) ≡ b
    unfolding board_index board_numbered
    board_back = ap reverse (back_at n m t (reverse b) (length-reverse b ∙ h.cells) reverse_mine reverse_theirs) ∙ reverse-reverse b

  -- the board of an index gives the index back
  pub index_back : (i : ℕ) → i < arrangements n m t → board_index (board_numbered n m t i) ≡ i
  unfolding board_index board_numbered
  index_back i l = ap arrangement_index (reverse-reverse (arrangement n m t i)) ∙ (arrangement_is n m t i l).back
