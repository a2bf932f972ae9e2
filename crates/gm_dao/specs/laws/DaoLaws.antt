-- Dao has the laws of a game.
use Rattle.std.specs.Prelude.{◌≡◌, ◌<◌, if◌then◌else◌}
use Rattle.gm_pieces.specs.Common.{ℕ, Bool, true, not, eqb, refl, sym, ap, subst, arith, inl, eq-eqb, at, position_of, IsNumbered, Empty, binomial, arrangements, arrangement_index, square_symmetries, board_game, IsMoveGame, IsMoveSymmetric, permuted_group, is_mine, number_of, board_index, board_numbers, index_below, board_back, index_back}
use Rattle.gm_dao.specs.DaoRules.{formations, has_formation, legal, board_at, start_board, play, dao}
use Rattle.gm_dao.specs.laws.SlideFacts.{group}
use Rattle.gm_dao.specs.laws.BoardFacts.{legal_in, legal_numbers, image_legal}
use Rattle.gm_dao.specs.laws.MoveFacts.{move_slide, steps_few}
use Rattle.gm_dao.specs.laws.PlayFacts.{play_legal, image_over, image_move}
use Rattle.gm_dao.specs.laws.BeforeFacts.{was_in, was_from, played_back, taken_played, befores_few}

-- ---- the numbering
-- there are 900,900 arrangements
pub size_is : arrangements 16 4 4 ≡ 900900
unfolding arrangements binomial
size_is = refl

-- the numbering is one to one
pub numbered : IsNumbered (board_game dao)
numbered = record {
  tier_fits = λ b l. omega arith;
  size_fits = λ b l. omega (arith, size_is);
  index_below = λ b l. index_below 16 4 4 b (legal_numbers b (legal_in b l));
  board_back = λ b l. board_back 16 4 4 b (legal_numbers b (legal_in b l));
  index_back = λ t i l k e. index_back 16 4 4 i (subst (λ (u : ℕ). i < (if eqb u 0 then arrangements 16 4 4 else 0)) (sym e) l);
}

-- ---- the start
start_legal : legal start_board ≡ true
unfolding legal has_formation formations number_of
start_legal = refl

-- ---- the game's own laws
pub lawful : IsMoveGame dao
lawful = record {
  name_length = refl;
  name_text = refl;
  start_legal = start_legal;
  numbers_fit = λ t. omega arith;
  moved_legal = λ b m l h. play_legal b m l h;
  moved_tier = λ b m l h. inl refl;
  child_rank = λ t u c. absurd (omega (arith, c.1));
  child_tiers_ascending = λ t. tt;
  undone = λ b m l h. let x = taken_played b m (legal_in b l).cells (move_slide b m h.can) in (was_from (play b m) m x.0, x.1);
  redone = λ t d m l w k e h. played_back d m (was_in d m w);
  moves_few = λ b l. let h = legal_in b l in steps_few b h.cells h.own;
  befores_few = λ t d l. befores_few d l;
  child_tiers_few = λ t. omega arith;
}

-- ---- symmetries
pub symmetric : IsMoveSymmetric dao
symmetric = record {
  group = permuted_group Empty 16 (square_symmetries 4) legal group (λ b l. (legal_in b l).cells);
  keeps_legal = λ g b c l. image_legal g b c l;
  keeps_over = λ g b c l. image_over g b c (legal_in b l).cells;
  keeps_stuck = λ g b c l. refl;
  keeps_tier = λ g b c l. refl;
  keeps_move = λ g b m c l h. image_move g b m c (legal_in b l).cells h;
}

-- ---- positions
-- the start has the index 740,194
pub start_position : position_of (board_game dao) dao.start ≡ at 0 740194
unfolding board_index arrangement_index binomial
start_position = refl

-- a position is legal where its tier is 0, its index is below 900,900 and the mover has no formation
pub legal_at : (i : ℕ) (x : Bool) → i < arrangements 16 4 4 → x ≡ has_formation is_mine (board_at i) → not x ≡ legal (board_at i)
unfolding legal
legal_at i x l e =
    let h = board_numbers 16 4 4 i l in
    rw (eq-eqb _ _ h.cells, eq-eqb _ _ h.own, eq-eqb _ _ h.other) (ap not e)
