-- The texts of Dao are plain, fit a line, and tell positions and moves apart.
use Rattle.std.specs.Prelude.{◌≡◌, ◌<◌, ◌∷◌}
use Rattle.gm_pieces.specs.Common.{ℕ, length, refl, arith, IsPlain, IsShown, plain_append, from_point, to_point, same_step, cell_text, cells_text, text_length, text_once, text_plain, cell_plain, AreTexts, texts_are_shown}
use Rattle.gm_board.specs.laws.CellTexts.{step_text_once}
use Rattle.gm_dao.specs.DaoRules.{dao, dao_rules}
use Rattle.gm_dao.specs.laws.BoardFacts.{legal_in}
use Rattle.gm_dao.specs.laws.DaoLaws.{numbered}
use Rattle.gm_dao.specs.laws.MoveFacts.{move_slide}
use Rattle.gm_dao.specs.laws.SlideFacts.{line_within}
use Rattle.gm_dao.specs.Texts.{step_text, position_text, move_text}

-- ---- moves
-- moves with the same text are the same
pub step_once : (m k : ℕ) → step_text m ≡ step_text k → m ≡ k
unfolding step_text
step_once m k e = let h = step_text_once 4 (from_point m) (to_point m) (from_point k) (to_point k) e in same_step m k h.0 h.1

-- the text of a move has five bytes
pub step_length : (m : ℕ) → length (step_text m) ≡ 5
unfolding step_text
step_length m = refl

-- the text of a move is plain
pub step_plain : (m : ℕ) → from_point m < 16 → to_point m < 16 → IsPlain (step_text m)
unfolding step_text
step_plain m l h = plain_append (cell_text 4 (from_point m)) (45 ∷ cell_text 4 (to_point m)) (cell_plain 4 (from_point m) (omega arith) (omega arith))
    (cell_plain 4 (to_point m) (omega arith) (omega arith))

-- ---- the laws of texts
pub readable : AreTexts dao cells_text (λ t m. step_text m)
readable = record {
  text_plain = λ b l. text_plain b;
  text_fits = λ b l. let a = text_length b in let e = (legal_in b l).cells in omega (arith, a, e);
  text_once = λ a b l k e. text_once a b e;
  step_plain = λ b m l h. let w = line_within (from_point m) (to_point m) (move_slide b m h.can).line in step_plain m w.0 w.1;
  step_fits = λ b m l h. let a = step_length m in omega (arith, a);
  step_once = λ b m n l h k e. step_once m n e;
}

-- the laws of texts, for positions and their moves
pub texts_readable : IsShown dao_rules position_text move_text
texts_readable = texts_are_shown dao cells_text (λ t m. step_text m) numbered readable
