-- The text of a square is plain, and determines the square.
use Rattle.std.proofs.Common.{◌≡◌, ℕ, ◌+◌, ◌-◌, ◌*◌, ◌/◌, ◌%◌, ◌<◌, Bool, true, ◌&&◌, arith}
use Rattle.std.proofs.lemmas.Bool.{and_from}
use Rattle.gm_game.specs.Shown.{is_plain}
use Rattle.gm_game.proofs.PlainTexts.{plain_in}

-- the text of a square before other plain bytes
pub square_plain : (s : ℕ) {x : Bool} → s < 64 → x ≡ true → (is_plain (97 + s % 8) && (is_plain (49 + s / 8) && x)) ≡ true
square_plain s l h = and_from _ _ (plain_in (97 + s % 8) (omega arith) (omega arith)) (and_from _ _ (plain_in (49 + s / 8) (omega arith) (omega arith)) h)

pub square_told : (s : ℕ) → 8 * (49 + s / 8 - 49) + (97 + s % 8 - 97) ≡ s
square_told s = omega arith
