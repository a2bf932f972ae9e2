-- When a question about a position is refused.
use Rattle.std.specs.Prelude.{◌≡◌, ℕ, true, List}
use Rattle.gm_game.specs.declared.position.Position.{Position}
use Rattle.gm_game.specs.Rules.{Rules}
use Rattle.gm_table.specs.Tables.{TableData, IsHeld, AreHeld}
use Rattle.gm_play.specs.declared.answers.AnswerError.{AnswerError}
use Rattle.gm_play.specs.declared.answers.AnswerError.TheVariants.{Illegal, NotHeld}

-- the position is legal, and its tier has no table
abbrev pub IsNotHeld : Rules → List TableData → Position → Type 0
IsNotHeld r entries p = (r.is_legal p ≡ true) × (IsHeld entries p.tier → ⊥)

-- the position is legal, and its tier or one of its child tiers has no table
abbrev pub AreNotHeld : Rules → List TableData → Position → Type 0
AreNotHeld r entries p = (r.is_legal p ≡ true) × (IsHeld entries p.tier → AreHeld r entries p.tier → ⊥)

-- the numbers of the errors
abbrev pub answer_error_number : AnswerError → ℕ
answer_error_number Illegal = 1
answer_error_number NotHeld = 2
