-- The games by their numbers: what holds of every game, and no number past the last.
use Rattle.gm_engine.proofs.Lower.{◌≤◌, ℕ, Option, Some, length, sym, subst}
use Rattle.std.specs.Prelude.{None, IfSome}
use Rattle.std.specs.List.{slice_get}
use Rattle.std.proofs.lemmas.Option.{slice_get_past}
use Rattle.gm_engine.specs.Games.{PlayedGame, IsFor, games}

of_some : (o : Option PlayedGame) (P : PlayedGame → Type 0) → ((g : PlayedGame) → P g) → IfSome o P
of_some None P every = tt
of_some (Some g) P every = every g

-- what holds of every game holds for the one with a number
pub for_any : (n : ℕ) (P : PlayedGame → Type 0) → ((g : PlayedGame) → P g) → IsFor n P
for_any n P every = of_some (slice_get games n) P every

-- past the last game anything holds for the one with a number, since there is none
pub for_none : (n : ℕ) (P : PlayedGame → Type 0) → length games ≤ n → IsFor n P
for_none n P past = subst (λ (o : Option PlayedGame). IfSome o P) (sym (slice_get_past games n past)) tt
