-- Why there is no page with an engine.
use Rattle.gamesman.proofs.Lower.{ℕ, List, Option, Err, inr, Fault, IsCutOff}
use Rattle.gamesman.specs.Engines.{IsEngineFault, IsGamesPage, IsEveryGame}
use Rattle.gamesman.proofs.Cut.{kept_cut}

-- no engine is there, so nothing is written
pub engine_cut : (IsText : List ℕ → Type 0) (o : Option (List ℕ)) (fault : Fault) → IsEngineFault fault → IsCutOff IsText o o fault
engine_cut IsText o fault is = kept_cut IsText o IsEngineFault (λ n. n) (λ n. n) fault is

-- no engine is there for the page of all games
pub games_without : (o : Option (List ℕ)) (fault : Fault) → IsEngineFault fault → IsEveryGame o o (Err fault)
games_without o fault is = record { written = engine_cut IsGamesPage o fault is; refused = inr is }
