-- All tiers that a tier reaches are held, also those below one of them.
use Rattle.gamesman.proofs.Lower.{ℕ, suc, List, refl, Contains, Rules, TableData, IsOrderFrom, HoldsExactly}
use Rattle.std.proofs.Common.{zero}
use Rattle.gm_play.specs.Reached.{AreAllHeld, AreClosed}
use Rattle.gm_tiers.specs.Reach.{IsReachedFrom}
use Rattle.gm_play.proofs.Held.{all_held}

-- the tiers that are reached from one of them
pub order_held : (r : Rules) (entries : List TableData) (order : List ℕ) (first : ℕ) → IsOrderFrom r first order → HoldsExactly entries order → (tier : ℕ) →
    Contains order tier → AreAllHeld r entries tier
order_held r entries order first is held tier has =
    all_held r entries (IsReachedFrom r first) (λ t child (n, reached) below. (suc n, (t, reached, below)))
    (λ t reached. (held t).1 ((is.each t).1 reached)) tier ((is.each tier).0 has)

pub reached_held : (r : Rules) (entries : List TableData) (order : List ℕ) (first : ℕ) → IsOrderFrom r first order → HoldsExactly entries order → AreAllHeld
    r entries first
reached_held r entries order first is held =
    all_held r entries (IsReachedFrom r first) (λ tier child (n, reached) has. (suc n, (tier, reached, has)))
    (λ tier reached. (held tier).1 ((is.each tier).1 reached)) first (zero, refl)

-- the tables are closed
pub order_closed : (r : Rules) (entries : List TableData) (order : List ℕ) (first : ℕ) → IsOrderFrom r first order → HoldsExactly entries order → AreClosed
    r entries
order_closed r entries order first is held tier has = order_held r entries order first is held tier ((held tier).0 has)
