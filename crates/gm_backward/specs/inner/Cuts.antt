-- Where a tier is cut into four tiles.
use Rattle.std.specs.Prelude.{ℕ, zero, suc, ◌≤◌}
use Rattle.gm_game.specs.declared.limits.TheConstants.{TIER_SIZE}
use Rattle.gm_game.specs.Rules.{Rules}
use Rattle.gm_backward.specs.declared.cuts.Cuts.{Cuts}

-- the first index of tile k of a tier of this size, which is the size from the fourth tile on
abbrev pub cut_at : ℕ → Cuts → ℕ → ℕ
cut_at size cuts zero = 0
cut_at size cuts (suc zero) = cuts.b
cut_at size cuts (suc (suc zero)) = cuts.c
cut_at size cuts (suc (suc (suc zero))) = cuts.d
cut_at size cuts (suc (suc (suc (suc k)))) = size

-- the cuts ascend up to the size
pub record AreAscendingCuts (size : ℕ) (cuts : Cuts) : Type 0 where
  pub low : cuts.b ≤ cuts.c
  pub high : cuts.c ≤ cuts.d
  pub end : cuts.d ≤ size

-- the cuts of a tier within the limits
pub record AreCuts (r : Rules) (tier : ℕ) (cuts : Cuts) : Type 0 where
  pub within : r.tier_size tier ≤ TIER_SIZE
  pub ascending : AreAscendingCuts (r.tier_size tier) cuts
