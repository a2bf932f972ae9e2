-- Counts over all tiers together, or tier by tier.
use Rattle.std.specs.Prelude.{◌≡◌, ℕ, Bool, true, false, List, [], ◌∷◌, ◌++◌, map, Option, None, Some}
use Rattle.gm_game.specs.Rules.{Rules}
use Rattle.gm_analyse.specs.declared.among.Among.{Among}
use Rattle.gm_analyse.specs.declared.counts.Count.{Count}
use Rattle.gm_analyse.specs.declared.by_tier.TierCount.{TierCount}
use Rattle.gm_analyse.specs.Totals.{AreCounts}

abbrev pub with_tier : Option ℕ → Count → TierCount
with_tier tier c = record { tier = tier; count = c }

-- the counts of each of these tiers by itself, one tier after another
abbrev pub AreTierRows : Rules → Among → Bool → List ℕ → List TierCount → Type 0
AreTierRows r among reached [] rows = rows ≡ []
AreTierRows r among reached (t ∷ ts) rows = (counts : List Count) × (rest : List TierCount) × AreCounts r among reached (t ∷ []) counts × AreTierRows r
    among reached ts rest
    × (rows ≡ map (with_tier (Some t)) counts ++ rest)

-- the counts of these tiers: of each by itself, if that is wanted, and else of all together
abbrev pub AreRows : Rules → Among → Bool → Bool → List ℕ → List TierCount → Type 0
AreRows r among reached true tiers rows = AreTierRows r among reached tiers rows
AreRows r among reached false tiers rows = (counts : List Count) × AreCounts r among reached tiers counts × (rows ≡ map (with_tier None) counts)
