-- The answers of the commands that read all tables of a game, or one place in them.
use Rattle.std.specs.Prelude.{◌≡◌, ℕ, ◌⊎◌, Bool, true, false, List, [], ◌++◌, Option, None, Some, Result}
use Rattle.gm_game.specs.declared.position.Position.{Position}
use Rattle.gm_game.specs.declared.position.Value.{Value}
use Rattle.gm_game.specs.declared.position.Value.TheVariants.{Lose, Win}
use Rattle.gm_game.specs.Rules.{Rules}
use Rattle.gm_tiers.specs.Reach.{IsReached}
use Rattle.gm_tiers.specs.Orders.{IsTierOrder}
use Rattle.gm_play.specs.Places.{IsAt}
use Rattle.gm_analyse.specs.Bars.{IsCountsText}
use Rattle.gm_analyse.specs.Longest.{longest, IsLongestText}
use Rattle.gm_analyse.specs.Totals.{IsGreatest}
use Rattle.gm_analyse.specs.declared.among.Among.TheVariants.{Canonical}
use Rattle.gm_find.specs.Finding.{all_positions}
use Rattle.gm_find.specs.declared.sought.Choice.TheVariants.{First}
use Rattle.gm_json.specs.Founds.{IsFoundJson}
use Rattle.gm_command.specs.declared.requests.CountsRequest.{CountsRequest}
use Rattle.gamesman.specs.declared.fault.Fault.{Fault}
use Rattle.gamesman.specs.Refusals.{IsUnbuilt}
use Rattle.gamesman.specs.Texts.{IsPlacedText}
use Rattle.gamesman.specs.Told.{IsNoPlace, IsUnknown, IsTold}

-- the canonical position at this index of a tier of the game, with its true value
abbrev pub IsAtText : Rules → (Position → List ℕ) → (Position → ℕ → List ℕ) → ℕ → ℕ → Bool → List ℕ → Type 0
IsAtText r shown move_shown tier index json out = (p : Position) × IsAt r tier index p × IsReached r tier × IsPlacedText r shown move_shown p json out

-- the reason for a refusal: the tier is not one of the game, no canonical position has the index, or the tables are not built
abbrev pub IsUnplaced : Rules → ℕ → ℕ → Fault → Type 0
IsUnplaced r tier index fault = (IsUnknown r tier fault ⊎ IsNoPlace r tier index fault) ⊎ IsUnbuilt r tier fault

-- the position at a tier and index is written
abbrev pub IsPlaced : Rules → (Position → List ℕ) → (Position → ℕ → List ℕ) → ℕ → ℕ → Bool → Option (List ℕ) → Option (List ℕ) → Result ℕ Fault → Type 0
IsPlaced r shown move_shown tier index json before after result =
    IsTold (IsAtText r shown move_shown tier index json) (IsUnplaced r tier index) before after result

-- the counts of all tiers of the game
abbrev pub IsCountsOf : Rules → CountsRequest → List ℕ → Type 0
IsCountsOf r asked out = (tiers : List ℕ) × IsTierOrder r tiers × IsCountsText r asked.among asked.reached asked.by_tier asked.form tiers out

module _ (r : Rules) (shown : Position → List ℕ) (move_shown : Position → ℕ → List ℕ) (reached : Bool) (limit : ℕ) where
  module _ (tiers : List ℕ) where
    -- the lines of JSON of the positions of the value with this remoteness; none if there is no greatest one
    abbrev pub AreLinesAt : Value → Option ℕ → List ℕ → Type 0
    AreLinesAt v None out = out ≡ []
    AreLinesAt v (Some n) out = IsFoundJson r shown move_shown (longest v n) reached (First limit) tiers out

    -- those of the positions of the value with the greatest remoteness
    abbrev pub AreLongestLines : Value → List ℕ → Type 0
    AreLongestLines v out = (o : Option ℕ) × IsGreatest r Canonical reached v (all_positions r tiers) o × AreLinesAt v o out

    -- those of the longest wins, and then those of the longest losses
    abbrev pub IsLongestJson : List ℕ → Type 0
    IsLongestJson out = (wins : List ℕ) × (losses : List ℕ) × AreLongestLines Win wins × AreLongestLines Lose losses × (out ≡ wins ++ losses)

    -- the same as lines of JSON, or as rows
    abbrev pub IsLongestIn : Bool → List ℕ → Type 0
    IsLongestIn true out = IsLongestJson out
    IsLongestIn false out = IsLongestText r shown move_shown reached limit tiers out

  -- the longest wins and the longest losses of all tiers of the game
  abbrev pub IsLongestOf : Bool → List ℕ → Type 0
  IsLongestOf json out = (tiers : List ℕ) × IsTierOrder r tiers × IsLongestIn tiers json out

-- the tier whose tables a question needs, with all that it reaches: the initial one if no tier is named
abbrev pub first_of : Rules → Option ℕ → ℕ
first_of r None = r.initial.tier
first_of r (Some tier) = tier

-- the named tier is not known to be one of the game
abbrev pub IsUnnamed : Rules → Option ℕ → Fault → Type 0
IsUnnamed r None fault = ⊥
IsUnnamed r (Some tier) fault = IsUnknown r tier fault

-- the reason why there is no table
abbrev pub IsUnsearched : Rules → Option ℕ → Fault → Type 0
IsUnsearched r tier fault = IsUnnamed r tier fault ⊎ IsUnbuilt r (first_of r tier) fault
