-- The longest wins and the longest losses of some tiers.
use Rattle.std.specs.Prelude.{◌≡◌, ℕ, ◌<◌, Bool, false, List, [], ◌++◌, Option, None, Some, slice_index_or}
use Rattle.gm_game.specs.declared.position.Position.{Position}
use Rattle.gm_game.specs.declared.position.Value.{Value}
use Rattle.gm_game.specs.declared.position.Value.TheVariants.{Lose, Win}
use Rattle.gm_game.specs.Rules.{Rules}
use Rattle.gm_find.specs.Finding.{all_positions}
use Rattle.gm_find.specs.declared.sought.Sought.{Sought}
use Rattle.gm_find.specs.declared.sought.Choice.TheVariants.{First}
use Rattle.gm_find.specs.Rows.{IsFoundText}
use Rattle.gm_analyse.specs.declared.among.Among.TheVariants.{Canonical}
use Rattle.gm_analyse.specs.Totals.{IsGreatest}

-- the positions of a value with this remoteness, whatever their moves
abbrev pub longest : Value → ℕ → Sought
longest v n = record {
  value = v;
  remoteness = Some (record { least = n; most = n });
  only_move = false;
  only_fastest = false;
  whole_line = false;
  distinct = false;
  min_moves = 0;
  min_tries = 0;
  tries = false;
}

-- the last of the first i places with a number above 0, if there is one
abbrev pub IsLastAbove : List ℕ → ℕ → Option ℕ → Type 0
IsLastAbove numbers i None = (n : ℕ) → n < i → slice_index_or numbers n 0 ≡ 0
IsLastAbove numbers i (Some k) = (k < i) × (0 < slice_index_or numbers k 0) × ((n : ℕ) → k < n → n < i → slice_index_or numbers n 0 ≡ 0)

module _ (r : Rules) (shown : Position → List ℕ) (move_shown : Position → ℕ → List ℕ) (reached : Bool) (limit : ℕ) (tiers : List ℕ) where
  -- the rows of the positions of the value with this remoteness; none if there is no greatest one
  abbrev pub AreRowsAt : Value → Option ℕ → List ℕ → Type 0
  AreRowsAt v None out = out ≡ []
  AreRowsAt v (Some n) out = IsFoundText r shown move_shown (longest v n) reached (First limit) tiers out

  -- the rows of the positions of the value with the greatest remoteness
  abbrev pub IsLongestRows : Value → List ℕ → Type 0
  IsLongestRows v out = (o : Option ℕ) × IsGreatest r Canonical reached v (all_positions r tiers) o × AreRowsAt v o out

  -- the rows of the longest wins, and then those of the longest losses
  abbrev pub IsLongestText : List ℕ → Type 0
  IsLongestText out = (wins : List ℕ) × (losses : List ℕ) × IsLongestRows Win wins × IsLongestRows Lose losses × (out ≡ wins ++ losses)
