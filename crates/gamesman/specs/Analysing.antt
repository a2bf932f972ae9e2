-- The output of `analyse`.
use Rattle.std.specs.Prelude.{◌≡◌, ℕ, List, [], ◌∷◌, ◌++◌, codes, length, Option, None, Result}
use Rattle.serde_json.specs.Written.{compact_text}
use Rattle.gm_game.specs.Rules.{Rules}
use Rattle.gm_table.specs.Tables.{TableData, IsTable}
use Rattle.gm_tiers.specs.Orders.{IsTierOrder}
use Rattle.gm_analyse.specs.declared.analysis.Analysis.{Analysis}
use Rattle.gm_analyse.specs.Listing.{AreRecordCounts}
use Rattle.gm_analyse.specs.LongestWins.{IsLongestWin}
use Rattle.gm_analyse.specs.Numbers.{count_where, is_legal_at, has_record}
use Rattle.gm_analyse.specs.Tree.{name_text, analysis_tree}
use Rattle.gamesman.specs.declared.fault.Fault.{Fault}
use Rattle.gamesman.specs.Searches.{IsUnsearched}
use Rattle.gamesman.specs.Told.{IsTold}

-- the counts of a tier's true table
pub record IsAnalysisOf (r : Rules) (table : TableData) (a : Analysis) : Type 0 where
  pub tier : a.tier ≡ table.tier
  pub size : a.size ≡ length table.records
  pub legal : a.legal ≡ count_where (is_legal_at r table.tier) (length table.records)
  pub canonical : a.canonical ≡ count_where (has_record table.records) (length table.records)
  pub counts : AreRecordCounts table.records a.counts
  pub longest_win : IsLongestWin table.records (length table.records) a.longest_win

-- the line for a tier
pub record IsAnalysisLine (r : Rules) (tier : ℕ) (line : List ℕ) : Type 0 where
  pub table : TableData
  pub is_true : IsTable r table
  pub of_tier : table.tier ≡ tier
  pub analysis : Analysis
  pub counted : IsAnalysisOf r table analysis
  pub text : line ≡ compact_text (analysis_tree (name_text r.name) analysis) ++ codes "\n"

-- a line for each of these tiers, in their order
abbrev pub AreAnalysisLines : Rules → List ℕ → List ℕ → Type 0
AreAnalysisLines r [] out = out ≡ []
AreAnalysisLines r (tier ∷ tiers) out = (line : List ℕ) × (rest : List ℕ) × IsAnalysisLine r tier line × AreAnalysisLines r tiers rest × (out ≡ line ++ rest)

-- a line for each tier of the game
abbrev pub IsAnalysisText : Rules → List ℕ → Type 0
IsAnalysisText r out = (tiers : List ℕ) × IsTierOrder r tiers × AreAnalysisLines r tiers out

-- the counts of each tier of the game are written
abbrev pub IsAnalysedBy : Rules → Option (List ℕ) → Option (List ℕ) → Result ℕ Fault → Type 0
IsAnalysedBy r before after result = IsTold (IsAnalysisText r) (IsUnsearched r None) before after result
