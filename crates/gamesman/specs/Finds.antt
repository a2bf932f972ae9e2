-- The output of `find`.
use Rattle.std.specs.Prelude.{◌≡◌, ◌++◌, ℕ, ◌⊎◌, List, [], ◌∷◌, codes, length, take, Option, None, Some, Result, Ok, Err, IfErr}
use Rattle.std.specs.Io.KnownBytes.{Keeps, Appends}
use Rattle.std.specs.List.{flat_map}
use Rattle.gm_game.specs.Rules.{Rules}
use Rattle.gm_tiers.specs.Orders.{IsTierOrder}
use Rattle.gm_play.specs.Sessions.{AppendsPart}
use Rattle.gm_find.specs.declared.found.Found.{Found}
use Rattle.gm_find.specs.declared.sought.Choice.{Choice}
use Rattle.gm_find.specs.declared.sought.Choice.TheVariants.{First, Random, Sorted, Apart}
use Rattle.gm_find.specs.Founds.{AreFound, AreChosen}
use Rattle.gm_find.specs.Rows.{found_row}
use Rattle.gm_json.specs.Founds.{found_line}
use Rattle.gm_page.specs.Puzzles.{IsSheetOf}
use Rattle.gm_command.specs.declared.requests.LineForm.{LineForm}
use Rattle.gm_command.specs.declared.requests.LineForm.TheVariants.{Rows, Json, Boards}
use Rattle.gm_command.specs.declared.requests.Report.{Report}
use Rattle.gm_command.specs.declared.requests.Report.TheVariants.{Lines, Sheet}
use Rattle.gm_command.specs.declared.requests.PositionSearch.{PositionSearch}
use Rattle.gm_draw.specs.Pictures.{drawn}
use Rattle.gamesman.specs.declared.fault.Fault.{Fault}
use Rattle.gamesman.specs.declared.fault.Fault.TheVariants.{OutOfMemory, OutputFailed, OutputClosed}
use Rattle.gamesman.specs.Games.{GameSpec}
use Rattle.gamesman.specs.Outputs.{IsOutputFault, IsCutOff}
use Rattle.gamesman.specs.Told.{IsTold}

-- the row of a found position, below its board
abbrev pub board_row : GameSpec → Found → List ℕ
board_row g x = (drawn g.picture g.shown x.position ++ codes "\n") ++ found_row g.shown g.move_shown x

-- for each found position its row, its line of JSON, or its row below its board
abbrev pub AreLinesOf : GameSpec → LineForm → List Found → List ℕ → Type 0
AreLinesOf g Rows xs out = out ≡ flat_map (found_row g.shown g.move_shown) xs
AreLinesOf g Json xs out = out ≡ flat_map (found_line g.shown g.move_shown) xs
AreLinesOf g Boards xs out = out ≡ flat_map (board_row g) xs

-- found positions as a text: a line for each, or a sheet of all
abbrev pub IsTextOf : GameSpec → Report → List Found → List ℕ → Type 0
IsTextOf g (Lines form) xs out = AreLinesOf g form xs out
IsTextOf g Sheet xs out = IsSheetOf g xs out

-- the chosen ones of the positions of these tiers that are searched for, as a text
abbrev pub IsFoundIn : GameSpec → PositionSearch → List ℕ → List ℕ → Type 0
IsFoundIn g asked tiers out = (xs : List Found) × AreChosen g.rules asked.sought asked.reached asked.choice tiers xs × IsTextOf g asked.report xs out

-- the first of them in one tier, up to a limit, as lines
abbrev pub IsFoundAt : GameSpec → PositionSearch → LineForm → ℕ → ℕ → List ℕ → Type 0
IsFoundAt g asked form tier left out = (xs : List Found) × AreFound g.rules asked.sought asked.reached left (tier ∷ []) xs × AreLinesOf g form xs out

-- the tiers that are searched: the named one, or all of the game in their order
abbrev pub AreTiersFor : Rules → Option ℕ → List ℕ → Type 0
AreTiersFor r None tiers = IsTierOrder r tiers
AreTiersFor r (Some tier) tiers = tiers ≡ tier ∷ []

-- the positions found in all of them
abbrev pub IsFoundOf : GameSpec → PositionSearch → List ℕ → Type 0
IsFoundOf g asked out = (tiers : List ℕ) × AreTiersFor g.rules asked.tier tiers × IsFoundIn g asked tiers out

-- the positions found in some number of the first tiers
abbrev pub IsFoundSoFar : GameSpec → PositionSearch → List ℕ → Type 0
IsFoundSoFar g asked out = (tiers : List ℕ) × AreTiersFor g.rules asked.tier tiers × ((k : ℕ) × IsFoundIn g asked (take k tiers) out)

-- the output after a fault: a first part of such a text if a write failed; nothing or the whole of one if memory is refused; otherwise nothing
abbrev pub IsLeft : (List ℕ → Type 0) → Option (List ℕ) → Option (List ℕ) → Fault → Type 0
IsLeft IsText before after OutputFailed = (text : List ℕ) × IsText text × AppendsPart before after text
IsLeft IsText before after OutputClosed = (text : List ℕ) × IsText text × AppendsPart before after text
IsLeft IsText before after (OutOfMemory error) = Keeps before after ⊎ ((text : List ℕ) × IsText text × Appends before after text)
IsLeft IsText before after _ = Keeps before after

-- found positions are written tier by tier; after a fault those of the first tiers are written, without a last part if a write failed
abbrev pub IsWrittenByTier : GameSpec → PositionSearch → Option (List ℕ) → Option (List ℕ) → Result ℕ Fault → Type 0
IsWrittenByTier g asked before after (Ok status) = (status ≡ 0) × ((text : List ℕ) × IsFoundOf g asked text × Appends before after text)
IsWrittenByTier g asked before after (Err fault) = IsLeft (IsFoundSoFar g asked) before after fault

-- found positions are written tier by tier, with the reason of a refusal if no write failed
pub record IsToldByTier (g : GameSpec) (q : PositionSearch) (IsWhy : Fault → Type 0) (before after : Option (List ℕ)) (result : Result ℕ Fault) : Type 0 where
  pub written : IsWrittenByTier g q before after result
  pub refused : IfErr result (λ fault. IsOutputFault fault ⊎ IsWhy fault)

-- the first positions of one tier are written, and their number is returned; after a fault a part of them if a write failed, and otherwise nothing
abbrev pub IsTierTold : GameSpec → PositionSearch → LineForm → ℕ → ℕ → Option (List ℕ) → Option (List ℕ) → Result ℕ Fault → Type 0
IsTierTold g asked form tier left before after (Ok n) = (xs : List Found) × AreFound g.rules asked.sought asked.reached left (tier ∷ []) xs × (n ≡ length xs)
    × ((text : List ℕ) × AreLinesOf g form xs text × Appends before after text)
IsTierTold g asked form tier left before after (Err fault) = IsCutOff (IsFoundAt g asked form tier left) before after fault

-- the limit, if the first positions are requested
abbrev pub first_limit : Choice → Option ℕ
first_limit (First n) = Some n
first_limit (Random n seed) = None
first_limit (Sorted order n) = None
first_limit (Apart order k n seed turn) = None

-- the limit for positions that are written tier by tier; no limit if all are written at once: a sheet, or positions chosen by chance or sorted
abbrev pub limit_by_tier : Report → Choice → Option ℕ
limit_by_tier (Lines form) choice = first_limit choice
limit_by_tier Sheet choice = None

-- found positions are written tier by tier, or at once
abbrev pub AreFoundWith : Option ℕ → GameSpec → PositionSearch → (Fault → Type 0) → Option (List ℕ) → Option (List ℕ) → Result ℕ Fault → Type 0
AreFoundWith (Some limit) g asked IsWhy before after result = IsToldByTier g asked IsWhy before after result
AreFoundWith None g asked IsWhy before after result = IsTold (IsFoundOf g asked) IsWhy before after result

-- the positions that `find` finds are written
abbrev pub AreFoundBy : GameSpec → PositionSearch → (Fault → Type 0) → Option (List ℕ) → Option (List ℕ) → Result ℕ Fault → Type 0
AreFoundBy g asked IsWhy before after result = AreFoundWith (limit_by_tier asked.report asked.choice) g asked IsWhy before after result
