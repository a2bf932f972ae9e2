-- The output of `check` on the files of a game.
use Rattle.std.specs.Prelude.{◌≡◌, ℕ, ◌⊎◌, Bool, true, false, List, [], ◌∷◌, ◌++◌, codes, Option, Result, Ok, Err}
use Rattle.std.specs.Result.{IsErrAnd}
use Rattle.std.specs.Fmt.{decimal}
use Rattle.std.specs.Io.KnownBytes.{Keeps, Appends}
use Rattle.serde_json.specs.Data.{Data, object, member, no_members}
use Rattle.gm_game.specs.Rules.{Rules}
use Rattle.gm_table.specs.Tables.{TableData, AreTables}
use Rattle.gm_tiers.specs.Orders.{IsTierOrder}
use Rattle.gm_tierdb.specs.declared.file_error.FileError.{FileError}
use Rattle.gm_json.specs.Words.{whole, text, line_of}
use Rattle.gm_build.specs.Inspections.{IsTierState}
use Rattle.gm_build.specs.declared.build_error.BuildError.TheVariants.{StoreFailed}
use Rattle.gm_build.specs.Work.{HoldsExactly}
use Rattle.gm_play.specs.Sessions.{AppendsPart}
use Rattle.gm_tierdb.specs.StoreTexts.{StoreView}
use Rattle.gm_table.specs.declared.checker.CheckError.TheVariants.{OutOfMemory as NoRoom, WrongSize, WrongRecord}
use Rattle.gm_tierdb.specs.declared.file_error.FileError.TheVariants.{OutOfMemory, Truncated, BadMagic, WrongGame, WrongTier, WrongSize as OtherSize, BadRecord, Trailing, BadDigest, OldVersion}
use Rattle.gm_build.specs.declared.inspect.TierState.{TierState}
use Rattle.gm_build.specs.declared.inspect.TierState.TheVariants.{Right, Missing, NotChecked, NoFile, NoTable}
use Rattle.gamesman.specs.declared.fault.Fault.{Fault}
use Rattle.gamesman.specs.declared.fault.Fault.TheVariants.{NotBuilt}
use Rattle.gamesman.specs.Outputs.{IsOutputFault}
use Rattle.gamesman.specs.Refusals.{IsUnbuilt}
use Rattle.gamesman.specs.Told.{IsMemoryFault}

-- the words for the reason why bytes are not a file of a tier
abbrev pub file_words : FileError → List ℕ
file_words OutOfMemory = codes "out of memory"
file_words Truncated = codes "truncated"
file_words BadMagic = codes "bad magic"
file_words WrongGame = codes "wrong game"
file_words WrongTier = codes "wrong tier"
file_words OtherSize = codes "wrong size"
file_words (BadRecord index) = codes "bad record " ++ decimal index
file_words Trailing = codes "trailing bytes"
file_words BadDigest = codes "bad digest"
file_words OldVersion = codes "old version"

-- the words for the finding on a tier's file
abbrev pub finding_words : TierState → List ℕ
finding_words Right = codes "ok"
finding_words Missing = codes "missing"
finding_words NotChecked = codes "not checked"
finding_words (NoFile why) = codes "bad: " ++ file_words why
finding_words (NoTable (WrongRecord index)) = codes "bad: wrong record " ++ decimal index
finding_words (NoTable WrongSize) = codes "bad: wrong size"
finding_words (NoTable NoRoom) = codes "bad: wrong size"

-- the line for a tier
abbrev pub finding_line : ℕ → TierState → List ℕ
finding_line tier state = ((codes "tier " ++ decimal tier) ++ codes " ") ++ finding_words state ++ codes "\n"

-- the same as a JSON tree; the members in alphabetical order
abbrev pub finding_tree : ℕ → TierState → Data
finding_tree tier state = object (member (codes "finding") (text (finding_words state)) (member (codes "tier") (whole tier) no_members))

-- the line for a tier, of JSON or of words
abbrev pub tier_line : Bool → ℕ → TierState → List ℕ
tier_line true tier state = line_of (finding_tree tier state)
tier_line false tier state = finding_line tier state

-- the tiers that are right, after one more tier
abbrev pub right_with : ℕ → TierState → List ℕ → List ℕ
right_with tier Right right = tier ∷ right
right_with tier Missing right = right
right_with tier NotChecked right = right
right_with tier (NoFile why) right = right
right_with tier (NoTable why) right = right

-- the exit status after one more tier: 1 unless all tiers are right
abbrev pub status_with : ℕ → TierState → ℕ
status_with status Right = status
status_with status Missing = 1
status_with status NotChecked = 1
status_with status (NoFile why) = 1
status_with status (NoTable why) = 1

-- the state of a tier's file, if exactly these of the tiers before it are right
abbrev pub IsFoundAfter : Rules → StoreView → List ℕ → ℕ → TierState → Type 0
IsFoundAfter r store right tier state = (entries : List TableData) × AreTables r entries × HoldsExactly entries right × IsTierState r entries store tier state

-- the lines of some tiers, one after another, and the status after them; given are the right tiers and the status before them
abbrev pub AreLines : Rules → StoreView → Bool → List ℕ → ℕ → List ℕ → List ℕ → ℕ → Type 0
AreLines r store json right status [] out ends = (out ≡ []) × (ends ≡ status)
AreLines r store json right status (tier ∷ tiers) out ends = (state : TierState) × (rest : List ℕ) × IsFoundAfter r store right tier state
    × AreLines r store json (right_with tier state right) (status_with status state) tiers rest ends × (out ≡ tier_line json tier state ++ rest)

-- a tier's file is not read to its end: memory is refused, or the read failed
abbrev pub IsUnreadAt : ℕ → Fault → Type 0
IsUnreadAt tier fault = IsMemoryFault fault ⊎ (fault ≡ NotBuilt (StoreFailed tier))

-- a tier is not checked to its end: its file is not read, and nothing is written, or its line is not written to its end
abbrev pub IsTierCut : Rules → List TableData → StoreView → Bool → ℕ → Option (List ℕ) → Option (List ℕ) → Fault → Type 0
IsTierCut r entries store json tier before after fault = (IsUnreadAt tier fault × Keeps before after)
    ⊎ ((state : TierState) × IsTierState r entries store tier state × IsOutputFault fault × AppendsPart before after (tier_line json tier state))

-- the reason why a check ends before the remaining tiers: the file of the next is not read to its end
abbrev pub IsFileUnread : List ℕ → Fault → Type 0
IsFileUnread [] fault = ⊥
IsFileUnread (tier ∷ tiers) fault = IsUnreadAt tier fault

-- a check ended early: the lines of the tiers before are written, or a first part of them if a write failed
pub record IsCheckCut (r : Rules) (store : StoreView) (json : Bool) (tiers : List ℕ) (before after : Option (List ℕ)) (fault : Fault) : Type 0 where
  pub done : List ℕ
  pub left : List ℕ
  pub split : tiers ≡ done ++ left
  pub out : List ℕ
  pub status : ℕ
  pub lines : AreLines r store json [] 0 done out status
  pub written : (IsOutputFault fault × AppendsPart before after out) ⊎ (IsFileUnread left fault × Appends before after out)

-- these tiers are checked in their order: a line for each is written, and the status shows whether all are right
abbrev pub IsCheckOf : Rules → StoreView → Bool → List ℕ → Option (List ℕ) → Option (List ℕ) → Result ℕ Fault → Type 0
IsCheckOf r store json tiers before after (Ok status) = (out : List ℕ) × AreLines r store json [] 0 tiers out status × Appends before after out
IsCheckOf r store json tiers before after (Err fault) = IsCheckCut r store json tiers before after fault

-- the order of the game's tiers can't be made, and nothing is written
abbrev pub IsUnchecked : Rules → Option (List ℕ) → Option (List ℕ) → Result ℕ Fault → Type 0
IsUnchecked r before after result = IsErrAnd result (IsUnbuilt r r.initial.tier) × Keeps before after

-- the texts of a game are checked, in the order of its tiers
abbrev pub IsCheckedBy : Rules → StoreView → Bool → Option (List ℕ) → Option (List ℕ) → Result ℕ Fault → Type 0
IsCheckedBy r store json before after result =
    IsUnchecked r before after result ⊎ ((tiers : List ℕ) × IsTierOrder r tiers × IsCheckOf r store json tiers before after result)
