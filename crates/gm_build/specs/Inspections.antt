-- The state of a tier's entry.
use Rattle.std.specs.Prelude.{◌≡◌, ℕ, ◌⊎◌, List, Option, None, Some, IsTrue}
use Rattle.gm_game.specs.declared.position.Solved.{Solved}
use Rattle.gm_game.specs.Rules.{Rules}
use Rattle.gm_table.specs.Tables.{TableData, AreHeld}
use Rattle.gm_tierdb.specs.TierText.{IsTierText}
use Rattle.gm_tierdb.specs.StoreTexts.{StoreView}
use Rattle.gm_table.specs.declared.checker.CheckError.{CheckError}
use Rattle.gm_table.specs.Checks.{AreWrong}
use Rattle.gm_tierdb.specs.declared.file_error.FileError.TheVariants.{OldVersion}
use Rattle.gm_tierdb.specs.Refusals.{Refuses}
use Rattle.gm_build.specs.declared.inspect.TierState.{TierState}
use Rattle.gm_build.specs.declared.inspect.TierState.TheVariants.{Right, Missing, NotChecked, NoFile, NoTable}
use Rattle.gm_build.specs.TrueTexts.{IsTrueText, IsOldText}
use Rattle.gm_build.specs.Work.{HoldsToo}

-- the bytes are the text of records that are not the tier's
abbrev pub IsUntrueText : Rules → List TableData → ℕ → List ℕ → CheckError → Type 0
IsUntrueText r entries tier bytes why = (records : List (Option Solved)) × IsTierText r tier records bytes × AreWrong r entries tier records why

module _ (r : Rules) (entries : List TableData) (tier : ℕ) where
  -- the state of an entry with these bytes, over the tables of the child tiers; no text of version 1 is one of version 2
  abbrev pub IsInspected : List ℕ → TierState → Type 0
  IsInspected bytes Right = IsTrueText r tier bytes × (IsOldText r tier bytes → ⊥)
  IsInspected bytes Missing = ⊥
  IsInspected bytes NotChecked = ⊥
  IsInspected bytes (NoFile why) = Refuses r tier bytes why × (IsTrueText r tier bytes → ⊥) × (IsOldText r tier bytes → why ≡ OldVersion)
  IsInspected bytes (NoTable why) = IsUntrueText r entries tier bytes why × (IsTrueText r tier bytes → ⊥) × (IsOldText r tier bytes → ⊥)

  -- the state by the bytes that were read, if there were any
  abbrev pub IsInspectedBy : Option (List ℕ) → TierState → Type 0
  IsInspectedBy None state = state ≡ Missing
  IsInspectedBy (Some bytes) state = IsInspected bytes state

module _ (r : Rules) (entries : List TableData) (store : StoreView) (tier : ℕ) where
  -- these are the tier's bytes, if the reads of the store are promised
  abbrev pub IsReadOf : Option (List ℕ) → Type 0
  IsReadOf read = IsTrue store.is_read → read ≡ store.texts tier

  -- the state of an entry that is read
  abbrev pub IsStateRead : TierState → Type 0
  IsStateRead state = (read : Option (List ℕ)) × IsReadOf read × IsInspectedBy r entries tier read state

  -- the state of an entry, which is read exactly if the tables of all child tiers are held
  abbrev pub IsTierState : TierState → Type 0
  IsTierState state = ((state ≡ NotChecked) × (AreHeld r entries tier → ⊥)) ⊎ (AreHeld r entries tier × IsStateRead state)

-- the tier's table is given exactly if its entry is right
abbrev pub IsTableFor : ℕ → TierState → Option TableData → Type 0
IsTableFor tier Right None = ⊥
IsTableFor tier Right (Some table) = table.tier ≡ tier
IsTableFor tier Missing table = table ≡ None
IsTableFor tier NotChecked table = table ≡ None
IsTableFor tier (NoFile why) table = table ≡ None
IsTableFor tier (NoTable why) table = table ≡ None

-- the tables that are held after a check of the tier: its own too if its entry is right, and else those before
abbrev pub HoldsWith : ℕ → TierState → List TableData → List TableData → Type 0
HoldsWith tier Right old new = HoldsToo tier old new
HoldsWith tier Missing old new = new ≡ old
HoldsWith tier NotChecked old new = new ≡ old
HoldsWith tier (NoFile why) old new = new ≡ old
HoldsWith tier (NoTable why) old new = new ≡ old
