-- Whether a tier's entry is the text of its true table.
use Rattle.std.specs.Prelude.{◌≡◌, ℕ, List}
use Rattle.gm_game.specs.Rules.{Rules}
use Rattle.gm_tierdb.specs.StoreTexts.{Texts}
use Rattle.gm_build.specs.declared.found.Found.{Found}
use Rattle.gm_build.specs.declared.found.Found.TheVariants.{Current, Old, Nothing}
use Rattle.gm_build.specs.TrueTexts.{IsTrueText, IsOldText, HasText, HasOldText}

-- the table that was found is the tier's
abbrev pub IsOfTier : {G : Type 0} → ℕ → Found G → Type 0
IsOfTier tier (Current table) = table.tier ≡ tier
IsOfTier tier (Old table) = table.tier ≡ tier
IsOfTier tier Nothing = Unit {0}

-- what the bytes are found to be
abbrev pub IsFound : {G : Type 0} → Rules → ℕ → List ℕ → Found G → Type 0
IsFound r tier bytes (Current table) = IsTrueText r tier bytes × (IsOldText r tier bytes → ⊥)
IsFound r tier bytes (Old table) = IsOldText r tier bytes × (IsTrueText r tier bytes → ⊥)
IsFound r tier bytes Nothing = (IsTrueText r tier bytes → ⊥) × (IsOldText r tier bytes → ⊥)

-- what the tier's entry is found to be
abbrev pub IsEntryFound : {G : Type 0} → Rules → Texts → ℕ → Found G → Type 0
IsEntryFound r texts tier (Current table) = HasText r texts tier × (HasOldText r texts tier → ⊥)
IsEntryFound r texts tier (Old table) = HasOldText r texts tier × (HasText r texts tier → ⊥)
IsEntryFound r texts tier Nothing = (HasText r texts tier → ⊥) × (HasOldText r texts tier → ⊥)
