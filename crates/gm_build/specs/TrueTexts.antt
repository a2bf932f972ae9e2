-- The texts of true tables in a store.
use Rattle.std.specs.Prelude.{◌≡◌, ℕ, List, Option, Some}
use Rattle.std.specs.List.{Contains}
use Rattle.gm_game.specs.declared.limits.TheConstants.{REMOTENESS}
use Rattle.gm_game.specs.declared.position.Solved.{Solved}
use Rattle.gm_game.specs.Rules.{Rules}
use Rattle.gm_game.specs.Records.{IsTrueTable}
use Rattle.gm_tierdb.specs.TierText.{IsTierText, IsTierText1}
use Rattle.gm_tierdb.specs.StoreTexts.{Texts}

-- the bytes are the text of the tier's true table
pub record IsTrueText (r : Rules) (tier : ℕ) (bytes : List ℕ) : Type 0 where
  pub records : List (Option Solved)
  pub is_true : IsTrueTable r REMOTENESS tier records
  pub text : IsTierText r tier records bytes

-- the bytes are the text of the tier's true table in version 1
pub record IsOldText (r : Rules) (tier : ℕ) (bytes : List ℕ) : Type 0 where
  pub records : List (Option Solved)
  pub is_true : IsTrueTable r REMOTENESS tier records
  pub text : IsTierText1 r tier records bytes

-- the tier's entry is the text of its true table
pub record HasText (r : Rules) (texts : Texts) (tier : ℕ) : Type 0 where
  pub bytes : List ℕ
  pub entry : texts tier ≡ Some bytes
  pub is_true : IsTrueText r tier bytes

-- the tier's entry is the text of its true table in version 1
pub record HasOldText (r : Rules) (texts : Texts) (tier : ℕ) : Type 0 where
  pub bytes : List ℕ
  pub entry : texts tier ≡ Some bytes
  pub is_true : IsOldText r tier bytes

-- the entry of each of these tiers is the text of its true table
abbrev pub HaveTexts : Rules → Texts → List ℕ → Type 0
HaveTexts r texts tiers = (tier : ℕ) → Contains tiers tier → HasText r texts tier

-- the entry of any other tier is as before
abbrev pub KeepsOthers : List ℕ → Texts → Texts → Type 0
KeepsOthers tiers old new = (tier : ℕ) → (Contains tiers tier → ⊥) → new tier ≡ old tier
