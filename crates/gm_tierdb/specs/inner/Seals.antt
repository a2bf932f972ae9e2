-- Files whose digest is tested apart.
use Rattle.std.specs.Prelude.{◌≡◌, ℕ, ◌≤◌, ◌-◌, List, length, take, drop, Option}
use Rattle.sha2.specs.Sha256.{sha256}
use Rattle.gm_game.specs.declared.position.Solved.{Solved}
use Rattle.gm_game.specs.Rules.{Rules}
use Rattle.gm_table.specs.declared.version.Version.{Version}
use Rattle.gm_table.specs.declared.version.Version.TheVariants.{Two}
use Rattle.gm_tierdb.specs.declared.file_error.FileError.{FileError}
use Rattle.gm_tierdb.specs.declared.file_error.FileError.TheVariants.{OutOfMemory, Truncated, BadMagic, WrongGame, WrongTier, WrongSize, BadRecord, Trailing, BadDigest, OldVersion}
use Rattle.gm_tierdb.specs.TierText.{IsTierText}
use Rattle.gm_tierdb.specs.Refusals.{HasHeader, HasRecords, RefusesIn, Refuses, records_part, file_len}

-- the bytes end with the digest of those before it
abbrev pub IsSealed : List ℕ → Type 0
IsSealed bytes = (32 ≤ length bytes) × (drop (length bytes - 32) bytes ≡ sha256 (take (length bytes - 32) bytes))

-- these are the records that the bytes have if they are sealed; else they are refused for their digest and nothing before it, and are the text of no records
pub record IsUnsealed (r : Rules) (tier : ℕ) (records : List (Option Solved)) (bytes : List ℕ) : Type 0 where
  pub sealed : IsSealed bytes → IsTierText r tier records bytes
  pub unsealed : (IsSealed bytes → ⊥) → Refuses r tier bytes BadDigest
  pub only : (others : List (Option Solved)) → IsTierText r tier others bytes → IsSealed bytes × (others ≡ records)

-- the bytes are those of a file but for the digest
abbrev pub IsWhole : Version → Rules → ℕ → List ℕ → Type 0
IsWhole v r tier bytes =
    HasHeader v r tier bytes × (length bytes ≡ file_len v (r.tier_size tier)) × HasRecords v (r.tier_size tier) (records_part v (r.tier_size tier) bytes)

-- why they are not
abbrev pub RefusesWhole : Version → Rules → ℕ → List ℕ → FileError → Type 0
RefusesWhole v r tier bytes OutOfMemory = ⊥
RefusesWhole v r tier bytes Truncated = RefusesIn v r tier bytes Truncated
RefusesWhole v r tier bytes BadMagic = RefusesIn v r tier bytes BadMagic
RefusesWhole v r tier bytes WrongGame = RefusesIn v r tier bytes WrongGame
RefusesWhole v r tier bytes WrongTier = RefusesIn v r tier bytes WrongTier
RefusesWhole v r tier bytes WrongSize = RefusesIn v r tier bytes WrongSize
RefusesWhole v r tier bytes (BadRecord index) = RefusesIn v r tier bytes (BadRecord index)
RefusesWhole v r tier bytes Trailing = RefusesIn v r tier bytes Trailing
RefusesWhole v r tier bytes BadDigest = ⊥
RefusesWhole v r tier bytes OldVersion = RefusesIn v r tier bytes OldVersion

-- why bytes are refused whose digest is not tested: for want of memory only if they are those of a file
abbrev pub RefusesUnsealed : Rules → ℕ → List ℕ → FileError → Type 0
RefusesUnsealed r tier bytes OutOfMemory = IsWhole Two r tier bytes
RefusesUnsealed r tier bytes Truncated = Refuses r tier bytes Truncated
RefusesUnsealed r tier bytes BadMagic = Refuses r tier bytes BadMagic
RefusesUnsealed r tier bytes WrongGame = Refuses r tier bytes WrongGame
RefusesUnsealed r tier bytes WrongTier = Refuses r tier bytes WrongTier
RefusesUnsealed r tier bytes WrongSize = Refuses r tier bytes WrongSize
RefusesUnsealed r tier bytes (BadRecord index) = Refuses r tier bytes (BadRecord index)
RefusesUnsealed r tier bytes Trailing = Refuses r tier bytes Trailing
RefusesUnsealed r tier bytes BadDigest = ⊥
RefusesUnsealed r tier bytes OldVersion = Refuses r tier bytes OldVersion
