-- The bytes of a tier file, in each version of its form.
use Rattle.std.specs.Prelude.{◌≡◌, ℕ, ◌≤◌, List, ◌++◌, length, codes, All, Option}
use Rattle.std.specs.List.{flat_map}
use Rattle.std.specs.Int.{to_le_bytes, w64}
use Rattle.sha2.specs.Sha256.{sha256}
use Rattle.gm_game.specs.declared.position.Solved.{Solved}
use Rattle.gm_game.specs.declared.position.Phase.{Phase}
use Rattle.gm_game.specs.Rules.{Rules}
use Rattle.gm_table.specs.Levels.{HasLevel}
use Rattle.gm_table.specs.declared.version.TheConstants.{REMOTENESS_1}
use Rattle.gm_table.specs.declared.version.Version.{Version}
use Rattle.gm_table.specs.declared.version.Version.TheVariants.{One, Two}
use Rattle.gm_table.specs.RecordCodes.{record_bytes, IsStorable}

-- what a file of this version begins with
abbrev pub magic : Version → List ℕ
magic One = codes "GMTIER01"
magic Two = codes "GMTIER02"

-- these bytes are this many records that a file can have
pub record AreFileRecords (v : Version) (size : ℕ) (records : List (Option Solved)) (bytes : List ℕ) : Type 0 where
  pub whole : length records ≡ size
  pub storable : All (IsStorable v) records
  pub text : bytes ≡ flat_map (record_bytes v) records

-- the text of a tier file without its digest
abbrev pub body : Version → List ℕ → ℕ → List (Option Solved) → List ℕ
body v name tier records =
    magic v ++ name ++ to_le_bytes w64 tier ++ to_le_bytes w64 (length records) ++ flat_map (record_bytes v) records

-- the text of a tier file: magic, name, tier, size, records, and the digest of all these bytes
unfoldable pub version_text : Version → List ℕ → ℕ → List (Option Solved) → List ℕ
version_text v name tier records = body v name tier records ++ sha256 (body v name tier records)

-- the text of a tier file of the present version, and of the older one
abbrev pub tier_text : List ℕ → ℕ → List (Option Solved) → List ℕ
tier_text = version_text Two

abbrev pub tier_text_1 : List ℕ → ℕ → List (Option Solved) → List ℕ
tier_text_1 = version_text One

-- the bytes are the text of a tier with these records, as many as it has indexes, each of which a file can have
pub record IsVersionText (v : Version) (r : Rules) (tier : ℕ) (records : List (Option Solved)) (bytes : List ℕ) : Type 0 where
  pub whole : length records ≡ r.tier_size tier
  pub storable : All (IsStorable v) records
  pub text : bytes ≡ version_text v r.name tier records

abbrev pub IsTierText : Rules → ℕ → List (Option Solved) → List ℕ → Type 0
IsTierText = IsVersionText Two

abbrev pub IsTierText1 : Rules → ℕ → List (Option Solved) → List ℕ → Type 0
IsTierText1 = IsVersionText One

-- no record of a table is above this level, in either phase
pub record AreUpTo (limit : ℕ) (records : List (Option Solved)) : Type 0 where
  pub each : (phase : Phase) (n : ℕ) → HasLevel phase records n → n ≤ limit

-- a file of this version can have the records of such a table
abbrev pub IsFor : Version → List (Option Solved) → Type 0
IsFor One records = AreUpTo REMOTENESS_1 records
IsFor Two records = Unit {0}
