-- Why bytes are refused: the first reason that applies, in the order of the tests.
use Rattle.std.specs.Prelude.{◌≡◌, ◌≢◌, ℕ, ◌<◌, ◌≤◌, ◌+◌, ◌*◌, ◌⊎◌, List, ◌++◌, length, take, drop, Option, None, Some, All}
use Rattle.std.specs.List.{flat_map}
use Rattle.std.specs.Int.{to_le_bytes, w64}
use Rattle.sha2.specs.Sha256.{sha256}
use Rattle.gm_game.specs.declared.position.Solved.{Solved}
use Rattle.gm_game.specs.Rules.{Rules}
use Rattle.gm_table.specs.declared.version.Version.{Version}
use Rattle.gm_table.specs.declared.version.Version.TheVariants.{One, Two}
use Rattle.gm_table.specs.RecordCodes.{width, record_bytes, IsStorable}
use Rattle.gm_tierdb.specs.declared.file_error.FileError.{FileError}
use Rattle.gm_tierdb.specs.declared.file_error.FileError.TheVariants.{OutOfMemory, Truncated, BadMagic, WrongGame, WrongTier, WrongSize, BadRecord, Trailing, BadDigest, OldVersion}
use Rattle.gm_tierdb.specs.TierText.{magic, AreFileRecords, IsVersionText}

-- the first bytes are those of an older version
abbrev pub IsOld : Version → List ℕ → Type 0
IsOld One first = ⊥
IsOld Two first = first ≡ magic One

-- the header is there, and the first bytes are right
abbrev pub HasMagic : Version → List ℕ → Type 0
HasMagic v bytes = (40 ≤ length bytes) × (take 8 bytes ≡ magic v)

-- the first bytes and the game's name are right
abbrev pub HasName : Version → List ℕ → List ℕ → Type 0
HasName v name bytes = HasMagic v bytes × (take 16 (drop 8 bytes) ≡ name)

-- the first bytes, the game's name and the tier are right
abbrev pub HasTier : Version → List ℕ → ℕ → List ℕ → Type 0
HasTier v name tier bytes = HasName v name bytes × (take 8 (drop 24 bytes) ≡ to_le_bytes w64 tier)

-- the whole header is right: also the tier's size
abbrev pub HasHeader : Version → Rules → ℕ → List ℕ → Type 0
HasHeader v r tier bytes = HasTier v r.name tier bytes × (take 8 (drop 32 bytes) ≡ to_le_bytes w64 (r.tier_size tier))

-- how many bytes there are before the digest, and how many in all
abbrev pub body_len : Version → ℕ → ℕ
body_len v size = 40 + width v * size

abbrev pub file_len : Version → ℕ → ℕ
file_len v size = 72 + width v * size

-- the place of the records
abbrev pub records_part : Version → ℕ → List ℕ → List ℕ
records_part v size bytes = drop 40 (take (body_len v size) bytes)

-- these bytes are this many records
abbrev pub HasRecords : Version → ℕ → List ℕ → Type 0
HasRecords v size bytes = (records : List (Option Solved)) × AreFileRecords v size records bytes

-- the bytes begin with this many records, fewer than the size, and no record comes next
pub record IsFirstBad (v : Version) (size : ℕ) (bytes : List ℕ) (index : ℕ) : Type 0 where
  pub front : List (Option Solved)
  pub rest : List ℕ
  pub storable : All (IsStorable v) front
  pub count : length front ≡ index
  pub within : index < size
  pub split : bytes ≡ flat_map (record_bytes v) front ++ rest
  pub bad : (o : Option Solved) → IsStorable v o → take (width v) rest ≢ record_bytes v o

-- these are the records that the bytes are, or there was no memory for them
abbrev pub AreDecoded : Version → ℕ → List ℕ → Option (List (Option Solved)) → Type 0
AreDecoded v size bytes None = HasRecords v size bytes
AreDecoded v size bytes (Some records) = AreFileRecords v size records bytes

-- why the bytes are refused; memory comes last, if they are the text of some records
abbrev pub RefusesIn : Version → Rules → ℕ → List ℕ → FileError → Type 0
RefusesIn v r tier bytes OutOfMemory = (records : List (Option Solved)) × IsVersionText v r tier records bytes
RefusesIn v r tier bytes Truncated = (length bytes < 40) ⊎ (HasHeader v r tier bytes × (length bytes < file_len v (r.tier_size tier)))
RefusesIn v r tier bytes BadMagic = (40 ≤ length bytes) × (take 8 bytes ≢ magic v) × (IsOld v (take 8 bytes) → ⊥)
RefusesIn v r tier bytes WrongGame = HasMagic v bytes × (take 16 (drop 8 bytes) ≢ r.name)
RefusesIn v r tier bytes WrongTier = HasName v r.name bytes × (take 8 (drop 24 bytes) ≢ to_le_bytes w64 tier)
RefusesIn v r tier bytes WrongSize = HasTier v r.name tier bytes × (take 8 (drop 32 bytes) ≢ to_le_bytes w64 (r.tier_size tier))
RefusesIn v r tier bytes (BadRecord index) =
    HasHeader v r tier bytes × (file_len v (r.tier_size tier) ≤ length bytes) × IsFirstBad v (r.tier_size tier) (records_part v (r.tier_size tier) bytes) index
RefusesIn v r tier bytes Trailing =
    HasHeader v r tier bytes × (file_len v (r.tier_size tier) < length bytes) × HasRecords v (r.tier_size tier) (records_part v (r.tier_size tier) bytes)
RefusesIn v r tier bytes BadDigest =
    HasHeader v r tier bytes × (length bytes ≡ file_len v (r.tier_size tier)) × HasRecords v (r.tier_size tier) (records_part v (r.tier_size tier) bytes)
    × (drop (body_len v (r.tier_size tier)) bytes ≢ sha256 (take (body_len v (r.tier_size tier)) bytes))
RefusesIn v r tier bytes OldVersion = (40 ≤ length bytes) × IsOld v (take 8 bytes)

-- why the bytes of a file are refused, and those of an older one
abbrev pub Refuses : Rules → ℕ → List ℕ → FileError → Type 0
Refuses = RefusesIn Two

abbrev pub Refuses1 : Rules → ℕ → List ℕ → FileError → Type 0
Refuses1 = RefusesIn One

-- the numbers of the errors
abbrev pub file_error_number : FileError → ℕ
file_error_number OutOfMemory = 1
file_error_number Truncated = 2
file_error_number BadMagic = 3
file_error_number WrongGame = 4
file_error_number WrongTier = 5
file_error_number WrongSize = 6
file_error_number (BadRecord index) = 7
file_error_number Trailing = 8
file_error_number BadDigest = 9
file_error_number OldVersion = 10
