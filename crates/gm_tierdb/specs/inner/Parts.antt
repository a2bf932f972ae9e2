-- The parts of a file that has a header and room for the records and the digest.
use Rattle.std.specs.Prelude.{◌≡◌, ℕ, ◌+◌, ◌*◌, ◌≤◌, List, length}
use Rattle.gm_game.specs.Rules.{Rules}
use Rattle.gm_table.specs.declared.version.Version.{Version}
use Rattle.gm_table.specs.RecordCodes.{width}
use Rattle.gm_tierdb.specs.declared.decode.Parts.{Parts}
use Rattle.gm_tierdb.specs.Refusals.{HasHeader, records_part}

-- the header is that of the tier's file, the records are after it, and what is after them may be the digest and more
pub record AreParts (v : Version) (r : Rules) (tier : ℕ) (bytes : List ℕ) (parts : Parts) : Type 0 where
  pub header : HasHeader v r tier bytes
  pub size : parts.size ≡ r.tier_size tier
  pub place : parts.records.now ≡ records_part v parts.size bytes
  pub whole : length parts.records.now ≡ width v * parts.size
  pub room : 32 ≤ length parts.digest.now
  pub rest : 40 + width v * parts.size + length parts.digest.now ≡ length bytes
