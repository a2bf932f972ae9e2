-- Words that proofs here use.
pub use Rattle.gm_game.specs.Rules.{Rules}
pub use Rattle.gm_game.specs.declared.limits.TheConstants.{NAME}
pub use Rattle.gm_game.specs.declared.position.Solved.{Solved}
pub use Rattle.gm_table.specs.RecordCodes.{IsStorable, record_bytes, record_width, width}
pub use Rattle.gm_table.specs.Tables.{record_at}
pub use Rattle.gm_table.specs.declared.version.Version.{Version}
pub use Rattle.gm_table.specs.declared.version.Version.TheVariants.{One, Two}
pub use Rattle.gm_tierdb.specs.Refusals.{AreDecoded, HasHeader, file_len, records_part}
pub use Rattle.gm_tierdb.specs.TierText.{AreFileRecords, IsVersionText, magic}
pub use Rattle.sha2.specs.Sha256.{sha256}
pub use Rattle.std.proofs.Common.{All, Err, IfErr, List, None, Ok, Option, Result, [], ap, append-nil, append_assoc, arith, drop, length, length-append, refl, rules, subst, sym, take, ℕ, ◌++◌, ◌+◌, ◌-◌, ◌<◌, ◌∙◌, ◌∷◌, ◌≡◌, ◌≤◌}
pub use Rattle.std.proofs.lemmas.List.{take-take}
pub use Rattle.std.specs.Int.{to_le_bytes}
pub use Rattle.std.specs.Io.KnownBytes.{Appends}
pub use Rattle.std.specs.List.{flat_map}
