-- The store that the program builds over.
use Rattle.std.specs.Prelude.{◌≡◌, ℕ, ◌+◌, List, Option, Some, None, Bool, true, false, Result, IsOk, IsErrOf, string_bytes}
use Rattle.gm_tierdb.specs.declared.store_error.StoreError.{StoreError}
use Rattle.gm_tierdb.specs.declared.store_error.StoreError.TheVariants.{Failed}
pub use Rattle.gm_command.specs.Contents.{kept_at}
use Rattle.gamesman.specs.declared.shelf.Shelf.{Shelf}
use Rattle.gamesman.specs.declared.shelf.Shelf.TheVariants.{Folder, ReadOnly, Nowhere}

-- the number of calls that have failed
abbrev pub failed_in : Shelf → ℕ
failed_in (Folder s) = s.broken
failed_in (ReadOnly s) = s.inner.broken + s.refused
failed_in Nowhere = 0

-- the path of the folder that keeps the files, with whether it is only read; nothing if there are no files
abbrev pub kept_in : Shelf → Option (List ℕ × Bool)
kept_in (Folder s) = Some (string_bytes s.folder, false)
kept_in (ReadOnly s) = Some (string_bytes s.inner.folder, true)
kept_in Nowhere = None

-- a write: a folder that is only read is not written, and the write fails. For another folder nothing is promised
abbrev pub IsShelfWrite : {T : Type 0} → Shelf → Shelf → Result T StoreError → Type 0
IsShelfWrite (Folder s) new result = Unit {0}
IsShelfWrite (ReadOnly s) new result = IsErrOf result Failed × (kept_in new ≡ kept_in (ReadOnly s))
IsShelfWrite Nowhere new result = IsOk result × (new ≡ Nowhere)
