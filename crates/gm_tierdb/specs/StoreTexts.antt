-- The texts of a store, and what its calls do to them.
use Rattle.std.specs.Prelude.{◌≡◌, ◌≢◌, ℕ, ◌⊎◌, List, Bool, false, Option, None, Some, Result, Ok, Err}
use Rattle.gm_tierdb.specs.declared.store_error.StoreError.{StoreError}
use Rattle.gm_tierdb.specs.declared.store_error.StoreError.TheVariants.{OutOfMemory, Failed}

-- the text of each tier that has one
abbrev pub Texts : Type 0
Texts = ℕ → Option (List ℕ)

-- a store as its readers see it: its texts, which its reads return if that is promised
pub record StoreView : Type 0 where
  pub is_read : Bool
  pub texts : Texts

abbrev pub store_view : Bool → Texts → StoreView
store_view b ts = record { is_read = b; texts = ts }

-- nothing is known of the texts, as in a folder that others write to
abbrev pub unknown_texts : StoreView
unknown_texts = store_view false (λ _. None)

-- no text has changed
abbrev pub AreSame : Texts → Texts → Type 0
AreSame old new = (t : ℕ) → new t ≡ old t

-- no text but the tier's has changed
abbrev pub AreSameBut : ℕ → Texts → Texts → Type 0
AreSameBut tier old new = (t : ℕ) → t ≢ tier → new t ≡ old t

-- the tier has this text, and no other has changed
abbrev pub Sets : ℕ → List ℕ → Texts → Texts → Type 0
Sets tier bytes old new = (new tier ≡ Some bytes) × AreSameBut tier old new

-- the tier has its old text or this one, and no other has changed
abbrev pub MaySet : ℕ → List ℕ → Texts → Texts → Type 0
MaySet tier bytes old new = ((new tier ≡ old tier) ⊎ (new tier ≡ Some bytes)) × AreSameBut tier old new

-- how many failures of the store an answer tells of: 1 for `Failed`, and else 0
abbrev pub failures_of : {T : Type 0} → Result T StoreError → ℕ
failures_of (Ok x) = 0
failures_of (Err OutOfMemory) = 0
failures_of (Err Failed) = 1

-- the numbers of the errors
abbrev pub error_number : StoreError → ℕ
error_number OutOfMemory = 1
error_number Failed = 2
