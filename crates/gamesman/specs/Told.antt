-- The output of a command that is not about one position, and the reason for a refusal.
use Rattle.std.specs.Prelude.{◌≡◌, ℕ, ◌⊎◌, List, Option, Result, Ok, Err, IfErr}
use Rattle.std.specs.Io.KnownBytes.{Appends}
use Rattle.gm_game.specs.Rules.{Rules}
use Rattle.gm_tiers.specs.Reach.{IsReached}
use Rattle.gm_play.specs.Places.{IsRefusedAt}
use Rattle.gm_play.specs.Sessions.{AppendsPart}
use Rattle.gm_play.specs.declared.places.PlaceError.TheVariants.{NoSuchTier as NoTier, NoSuchIndex as NoIndex, NotLegal as Illegal, NotCanonical as Uncanonical}
use Rattle.gamesman.specs.declared.fault.Fault.{Fault}
use Rattle.gamesman.specs.declared.fault.Fault.TheVariants.{NoSuchTier, NoSuchIndex, NotLegal, NotCanonical, OutOfMemory}
use Rattle.gamesman.specs.Outputs.{IsOutputFault, IsWritten}
use Rattle.gamesman.specs.Refusals.{IsUnbuilt}

-- memory is refused
abbrev pub IsMemoryFault : Fault → Type 0
IsMemoryFault (OutOfMemory error) = Unit {0}
IsMemoryFault _ = ⊥

-- the tier is not one of the game
abbrev pub IsNoTier : Rules → ℕ → Fault → Type 0
IsNoTier r tier (NoSuchTier t) = (t ≡ tier) × (IsReached r tier → ⊥)
IsNoTier r tier _ = ⊥

-- the reason why this tier and index have no canonical position
abbrev pub IsNoPlace : Rules → ℕ → ℕ → Fault → Type 0
IsNoPlace r tier index (NoSuchTier t) = (t ≡ tier) × IsRefusedAt r tier index NoTier
IsNoPlace r tier index (NoSuchIndex t i) = (t ≡ tier) × (i ≡ index) × IsRefusedAt r tier index NoIndex
IsNoPlace r tier index (NotLegal t i) = (t ≡ tier) × (i ≡ index) × IsRefusedAt r tier index Illegal
IsNoPlace r tier index (NotCanonical t i) = (t ≡ tier) × (i ≡ index) × IsRefusedAt r tier index Uncanonical
IsNoPlace r tier index _ = ⊥

-- a requested tier is not known to be one of the game: it isn't, or the order of the game's tiers could not be made
abbrev pub IsUnknown : Rules → ℕ → Fault → Type 0
IsUnknown r tier fault = IsUnbuilt r r.initial.tier fault ⊎ IsNoTier r tier fault

-- a text is written, or a first part of it if a write failed
abbrev pub IsPut : List ℕ → Option (List ℕ) → Option (List ℕ) → Result ℕ Fault → Type 0
IsPut text before after (Ok status) = (status ≡ 0) × Appends before after text
IsPut text before after (Err fault) = IsOutputFault fault × AppendsPart before after text

-- such a text is written, or the output is that after a fault; if no write failed, with the reason for the refusal
pub record IsTold (IsText : List ℕ → Type 0) (IsWhy : Fault → Type 0) (before after : Option (List ℕ)) (result : Result ℕ Fault) : Type 0 where
  pub written : IsWritten IsText before after result
  pub refused : IfErr result (λ fault. IsOutputFault fault ⊎ IsWhy fault)
