-- Levels, and the runs that they are made of.
use Rattle.std.specs.Prelude.{◌≡◌, ℕ, ◌<◌, ◌≤◌, ◌↔◌, Bool, List, [], ◌∷◌, map, length, nat_lt, ◌==◌, if◌then◌else◌, true, false}
use Rattle.std.specs.List.{Contains, AllByRecursion}
use Rattle.gm_game.specs.declared.position.Position.{Position}
use Rattle.gm_game.specs.declared.position.Phase.{Phase}
use Rattle.gm_game.specs.declared.position.Place.{Place}
use Rattle.gm_game.specs.declared.limits.TheConstants.{TIER_SIZE}
use Rattle.gm_game.specs.Rules.{Rules, IsCanonical}
use Rattle.gm_game.specs.Children.{is_before}
use Rattle.gm_game.specs.Places.{StandsAt, IsAtLevel}
use Rattle.gm_frontier.specs.Notes.{NoteData, IsNoteAt}

-- what a run shows: the notes of a place in an index range
pub record RunData : Type 0 where
  pub place : Place
  pub lo : ℕ
  pub hi : ℕ
  pub notes : List NoteData

-- what a level shows: the notes of a place in a tier and its child tiers
pub record LevelData : Type 0 where
  pub place : Place
  pub notes : List NoteData

abbrev pub place_at : ℕ → Phase → ℕ → Place
place_at tier phase level = record { tier = tier; phase = phase; level = level }

abbrev pub positions : List NoteData → List Position
positions notes = map (λ n. n.position) notes

-- a position of the tier with an index in this range, which is at the place
pub record IsInRun (r : Rules) (place : Place) (lo hi : ℕ) (c : Position) : Type 0 where
  pub tier : c.tier ≡ place.tier
  pub low : lo ≤ c.index
  pub high : c.index < hi
  pub canonical : IsCanonical r c
  pub stands : StandsAt r place.phase place.level c

-- a position of this tier, which is at the place
pub record IsInTier (r : Rules) (place : Place) (t : ℕ) (c : Position) : Type 0 where
  pub tier : c.tier ≡ t
  pub canonical : IsCanonical r c
  pub stands : StandsAt r place.phase place.level c

-- each position comes before all later ones
abbrev pub AreInOrder : (Position → Position → Bool) → List Position → Type 0
AreInOrder comes_before [] = Unit {0}
AreInOrder comes_before (p ∷ ps) = AllByRecursion (λ q. comes_before p q ≡ true) ps × AreInOrder comes_before ps

-- the notes are those of the positions of a kind, which are at the place, once each and in this order
pub record AreNotesOf (r : Rules) (place : Place) (Is : Position → Type 0) (comes_before : Position → Position → Bool) (notes : List NoteData) : Type 0 where
  pub each : (c : Position) → Is c ↔ Contains (positions notes) c
  pub noted : (n : NoteData) → Contains notes n → IsNoteAt r place n
  pub ordered : AreInOrder comes_before (positions notes)

-- the order of a level: the tier's own positions by index, and then those of other tiers, by tier and index
abbrev pub comes_first : ℕ → Position → Position → Bool
comes_first tier p q =
    if p.tier == tier then (if q.tier == tier then nat_lt p.index q.index else true) else (if q.tier == tier then false else is_before p q)

-- all notes of the place in an index range of its tier, ascending
abbrev pub IsRunOfNotes : Rules → Place → ℕ → ℕ → List NoteData → Type 0
IsRunOfNotes r place lo hi notes = AreNotesOf r place (IsInRun r place lo hi) is_before notes

-- all notes of the place in its tier and the child tiers, the tier's own first
abbrev pub IsLevel : Rules → Place → List NoteData → Type 0
IsLevel r place notes = AreNotesOf r place (IsAtLevel r place.tier place.phase place.level) (comes_first place.tier) notes

-- all notes of the place in a tier within the limit, ascending
pub record IsChildPart (r : Rules) (place : Place) (t : ℕ) (notes : List NoteData) : Type 0 where
  pub small : r.tier_size t ≤ TIER_SIZE
  pub whole : AreNotesOf r place (IsInTier r place t) is_before notes

-- each of these runs has all notes of its place in its range
abbrev pub AreRuns : Rules → List RunData → Type 0
AreRuns r runs = (run : RunData) → Contains runs run → IsRunOfNotes r run.place run.lo run.hi run.notes

-- the runs are of one place, and their ranges follow one another from one index up to another
abbrev pub AreTiles : Place → ℕ → ℕ → List RunData → Type 0
AreTiles place from to [] = from ≡ to
AreTiles place from to (run ∷ runs) = (run.place ≡ place) × (run.lo ≡ from) × (from ≤ run.hi) × AreTiles place run.hi to runs

-- a level of a tier within the limit, and how many notes it has
pub record IsWholeLevel (r : Rules) (l : LevelData) (len : ℕ) : Type 0 where
  pub level : IsLevel r l.place l.notes
  pub small : r.tier_size l.place.tier ≤ TIER_SIZE
  pub count : len ≡ length l.notes

-- no canonical position of the tier has a value of the place's phase with its remoteness or more
abbrev pub IsBelow : Rules → Place → ℕ → Type 0
IsBelow r place t = (c : Position) (m : ℕ) → c.tier ≡ t → IsCanonical r c → StandsAt r place.phase m c → m < place.level

-- no canonical position of a child tier has a value of the place's phase with its remoteness or more
abbrev pub AreBelow : Rules → Place → Type 0
AreBelow r place = (t : ℕ) → Contains (r.child_tiers place.tier) t → IsBelow r place t
