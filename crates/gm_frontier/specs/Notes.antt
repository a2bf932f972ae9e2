-- Notes: positions with their values.
use Rattle.std.specs.Prelude.{◌≡◌, List, ◌≢◌}
use Rattle.std.specs.List.{flat_map}
use Rattle.gm_game.specs.declared.position.Position.{Position}
use Rattle.gm_game.specs.declared.position.Value.TheVariants.{Draw, Lose, Tie, Win}
use Rattle.gm_game.specs.declared.position.Phase.{Phase}
use Rattle.gm_game.specs.declared.position.Phase.TheVariants.{WinLose, Ties}
use Rattle.gm_game.specs.declared.position.Place.{Place}
use Rattle.gm_game.specs.Rules.{Rules, IsCanonical}
use Rattle.gm_game.specs.declared.position.Solved.{Solved}
use Rattle.gm_game.specs.declared.position.Value.{Value}
use Rattle.gm_game.specs.Values.{IsTrueValue}

-- what a note shows
pub record NoteData : Type 0 where
  pub position : Position
  pub solved : Solved

-- the phase in which a value is settled
abbrev pub phase_of : Value → Phase
phase_of Lose = WinLose
phase_of Draw = WinLose
phase_of Tie = Ties
phase_of Win = WinLose

-- a canonical position with its true value, which is no draw
pub record IsNote (r : Rules) (position : Position) (solved : Solved) : Type 0 where
  pub canonical : IsCanonical r position
  pub value : IsTrueValue r position solved
  pub decided : solved.value ≢ Draw

-- a note of this phase and remoteness
pub record IsNoteAt (r : Rules) (place : Place) (n : NoteData) : Type 0 where
  pub note : IsNote r n.position n.solved
  pub phase : phase_of n.solved.value ≡ place.phase
  pub level : n.solved.remoteness ≡ place.level

-- lists of notes, one after another
abbrev pub joined : List (List NoteData) → List NoteData
joined parts = flat_map (λ part. part) parts
