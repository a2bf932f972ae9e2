-- What is reported of found positions.
use Rattle.std.specs.Prelude.{◌≡◌, ◌-◌, ℕ, Bool, true, false, List, map, length, take, ◌^◌, Option, None, Some}
use Rattle.std.specs.List.{All, AllZip}
use Rattle.gm_game.specs.declared.position.Position.{Position}
use Rattle.gm_game.specs.declared.position.Value.{Value}
use Rattle.gm_game.specs.declared.position.Value.TheVariants.{Draw}
use Rattle.gm_game.specs.Rules.{Rules}
use Rattle.gm_game.specs.Values.{IsTrueValue}
use Rattle.gm_play.specs.Reached.{AreAllHeld}
use Rattle.gm_play.specs.BestMoves.{IsBestMove}
use Rattle.gm_table.specs.Tables.{TableData}
use Rattle.gm_find.specs.declared.found.Found.{Found}
use Rattle.gm_find.specs.declared.sought.Sought.{Sought}
use Rattle.gm_find.specs.declared.sought.Choice.{Choice}
use Rattle.gm_find.specs.declared.sought.Choice.TheVariants.{First, Random, Sorted, Apart}
use Rattle.gm_find.specs.declared.tries.Tries.{Tries}
use Rattle.gm_find.specs.Tries.{IsTriesOf}
use Rattle.gm_find.specs.Samples.{IsSample}
use Rattle.gm_find.specs.Sorting.{IsRising}
use Rattle.gm_find.specs.Spreading.{IsInOrder, AreApartOf, IsImage}
use Rattle.gm_find.specs.Lists.{IsFirst}
use Rattle.gm_find.specs.Finding.{IsMatch, all_positions}

-- the tries of a position, where they are counted
abbrev pub AreTries : Rules → Position → Option Tries → Type 0
AreTries r p None = Unit {0}
AreTries r p (Some x) = IsTriesOf r p x

-- the true value of the position, its best move and the number of its moves, and its tries, where they are counted
pub record IsFound (r : Rules) (x : Found) : Type 0 where
  pub legal : r.is_legal x.position ≡ true
  pub value : IsTrueValue r x.position x.value
  pub best : IsBestMove r x.position x.best
  pub moves : x.moves ≡ length (r.moves x.position)
  pub tries : AreTries r x.position x.tries

-- the tries of a position of this value are counted if that is asked for; a draw has none
abbrev pub AreTriesAsked : Bool → Value → Option Tries → Type 0
AreTriesAsked false v o = o ≡ None
AreTriesAsked true v o = o ≡ None → v ≡ Draw

abbrev pub HasTriesAsked : Bool → Found → Type 0
HasTriesAsked asked x = AreTriesAsked asked x.value.value x.tries

abbrev pub found_position : Found → Position
found_position x = x.position

-- the first positions that are sought, at most this many, and what is reported of each
pub record AreFound (r : Rules) (q : Sought) (reached : Bool) (limit : ℕ) (tiers : List ℕ) (xs : List Found) : Type 0 where
  pub positions : IsFirst (IsMatch r q reached) limit (all_positions r tiers) (map found_position xs)
  pub each : All (IsFound r) xs
  pub counted : All (HasTriesAsked q.tries) xs

-- all positions that are sought, as far as a list can be long
abbrev pub AreAllSought : Rules → Sought → Bool → List ℕ → List Position → Type 0
AreAllSought r q reached tiers ps = IsFirst (IsMatch r q reached) (2 ^ 64 - 1) (all_positions r tiers) ps

-- the positions as they are, or with a seed a symmetric one in place of each, with its answers
abbrev pub AreTurned : Rules → Bool → Option ℕ → List Found → List Found → Type 0
AreTurned r tries None xs ys = ys ≡ xs
AreTurned r tries (Some seed) xs ys = AllZip (IsImage r) (map found_position xs) (map found_position ys) × All (IsFound r) ys × All (HasTriesAsked tries) ys

-- those of the positions that are sought that a choice takes: the first, or n of all of them in their order, or the first in rising order, or n that are apart
-- (or symmetric ones in their place), each with its answers
abbrev pub AreChosen : Rules → Sought → Bool → Choice → List ℕ → List Found → Type 0
AreChosen r q reached (First n) tiers xs = AreFound r q reached n tiers xs
AreChosen r q reached (Random n seed) tiers xs =
    (all : List Position) × AreAllSought r q reached tiers all × IsSample n all (map found_position xs) × All (IsFound r) xs
    × All (HasTriesAsked q.tries) xs
AreChosen r q reached (Sorted order n) tiers xs =
    (all : List Found) × (sorted : List Found) × AreFound r q reached (2 ^ 64 - 1) tiers all × IsRising order all sorted × (xs ≡ take n sorted)
AreChosen r q reached (Apart order k n seed turn) tiers xs =
    (all : List Found) × (ordered : List Found) × (apart : List Found) × AreFound r q reached (2 ^ 64 - 1) tiers all × IsInOrder order all ordered
    × AreApartOf r k n seed ordered apart × AreTurned r q.tries turn apart xs

-- a legal position, with tables of every tier that play from it can come to
abbrev pub IsKnownAt : Rules → List TableData → Position → Type 0
IsKnownAt r entries p = (r.is_legal p ≡ true) × AreAllHeld r entries p.tier
