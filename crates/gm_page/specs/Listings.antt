-- The positions of a page: those of best play, and then those that play reaches, the near ones first.
use Rattle.std.specs.Prelude.{◌≡◌, ℕ, ◌-◌, ◌<◌, Bool, ◌&&◌, nat_le, List, [], ◌∷◌, ◌++◌, map, length, take, slice_get, if◌then◌else◌, Option, None, Some, is_some, zero, suc, ◌+◌, nat_eq, get_or}
use Rattle.std.specs.HashMap.{get, HashMap}
use Rattle.std.specs.List.{Contains}
use Rattle.gm_game.specs.declared.position.Position.{Position}
use Rattle.gm_game.specs.Children.{is_same}
use Rattle.gm_game.specs.Rules.{Rules, at}
use Rattle.gm_play.specs.declared.best_line.BestLine.{BestLine}
use Rattle.gm_play.specs.declared.move_values.MoveValue.{MoveValue}
use Rattle.gm_play.specs.BestLines.{IsBestLine}
use Rattle.gm_play.specs.MoveValues.{AreMoveValues}
use Rattle.gm_find.specs.Reaching.{IsPlay}
use Rattle.gm_play.specs.Lines.{position_after}

-- ---- places
-- the place of a position in a list whose first place has this number
abbrev pub place_from : ℕ → List Position → Position → Option ℕ
place_from n [] p = None
place_from n (q ∷ qs) p = if is_same p q then Some n else place_from (n + 1) qs p

-- the place of a position in a list, from 0
abbrev pub place_of : List Position → Position → Option ℕ
place_of ps p = place_from 0 ps p

-- whether two keys are equal
abbrev pub is_key : ℕ × ℕ → ℕ × ℕ → Bool
is_key a b = nat_eq a.0 b.0 && nat_eq a.1 b.1

-- the map has for each listed position its place, and nothing for any other
abbrev pub Tells : {S : Type 0} → HashMap (ℕ × ℕ) ℕ S → List Position → Type 0
Tells places ps = (k : ℕ × ℕ) → get is_key places k ≡ place_of ps (at k.0 k.1)

-- ---- lists that grow
-- a list with one more position, unless it is already in the list or the list has reached the limit
abbrev pub with_new : ℕ → List Position → Position → List Position
with_new limit old p = if is_some (place_of old p) then old else (if nat_le limit (length old) then old else old ++ p ∷ [])

-- a list with each of these positions, one after the other
abbrev pub with_all : ℕ → List Position → List Position → List Position
with_all limit old [] = old
with_all limit old (p ∷ ps) = with_all limit (with_new limit old p) ps

-- the result of a move
abbrev pub result_of : MoveValue → Position
result_of x = x.position

-- the list after its first k positions have been processed, beginning with these: the results of the moves of each have been added, the best first
abbrev pub IsListedAfter : Rules → ℕ → List Position → ℕ → List Position → Type 0
IsListedAfter r limit line zero all = all ≡ with_all limit [] line
IsListedAfter r limit line (suc k) all =
    (old : List Position) × (p : Position) × (xs : List MoveValue) × IsListedAfter r limit line k old × (slice_get old k ≡ Some p)
    × AreMoveValues r p xs × (all ≡ with_all limit old (map result_of xs))

-- the listing of a position: the positions of the line of best play from it, each once, and then the results of the moves of each listed position, up to the
-- limit; all of its positions have been processed
pub record IsListing (r : Rules) (start : Position) (limit : ℕ) (all : List Position) : Type 0 where
  pub line : BestLine
  pub is_best : IsBestLine r start (limit - 1) line
  pub gone_through : IsListedAfter r limit line.positions.items (length all) all

-- ---- properties of a listing
-- some line of play from the start ends in this position
abbrev pub IsReachedFrom : Rules → Position → Position → Type 0
IsReachedFrom r start p = (ms : List ℕ) × IsPlay r start ms × (position_after r start ms ≡ p)

-- each position but the first is the result of a move of an earlier one
abbrev pub ComesFromEarlier : Rules → List Position → Type 0
ComesFromEarlier r all = (j : ℕ) (d : Position) → 0 < j → j < length all
    → (p : Position) × (m : ℕ) × Contains (take j all) p × Contains (r.moves p) m × (r.play p m ≡ get_or all j d)

-- each result of a move of a listed position is listed
abbrev pub IsClosed : Rules → List Position → Type 0
IsClosed r all = (p : Position) (m : ℕ) → Contains all p → Contains (r.moves p) m → Contains all (r.play p m)
