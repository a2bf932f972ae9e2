-- How many positions of some tiers have each value and remoteness.
use Rattle.std.specs.Prelude.{◌≡◌, ℕ, ◌+◌, ◌<◌, ◌≤◌, ◌↔◌, List, ◌++◌, Bool, true, IsTrue, Option, None, Some, length, vec_len, slice_index_or}
use Rattle.std.specs.List.{Contains, AllPairs}
use Rattle.gm_game.specs.declared.position.Position.{Position}
use Rattle.gm_game.specs.declared.position.Value.{Value}
use Rattle.gm_game.specs.declared.position.Value.TheVariants.{Lose, Draw, Tie, Win}
use Rattle.gm_game.specs.declared.position.Solved.{Solved}
use Rattle.gm_game.specs.declared.limits.TheConstants.{REMOTENESS}
use Rattle.gm_game.specs.Rules.{Rules, IsCanonical}
use Rattle.gm_find.specs.Finding.{all_positions}
use Rattle.gm_find.specs.Reaching.{IsReachedByPlay}
use Rattle.gm_game.specs.Values.{HasValue, IsTrueValue}
use Rattle.gm_find.specs.Lists.{AreThose}
use Rattle.gm_analyse.specs.declared.among.Among.{Among}
use Rattle.gm_analyse.specs.declared.among.Among.TheVariants.{Canonical, Legal}
use Rattle.gm_analyse.specs.declared.counts.Count.{Count}
use Rattle.gm_analyse.specs.declared.numbers.Numbers.{Numbers}
use Rattle.gm_analyse.specs.Listing.{IsCountBefore, counted}

-- the positions that are counted: the canonical ones, or all legal ones
abbrev pub IsAmong : Rules → Among → Position → Type 0
IsAmong r Canonical p = IsCanonical r p
IsAmong r Legal p = r.is_legal p ≡ true

-- one of those with this value and remoteness; where only reached positions are asked for, one whose canonical position play reaches
pub record IsCounted (r : Rules) (among : Among) (reached : Bool) (v : Value) (n : ℕ) (p : Position) : Type 0 where
  pub stands : IsAmong r among p
  pub value : HasValue r p v n
  pub reaches : IsTrue reached → IsReachedByPlay r (r.canonical p)

-- this many of these positions are counted
abbrev pub IsNumber : Rules → Among → Bool → List Position → Value → ℕ → ℕ → Type 0
IsNumber r among reached ps v n k = (those : List Position) × AreThose (IsCounted r among reached v n) ps those × (length those ≡ k)

-- some of these positions have the value and remoteness of the count, and its number is how many
abbrev pub IsCount : Rules → Among → Bool → List Position → Count → Type 0
IsCount r among reached ps c = IsNumber r among reached ps c.value c.remoteness c.number × (0 < c.number)

-- the counts of each value and remoteness that some of the positions of these tiers have, in the order Lose, Draw, Tie, Win, then by remoteness
pub record AreCounts (r : Rules) (among : Among) (reached : Bool) (tiers : List ℕ) (counts : List Count) : Type 0 where
  pub ordered : AllPairs IsCountBefore counts
  pub exact : (c : Count) → Contains counts c ↔ IsCount r among reached (all_positions r tiers) c

-- for each remoteness, how many of these positions are counted with this value: none past the end of the list
abbrev pub AreNumbers : Rules → Among → Bool → Value → List Position → List ℕ → Type 0
AreNumbers r among reached v ps numbers = (n : ℕ) → IsNumber r among reached ps v n (slice_index_or numbers n 0)

-- of these lists the one of a value
abbrev pub numbers_for : Value → Numbers → List ℕ
numbers_for Lose numbers = numbers.lose.items
numbers_for Draw numbers = numbers.draw.items
numbers_for Tie numbers = numbers.tie.items
numbers_for Win numbers = numbers.win.items

-- the counts above 0 of these lists
abbrev pub all_counted : Numbers → List Count
all_counted numbers =
    ((counted Lose 0 numbers.lose.items ++ counted Draw 0 numbers.draw.items) ++ counted Tie 0 numbers.tie.items) ++ counted Win 0 numbers.win.items

-- for each value and remoteness, how many of these positions are counted
abbrev pub AreAllNumbers : Rules → Among → Bool → List Position → Numbers → Type 0
AreAllNumbers r among reached ps numbers = (v : Value) → AreNumbers r among reached v ps (numbers_for v numbers)

-- none of the lists goes past the greatest remoteness
abbrev pub AreShort : Numbers → Type 0
AreShort numbers = (vec_len numbers.lose ≤ REMOTENESS + 1) × (vec_len numbers.draw ≤ REMOTENESS + 1)
    × (vec_len numbers.tie ≤ REMOTENESS + 1) × (vec_len numbers.win ≤ REMOTENESS + 1)

-- the value and remoteness with which a position is counted, if it is counted
abbrev pub IsCountedAs : Rules → Among → Bool → Position → Option Solved → Type 0
IsCountedAs r among reached p None = (v : Value) (n : ℕ) → IsCounted r among reached v n p → ⊥
IsCountedAs r among reached p (Some s) = IsCounted r among reached s.value s.remoteness p × (s.remoteness ≤ REMOTENESS)

-- the true value of one of those positions, within the limit; none for any other position
abbrev pub IsRecordAmong : Rules → Among → Position → Option Solved → Type 0
IsRecordAmong r among p None = IsAmong r among p → ⊥
IsRecordAmong r among p (Some s) = IsAmong r among p × IsTrueValue r p s × (s.remoteness ≤ REMOTENESS)

-- no position of the value is counted, or this is the greatest remoteness of one
abbrev pub IsGreatest : Rules → Among → Bool → Value → List Position → Option ℕ → Type 0
IsGreatest r among reached v ps None = (p : Position) (n : ℕ) → Contains ps p → IsCounted r among reached v n p → ⊥
IsGreatest r among reached v ps (Some n) = ((p : Position) × Contains ps p × IsCounted r among reached v n p)
    × ((p : Position) (m : ℕ) → Contains ps p → IsCounted r among reached v m p → m ≤ n)
