-- The canonical children of a position, once each, and what the tables of the child tiers say of them.
use Rattle.std.specs.Prelude.{◌≡◌, ◌≢◌, ℕ, ◌≤◌, Bool, true, false, List, length, map, IfSome, AllPairs, ◌%◌, slice_index_or}
use Rattle.std.specs.List.{Contains, filter}
use Rattle.gm_game.specs.declared.limits.TheConstants.{REMOTENESS}
use Rattle.gm_game.specs.declared.position.Position.{Position}
use Rattle.gm_game.specs.Rules.{Rules}
use Rattle.gm_game.specs.Children.{AreResults}
use Rattle.gm_game.specs.Records.{IsKnown}
use Rattle.gm_table.specs.declared.summary.Summary.{Summary}
use Rattle.gm_table.specs.Tables.{TableData, value_in}
use Rattle.gm_table.specs.inner.Shorts.{IsSummary, is_decided}

-- no position twice
abbrev pub IsOnce : List Position → Type 0
IsOnce ps = AllPairs (λ p q. p ≢ q) ps

-- each of these positions is marked, at the last byte of its index
abbrev pub AreMarked : List Bool → List Position → Type 0
AreMarked marks ps = (p : Position) → Contains ps p → slice_index_or marks (p.index % 1024) false ≡ true

-- the list has exactly the canonical children of p, once each and in any order
pub record AreOnce (r : Rules) (p : Position) (cs : List Position) : Type 0 where
  pub exact : AreResults r p cs
  pub once : IsOnce cs

-- the tables know these positions, these are their records, and this is the number of those that are not draws
pub record IsGathered (r : Rules) (entries : List TableData) (cs : List Position) (seen : Summary) (number : ℕ) : Type 0 where
  pub known : (c : Position) → Contains cs c → IsKnown r (value_in r entries) c
  pub near : (c : Position) → Contains cs c → IfSome (value_in r entries c) (λ s. s.remoteness ≤ REMOTENESS)
  pub summary : IsSummary (map (value_in r entries) cs) seen
  pub decided : number ≡ length (filter (λ c. is_decided (value_in r entries c)) cs)
