-- The positions that play from the start reaches.
use Rattle.std.specs.Prelude.{◌≡◌, ℕ, ◌↔◌, ◌⊎◌, List, [], ◌∷◌}
use Rattle.std.specs.List.{Contains}
use Rattle.gm_game.specs.declared.position.Position.{Position}
use Rattle.gm_game.specs.Rules.{Rules, IsCanonicalChild}
use Rattle.gm_play.specs.Lines.{position_after}

-- these moves can be played from p one after another
abbrev pub IsPlay : Rules → Position → List ℕ → Type 0
IsPlay r p [] = Unit {0}
IsPlay r p (m ∷ ms) = Contains (r.moves p) m × IsPlay r (r.play p m) ms

-- some line of play from the start ends in a position whose canonical position is this one
abbrev pub IsReachedByPlay : Rules → Position → Type 0
IsReachedByPlay r c = (ms : List ℕ) × IsPlay r r.initial ms × (r.canonical (position_after r r.initial ms) ≡ c)

-- the tier and index of a position
abbrev pub key_of : Position → ℕ × ℕ
key_of p = (p.tier, p.index)

-- these are the keys of exactly the positions that are reached
abbrev pub AreReachedKeys : Rules → List (ℕ × ℕ) → Type 0
AreReachedKeys r keys = (c : Position) → Contains keys (key_of c) ↔ IsReachedByPlay r c

-- a search in its midst: what is found or left to find is reached, the start among it; and so are the canonical children of all that is found and doesn't wait
pub record IsSearched (r : Rules) (keys : List (ℕ × ℕ)) (waiting left : List Position) : Type 0 where
  pub start : Contains keys (key_of (r.canonical r.initial)) ⊎ Contains left (r.canonical r.initial)
  pub sound : (c : Position) → Contains keys (key_of c) ⊎ Contains left c → IsReachedByPlay r c
  pub inside : (c : Position) → Contains waiting c → Contains keys (key_of c)
  pub closed : (c : Position) → Contains keys (key_of c)
      → Contains waiting c ⊎ ((d : Position) → IsCanonicalChild r c d → Contains keys (key_of d) ⊎ Contains left d)
