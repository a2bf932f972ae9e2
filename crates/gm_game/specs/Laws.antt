-- What each game proves of its rules.
use Rattle.std.specs.Prelude.{◌≡◌, ◌≢◌, ℕ, ◌<◌, ◌≤◌, ◌^◌, ◌↔◌, true, [], length, None}
use Rattle.std.specs.List.{Contains}
use Rattle.gm_game.specs.declared.position.Position.{Position}
use Rattle.gm_game.specs.declared.limits.TheConstants.{MOVES, PARENTS, CHILD_TIERS, NAME}
use Rattle.gm_game.specs.Rules.{Rules, IsAscending, IsTierOrChild, IsCanonical, IsCanonicalChild, IsParent}
use Rattle.gm_game.specs.Texts.{IsPaddedText}

-- the laws of a game
pub record IsGame (r : Rules) : Type 0 where
  -- the name is a text, padded with zeros
  pub name_length : length r.name ≡ NAME
  pub name_text : IsPaddedText r.name
  -- moves are ascending and distinct; none at the end of a game, and elsewhere at least one
  pub moves_ascending : (p : Position) → r.is_legal p ≡ true → IsAscending (r.moves p)
  pub ended : (p : Position) → r.is_legal p ≡ true → r.primitive p ≢ None → r.moves p ≡ []
  pub unended : (p : Position) → r.is_legal p ≡ true → r.primitive p ≡ None → r.moves p ≢ []
  -- the start is legal; numbers fit; a move's result is legal
  pub initial_legal : r.is_legal r.initial ≡ true
  pub index_below : (p : Position) → r.is_legal p ≡ true → p.index < r.tier_size p.tier
  pub tier_fits : (p : Position) → r.is_legal p ≡ true → p.tier < 2 ^ 64
  pub size_fits : (p : Position) → r.is_legal p ≡ true → r.tier_size p.tier < 2 ^ 64
  pub move_fits : (p : Position) (m : ℕ) → r.is_legal p ≡ true → Contains (r.moves p) m → m < 2 ^ 32
  pub play_legal : (p : Position) (m : ℕ) → r.is_legal p ≡ true → Contains (r.moves p) m → r.is_legal (r.play p m) ≡ true
  -- a move stays in its tier or goes to a child tier, and a child tier has a smaller rank
  pub play_tier : (p : Position) (m : ℕ) → r.is_legal p ≡ true → Contains (r.moves p) m
      → IsTierOrChild r p.tier (r.play p m).tier
  pub child_rank : (t u : ℕ) → Contains (r.child_tiers t) u → r.tier_rank u < r.tier_rank t
  pub child_tiers_ascending : (t : ℕ) → IsAscending (r.child_tiers t)
  -- canonical is idempotent and keeps tier, legality and primitive value
  pub canonical_twice : (p : Position) → r.is_legal p ≡ true → r.canonical (r.canonical p) ≡ r.canonical p
  pub canonical_tier : (p : Position) → r.is_legal p ≡ true → (r.canonical p).tier ≡ p.tier
  pub canonical_legal : (p : Position) → r.is_legal p ≡ true → r.is_legal (r.canonical p) ≡ true
  pub canonical_primitive : (p : Position) → r.is_legal p ≡ true → r.primitive (r.canonical p) ≡ r.primitive p
  -- a position and its canonical position have the same canonical children
  pub canonical_children : (p c : Position) → r.is_legal p ≡ true → IsCanonicalChild r (r.canonical p) c ↔ IsCanonicalChild r p c
  -- the canonical parents, by index in a tier
  pub parents_ascending : (c : Position) (t : ℕ) → IsCanonical r c → IsAscending (r.parents c t)
  pub parents_exact : (c : Position) (t i : ℕ) → IsCanonical r c → Contains (r.parents c t) i ↔ IsParent r c t i
  -- the limits on lists
  pub moves_few : (p : Position) → r.is_legal p ≡ true → length (r.moves p) ≤ MOVES
  pub parents_few : (c : Position) (t : ℕ) → IsCanonical r c → length (r.parents c t) ≤ PARENTS
  pub child_tiers_few : (t : ℕ) → length (r.child_tiers t) ≤ CHILD_TIERS
