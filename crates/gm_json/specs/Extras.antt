-- What is reported of a position besides its value and its moves.
use Rattle.std.specs.Prelude.{◌≡◌, ℕ, ◌+◌, Bool, true, false, List, [], ◌∷◌, ◌++◌, map, codes, if◌then◌else◌, zero, suc}
use Rattle.std.specs.List.{flat_map}
use Rattle.serde_json.specs.Data.{Data, array, object, Members, member, no_members}
use Rattle.serde_json.specs.View.{items_of}
use Rattle.serde_json.specs.Written.{members_text}
use Rattle.gm_game.specs.declared.position.Position.{Position}
use Rattle.gm_game.specs.Rules.{Rules, at}
use Rattle.gm_play.specs.declared.best_line.BestLine.{BestLine}
use Rattle.gm_play.specs.BestLines.{IsBestLine, IsWhole}
use Rattle.gm_play.specs.Firsts.{is_same}
use Rattle.gm_json.specs.declared.asked.With.{With}
use Rattle.gm_json.specs.Words.{whole, text}

-- the most moves of a line
abbrev pub most_moves : ℕ
most_moves = 18446744073709551615

-- a member, or none
abbrev pub member_if : Bool → List ℕ → Data → Members → Members
member_if asked k d more = if asked then member k d more else more

-- the text goes on by a member if that is wanted: whatever members follow
abbrev pub AddsMember : Bool → List ℕ → Data → List ℕ → List ℕ → Type 0
AddsMember asked k d old new = (more : Members) → new ++ members_text true more ≡ old ++ members_text true (member_if asked k d more)

module _ (shown : Position → List ℕ) where
  -- a position with its place, and then more
  abbrev pub place_members : Position → Members → Members
  place_members p more =
      member (codes "index") (whole p.index)
      (member (codes "position") (text (shown p))
      (member (codes "tier") (whole p.tier) more))

  abbrev pub canonical_tree : Position → Data
  canonical_tree c = object (place_members c no_members)

  abbrev pub position_texts : List Position → Data
  position_texts ps = array (items_of (map (λ p. text (shown p)) ps))

module _ (r : Rules) where
  -- the canonical parents of a canonical position, tier by tier and by index
  abbrev pub parents_in : List ℕ → Position → List Position
  parents_in tiers c = flat_map (λ t. map (at t) (r.parents c t)) tiers

  -- this position is legal, and c stands for it
  abbrev pub is_of_class : Position → Position → Bool
  is_of_class c p = if r.is_legal p then is_same (r.canonical p) c else false

  -- how many of the first indexes of c's tier are those of positions that c represents
  abbrev pub class_below : Position → ℕ → ℕ
  class_below c zero = 0
  class_below c (suc n) = class_below c n + (if is_of_class c (at c.tier n) then 1 else 0)

  -- how many positions are symmetric to a canonical one, itself among them
  abbrev pub class_size : Position → ℕ
  class_size c = class_below c (r.tier_size c.tier)

module _ (r : Rules) (shown : Position → List ℕ) where
  -- the answer for a canonical position, in this order, and then more
  abbrev pub around : With → List ℕ → Position → Members → Members
  around w tiers c more =
      member_if w.canonical (codes "canonical") (canonical_tree shown c)
      (member_if w.parents (codes "parents") (position_texts shown (parents_in r tiers c))
      (member_if w.symmetric (codes "symmetric") (whole (class_size r c)) more))

module _ (r : Rules) (shown : Position → List ℕ) (move_shown : Position → ℕ → List ℕ) where
  -- the texts of moves that are made one after the other
  abbrev pub move_texts_along : Position → List ℕ → List Data
  move_texts_along p [] = []
  move_texts_along p (m ∷ ms) = text (move_shown p m) ∷ move_texts_along (r.play p m) ms

  -- the answer for a position
  abbrev pub extras : With → List ℕ → Position → List ℕ → Members
  extras w tiers p best = around r shown w tiers (r.canonical p) (member_if w.best (codes "best") (array (items_of (move_texts_along p best))) no_members)

-- the moves of the whole line of best play from p
abbrev pub AreBestMoves : Rules → Position → List ℕ → Type 0
AreBestMoves r p best = (line : BestLine) × IsBestLine r p most_moves line × IsWhole r p most_moves line × (best ≡ line.moves.items)
