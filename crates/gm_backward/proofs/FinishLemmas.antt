-- What the coordinator makes up for at the end of a level.
use Rattle.gm_backward.proofs.Lower.{◌≡◌, ℕ, ◌≤◌, List, sym, ap, subst, ◌∙◌, arith, REMOTENESS, Place, Rules, IsGame, NoteData, pairs_of, piece_of, Spot, IsTooFar}
use Rattle.gm_counters.specs.declared.status.Refused.TheVariants.{TooFar}
use Rattle.gm_locks.specs.Rounds.{IsLevelAt}
use Rattle.gm_locks.specs.Pieces.{piece_pairs, IsRefusedAt}
use Rattle.gm_frontier.specs.Levels.{LevelData}
use Rattle.gm_backward.proofs.Far.{refused_far}

-- a pair of the place that was refused tells of a position one above the limit
pub refused_at_far : (r : Rules) → IsGame r → (spot : Spot) → IsRefusedAt r spot → spot.level ≤ REMOTENESS → IsTooFar r spot.tier
refused_at_far r g spot h near =
    let here : h.state.level ≤ REMOTENESS = (let e = ap (λ (s : Spot). s.level) h.spot in omega arith) in
    subst (λ (s : Spot). IsTooFar r s.tier) h.spot (refused_far r g h.state h.state h.pair TooFar h.here h.good here h.event)

-- the pairs of a piece of a level at the spot
pub piece_is : (r : Rules) (l : LevelData) (spot : Spot) (notes : List NoteData) (n size piece lo hi : ℕ) (pairs : List (NoteData × ℕ))
    → IsLevelAt l spot notes → lo ≡ spot.lo → hi ≡ spot.hi → size ≡ n
    → pairs ≡ pairs_of r l.place.tier lo hi (piece_of piece n l.notes) → pairs ≡ piece_pairs r spot notes size piece
piece_is r l spot notes n size piece lo hi pairs at from to cut is =
    let tier : l.place.tier ≡ spot.tier = ap (λ (p : Place). p.tier) at.place in
    is ∙ ap (λ (t : ℕ). pairs_of r t lo hi (piece_of piece n l.notes)) tier ∙ ap (λ (m : ℕ). pairs_of r spot.tier m hi (piece_of piece n l.notes)) from
    ∙ ap (λ (m : ℕ). pairs_of r spot.tier spot.lo m (piece_of piece n l.notes)) to ∙ ap (λ (ns : List NoteData). piece_pairs r spot ns n piece) at.notes_are
    ∙ ap (λ (m : ℕ). piece_pairs r spot notes m piece) (sym cut)
