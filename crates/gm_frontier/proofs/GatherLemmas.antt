-- What is gathered is a level, and not too long.
use Rattle.gm_frontier.proofs.Lower.{◌≡◌, ℕ, ◌+◌, ◌<◌, ◌≤◌, inl, inr, List, [], ◌∷◌, ◌++◌, map, length, sym, ap, subst, ◌∙◌, arith, Contains, flat_map, length-map, Position, Place, TIER_SIZE, Rules, at, IsGame, contains_first, contains_later, map_from, TableData, numbers_from, NoteData, RunData, positions, IsLevel, IsChildPart, AreRuns, notes_of_tier}
use Rattle.gm_game.proofs.Counts.{no_longer}
use Rattle.gm_frontier.specs.Levels.{AreTiles}
use Rattle.std.proofs.Math.Nat.{mul-le-mul_left}
use Rattle.gm_game.specs.declared.limits.TheConstants.{CHILD_TIERS}
use Rattle.gm_game.specs.Rules.{IsTierOrChild}
use Rattle.std.proofs.Common.{◌*◌}
use Rattle.gm_table.proofs.Distinct.{flat_map_has}
use Rattle.gm_frontier.proofs.CountLemmas.{length-numbers_from, numbers_have, flat_map_few}
use Rattle.gm_frontier.proofs.LevelLemmas.{tiled_run, level_joined}
use Rattle.gm_frontier.proofs.PairLemmas.{positions_once}

-- the positions of a tier with an index below a number
abbrev positions_below : ℕ → ℕ → List Position
positions_below most tier = map (at tier) (numbers_from 0 most)

length-positions_below : (most tier : ℕ) → length (positions_below most tier) ≤ most
length-positions_below most tier =
    let a = length-map (numbers_from 0 most) (at tier) in
    let b = length-numbers_from 0 most in
    omega arith

-- a level has no more notes than its tiers have indexes
pub level_few : (r : Rules) → IsGame r → (place : Place) (notes : List NoteData) → IsLevel r place notes → (most : ℕ)
    → ((t : ℕ) → IsTierOrChild r place.tier t → r.tier_size t ≤ most) → length notes ≤ most * (CHILD_TIERS + 1)
level_few r g place notes level most small =
    let tiers = place.tier ∷ r.child_tiers place.tier in
    let listed : (c : Position) → Contains (positions notes) c → Contains (flat_map (positions_below most) tiers) c = λ c h.
    (let (canonical, near, stands) = (level.each c).1 h in
    let below : c.index < r.tier_size c.tier = g.index_below c canonical.0 in
    let few = small c.tier near in
    let among : Contains tiers c.tier = elim near [
      | inl e ↦ subst (λ (t : ℕ). Contains tiers t) (sym e) (contains_first place.tier (r.child_tiers place.tier))
      | inr l ↦ contains_later place.tier c.tier (r.child_tiers place.tier) l
    ] in
    flat_map_has (positions_below most) tiers c.tier c among
    (map_from (at c.tier) (numbers_from 0 most) c.index (numbers_have 0 most c.index (omega arith) (omega arith)))) in
    let a = no_longer (positions notes) (flat_map (positions_below most) tiers) (positions_once r g place notes level) listed in
    let b = flat_map_few (positions_below most) most tiers (length-positions_below most) in
    let c = length-map notes (λ (n : NoteData). n.position) in
    let d = g.child_tiers_few place.tier in
    let e : most * length tiers ≤ most * (CHILD_TIERS + 1) = mul-le-mul_left most (omega arith) in
    omega arith

-- the runs' notes and then the child tiers'
pub gathered : (r : Rules) → IsGame r → (place : Place) (runs : List RunData) → AreTiles place 0 (r.tier_size place.tier) runs
    → r.tier_size place.tier ≤ TIER_SIZE → AreRuns r runs
    → (entries : List TableData) (tiers : List ℕ) → tiers ≡ r.child_tiers place.tier
    → ((t : ℕ) → Contains tiers t → IsChildPart r place t (notes_of_tier entries place t))
    → (none first all : List NoteData) → none ≡ [] → first ≡ none ++ flat_map (λ run. run.notes) runs
    → all ≡ first ++ flat_map (notes_of_tier entries place) tiers
    → IsLevel r place all × (length all ≤ TIER_SIZE * (CHILD_TIERS + 1))
gathered r g place runs tiles small whole entries tiers listed parts none first all e f h =
    let own = flat_map (λ (run : RunData). run.notes) runs in
    let below = flat_map (notes_of_tier entries place) in
    let children : (t : ℕ) → Contains (r.child_tiers place.tier) t → IsChildPart r place t (notes_of_tier entries place t) =
    λ t l. parts t (subst (λ (ts : List ℕ). Contains ts t) (sym listed) l) in
    let is : all ≡ own ++ below (r.child_tiers place.tier) =
    h ∙ ap (λ (ts : List ℕ). first ++ below ts) listed ∙ ap (λ (xs : List NoteData). xs ++ below (r.child_tiers place.tier))
    (f ∙ ap (λ (xs : List NoteData). xs ++ own) e) in
    let level : IsLevel r place all = subst (IsLevel r place) (sym is)
    (level_joined r g place own (notes_of_tier entries place) (tiled_run r place 0 (r.tier_size place.tier) runs tiles whole)
    (λ t l. (children t l).whole)) in (
      level,
      level_few r g place all level TIER_SIZE
          (λ t near. elim near [ inl same ↦ subst (λ (u : ℕ). r.tier_size u ≤ TIER_SIZE) (sym same) small | inr l ↦ (children t l).small ]),
    )
