-- What is known once the levels of both phases are passed.
use Rattle.gm_backward.proofs.Lower.{◌≡◌, ℕ, inl, inr, List, subst, arith, Option, REMOTENESS, Position, Solved, Phase, WinLose, Ties, Place, Rules, at, IsGame, IsTrueTable, StandsBefore, AreHeld, IsNumberBefore}
use Rattle.gm_game.specs.Values.{IsTrueValue}
use Rattle.gm_game.specs.Places.{StandsAt, IsPlaceBefore, IsLastLevel, IsNear}
use Rattle.gm_table.specs.Tables.{TableData, AreTables}
use Rattle.gm_frontier.specs.Counts.{IsPairInto}
use Rattle.gm_table.specs.Solving.{IsDelivery, AreDeliveries}
use Rattle.gm_frontier.proofs.PairLemmas.{near_of_pair}
use Rattle.gm_locks.proofs.Places.{stands_no_draw, value_place}
use Rattle.gm_table.proofs.ValueLemmas.{canonical_record}
use Rattle.gm_backward.proofs.Far.{child_known}
use Rattle.gm_immediate.proofs.Deliveries.{there_same}

module _ (r : Rules) (g : IsGame r) (entries : List TableData) (tables : AreTables r entries) (tier : ℕ) (held : AreHeld r entries tier)
    (records : List (Option Solved)) (is_true : IsTrueTable r REMOTENESS tier records)
    (level : ℕ) (last : IsLastLevel r tier Ties level) where
  known : (c : Position) → IsNear r tier c → (x : Solved) × IsTrueValue r c x
  known c (canonical, inl e) = let (x, is, value, near) = canonical_record r g tier records is_true c canonical e in (x, value)
  known c (canonical, inr k) = let (x, value, near) = child_known r g entries tables tier held c canonical k in (x, value)

  before_end : (phase : Phase) (n : ℕ) (c : Position) → IsNear r tier c → StandsAt r phase n c → IsPlaceBefore phase n Ties level
  before_end WinLose n c near stands = tt
  before_end Ties n c near stands = last c n near stands

  -- the pairs whose child is no draw are those that were counted
  counted : (pair : Position × ℕ) → (IsPairInto r tier 0 (r.tier_size tier) pair.0 pair.1 × StandsBefore r Ties level pair.0) → IsDelivery r tier pair
  counted pair (into, before) = record { is_parent = into.is_parent; no_draw = stands_no_draw r pair.0 before.own_phase before.own_level before.stands }

  uncounted : (pair : Position × ℕ) → IsDelivery r tier pair → IsPairInto r tier 0 (r.tier_size tier) pair.0 pair.1 × StandsBefore r Ties level pair.0
  uncounted pair d =
      let near = near_of_pair r g tier pair.1 pair.0 d.is_parent in
      let (x, value) = known pair.0 near in
      let (phase, stands) = value_place r pair.0 x.value x.remoteness value d.no_draw in
      let high = g.index_below (at tier pair.1) d.is_parent.0.legal in (
        record { low = omega arith; high = high; is_parent = d.is_parent },
        record { own_phase = phase; own_level = x.remoteness; stands = stands; before = before_end phase x.remoteness pair.0 near stands },
      )

  pub all_deliveries : (number : ℕ) → IsNumberBefore r tier 0 (r.tier_size tier) Ties level number → AreDeliveries r tier number
  all_deliveries number are =
      there_same number (λ (pair : Position × ℕ). IsPairInto r tier 0 (r.tier_size tier) pair.0 pair.1 × StandsBefore r Ties level pair.0)
      (IsDelivery r tier) are (λ pair. (uncounted pair, counted pair))

-- the same, of the number of all pairs before the end of ties
pub end_deliveries : (r : Rules) → IsGame r → (entries : List TableData) → AreTables r entries → (tier : ℕ) → AreHeld r entries tier
    → (records : List (Option Solved)) → IsTrueTable r REMOTENESS tier records
    → (place : Place) → place.tier ≡ tier → place.phase ≡ Ties → IsLastLevel r place.tier place.phase place.level → (number : ℕ)
    → IsNumberBefore r place.tier 0 (r.tier_size place.tier) place.phase place.level number → AreDeliveries r tier number
end_deliveries r g entries tables tier held records is_true place tier_is phase last number exact =
    let end = subst (λ (ph : Phase). IsLastLevel r tier ph place.level) phase (subst (λ (u : ℕ). IsLastLevel r u place.phase place.level) tier_is last) in
    let counted = subst (λ (ph : Phase). IsNumberBefore r tier 0 (r.tier_size tier) ph place.level number) phase
    (subst (λ (u : ℕ). IsNumberBefore r u 0 (r.tier_size u) place.phase place.level number) tier_is exact) in
    all_deliveries r g entries tables tier held records is_true place.level end number counted
