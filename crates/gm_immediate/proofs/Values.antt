-- The value of a position whose canonical children the tables know.
use Rattle.gm_immediate.proofs.Lower.{◌≡◌, ℕ, ◌+◌, ◌<◌, ◌≤◌, inl, inr, true, List, [], ◌∷◌, length, Option, Some, refl, sym, ap, subst, ◌∙◌, arith, Contains, REMOTENESS, Position, Solved, Rules, IsGame, IsTooFar}
use Rattle.std.proofs.Common.{◌↔◌, not, map, filter, None, IsSome, IfSome}
use Rattle.gm_game.specs.declared.position.Value.TheVariants.{Draw, Lose, Tie, Win}
use Rattle.gm_game.specs.Rules.{IsInner, IsCanonicalChild}
use Rattle.gm_game.specs.Values.{HasValue, IsTrueValue}
use Rattle.gm_game.proofs.Basic.{HasValue_once}
use Rattle.gm_game.proofs.Lists.{contains_first, contains_later, map_in}
use Rattle.gm_table.specs.declared.summary.Summary.{Summary}
use Rattle.gm_table.specs.Tables.{TableData, AreHeld, value_in, AreTables}
use Rattle.gm_table.specs.inner.Shorts.{is_decided, IsSummary}
use Rattle.rayon.proofs.ToStd.{filter-map}
use Rattle.std.proofs.lemmas.List.{length-map}
use Rattle.std.proofs.lemmas.List.Filters.{length-filter_both}
use Rattle.gm_game.specs.declared.position.Value.{Value}
use Rattle.gm_game.specs.Children.{AreResults}
use Rattle.gm_game.specs.Records.{lost_in, won_in, tied_in, lesser, greater, least_of, all_won, settle, solved, IsKnown}
use Rattle.gm_game.proofs.Symmetry.{near_child}
use Rattle.gm_table.specs.inner.Caches.{CacheData, IsSumOf, other_record, other_table}
use Rattle.gm_table.proofs.CacheLemmas.{map_same, other_held, other_none, other_value}
use Rattle.gm_table.proofs.CheckLemmas.{settled_results}
use Rattle.gm_table.proofs.ValueLemmas.{known_value}
use Rattle.gm_immediate.specs.inner.Gathered.{IsGathered}
use Rattle.gm_game.proofs.Settled.{known_since, known_record, value_from_children}

-- there is no number, or it is within the limit
IsLow : Option ℕ → Type 0
IsLow o = IfSome o (λ n. n ≤ REMOTENESS)

-- what children say is within the limit, if each record is
lesser_low : (a b : Option ℕ) → IsLow a → IsLow b → IsLow (lesser a b)
unfolding IsLow
lesser_low None b h k = k
lesser_low (Some m) None h k = h
lesser_low (Some m) (Some n) h k = omega arith

greater_low : (a b : Option ℕ) → IsLow a → IsLow b → IsLow (greater a b)
unfolding IsLow
greater_low None b h k = tt
greater_low (Some m) None h k = tt
greater_low (Some m) (Some n) h k = omega arith

value_low : (v : Value) (n : ℕ) → n ≤ REMOTENESS → IsLow (lost_in (Some (solved v n))) × IsLow (won_in (Some (solved v n))) × IsLow (tied_in (Some (solved v n)))
unfolding IsLow
value_low Lose n l = (l, tt, tt)
value_low Draw n l = (tt, tt, tt)
value_low Tie n l = (tt, tt, l)
value_low Win n l = (tt, l, tt)

record_low : (o : Option Solved) → IfSome o (λ s. s.remoteness ≤ REMOTENESS) → IsLow (lost_in o) × IsLow (won_in o) × IsLow (tied_in o)
unfolding IsLow
record_low None h = (tt, tt, tt)
record_low (Some s) h = value_low s.value s.remoteness h

all_low : (os : List (Option Solved)) → ((o : Option Solved) → Contains os o → IfSome o (λ s. s.remoteness ≤ REMOTENESS))
    → IsLow (least_of lost_in os) × IsLow (all_won os) × IsLow (least_of tied_in os)
unfolding IsLow
all_low [] near = (tt, omega arith, tt)
all_low (o ∷ os) near =
    let (a, b, c) = record_low o (near o (contains_first o os)) in
    let (d, e, f) = all_low os (λ x h. near x (contains_later o x os h)) in
    (lesser_low (lost_in o) (least_of lost_in os) a d, greater_low (won_in o) (all_won os) b e, lesser_low (tied_in o) (least_of tied_in os) c f)

settled_low : (a b c : Option ℕ) → IsLow a → IsLow b → IsLow c → (settle a b c).remoteness ≤ REMOTENESS + 1
unfolding IsLow
settled_low (Some n) b c h k l = omega arith
settled_low None (Some n) c h k l = omega arith
settled_low None None (Some n) h k l = omega arith
settled_low None None None h k l = omega arith

-- what the cached tables say of a canonical child
module _ (r : Rules) (g : IsGame r) (c : CacheData) (tables : AreTables r c.tables) (p : Position) (cs : List Position) (legal : r.is_legal p ≡ true)
    (are : AreResults r p cs) (q : Position) (h : Contains cs q) (some : IsSome (other_table c q.tier)) where
  abbrev pub IsSaid : Type 0
  IsSaid = (other_record c q ≡ value_in r c.tables q) × IsKnown r (value_in r c.tables) q × IfSome (value_in r c.tables q) (λ s. s.remoteness ≤ REMOTENESS)

  pub said : IsSaid
  said = go (other_table c q.tier) refl some
    where
      go : (o : Option TableData) → other_table c q.tier ≡ o → IsSome o → IsSaid
      go None e k = absurd (cc)
      go (Some t) e k =
          let canonical = (near_child r g p.tier p q refl legal ((are q).0 h)).0 in
          let (s, is, value, near) = known_value r g c.tables q t tables canonical.0 (other_held c q.tier t e) in (
            other_value r c q canonical some,
            known_since r (value_in r c.tables) q s is value,
            subst (λ (x : Option Solved). IfSome x (λ y. y.remoteness ≤ REMOTENESS)) (sym is) near,
          )

-- what the cached tables say of all children
pub gathered_sum : (r : Rules) (g : IsGame r) (c : CacheData) → AreTables r c.tables → (p : Position) (cs : List Position) (seen : Summary) (number : ℕ)
    → r.is_legal p ≡ true → AreResults r p cs → IsSumOf c cs seen number → IsGathered r c.tables cs seen number
gathered_sum r g c tables p cs seen number legal are sum =
    let look = value_in r c.tables in
    let each : (q : Position) → Contains cs q → (other_record c q ≡ look q) × IsKnown r look q × IfSome (look q) (λ s. s.remoteness ≤ REMOTENESS) =
    λ q h. said r g c tables p cs legal are q h (sum.held q h) in
    let all : map (other_record c) cs ≡ map look cs = map_same (other_record c) look cs (λ q h. (each q h).0) in
    record {
      known = λ q h. (each q h).1;
      near = λ q h. (each q h).2;
      summary = subst (λ (os : List (Option Solved)). IsSummary os seen) all sum.summary;
      decided = sum.decided ∙ ap (λ (os : List (Option Solved)). length (filter is_decided os)) all ∙ ap length (filter-map is_decided look cs)
          ∙ length-map (filter (λ q. is_decided (look q)) cs) look;
    }

-- whether a known position is no draw
decides_by : (r : Rules) (c : Position) (v : Value) (n : ℕ) → HasValue r c v n → (is_decided (Some (record { value = v; remoteness = n })) ≡ true)
    ↔ (HasValue r c Draw 0 → ⊥)
decides_by r c Lose n h = (λ e d. (let q = (HasValue_once r c Lose Draw n 0 h d).0 in cc), λ f. refl)
decides_by r c Draw n h = (λ e. absurd (cc), λ f. absurd (f (subst (HasValue r c Draw) h.0 h)))
decides_by r c Tie n h = (λ e d. (let q = (HasValue_once r c Tie Draw n 0 h d).0 in cc), λ f. refl)
decides_by r c Win n h = (λ e d. (let q = (HasValue_once r c Win Draw n 0 h d).0 in cc), λ f. refl)

module _ (r : Rules) (g : IsGame r) (entries : List TableData) (p : Position) (cs : List Position) (inner : IsInner r p) (are : AreResults r p cs)
    (seen : Summary) (number : ℕ) (h : IsGathered r entries cs seen number) where
  -- what they say is the true value
  pub value_true : (s : Solved) → s ≡ settle seen.lost seen.won seen.tied → IsTrueValue r p s
  value_true s e = subst (IsTrueValue r p) (sym (e ∙ settled_results r (value_in r entries) p cs seen inner.unended are h.summary))
      (value_from_children r g (value_in r entries) p inner.legal (λ c j. h.known c ((are c).1 j)))

  -- if its remoteness is above the limit, it is so by one
  pub too_far : REMOTENESS < (settle seen.lost seen.won seen.tied).remoteness → IsTooFar r p.tier
  too_far far =
      let s = settle seen.lost seen.won seen.tied in
      let look = value_in r entries in
      let near : (o : Option Solved) → Contains (map look cs) o → IfSome o (λ x. x.remoteness ≤ REMOTENESS) = λ o i. (let (c, j, e) = map_in look cs o i in subst
      (λ (x : Option Solved). IfSome x (λ y. y.remoteness ≤ REMOTENESS)) e (h.near c j)) in
      let (a, b, d) = all_low (map look cs) near in
      let low = settled_low seen.lost seen.won seen.tied (subst IsLow (sym h.summary.lost) a) (subst IsLow (sym h.summary.won) b)
      (subst IsLow (sym h.summary.tied) d) in
      let n : s.remoteness ≡ REMOTENESS + 1 = omega (arith, low, far) in
      record {
        index = p.index;
        canonical = (inner.legal, inner.canonical);
        value = s.value;
        far = subst (HasValue r p s.value) n (value_true s refl);
      }

  pub decides : (c : Position) → Contains cs c → (is_decided (value_in r entries c) ≡ true) ↔ (HasValue r c Draw 0 → ⊥)
  decides c k =
      let (s, e, is) = known_record r (value_in r entries) c (h.known c k) in
      subst (λ (o : Option Solved). (is_decided o ≡ true) ↔ (HasValue r c Draw 0 → ⊥)) (sym e) (decides_by r c s.value s.remoteness is)

-- a canonical child without a cached table is in the tier itself
pub stays : (r : Rules) (g : IsGame r) (c : CacheData) (p : Position) (cs : List Position) → r.is_legal p ≡ true → AreHeld r c.tables p.tier → c.tier ≡ p.tier
    → AreResults r p cs → (q : Position) × Contains cs q × (other_table c q.tier ≡ None) → (q : Position) × IsCanonicalChild r p q × (q.tier ≡ p.tier)
stays r g c p cs legal held own are (q, h, none) =
    let child = (are q).0 h in (
      q,
      child,
      elim (other_none c q.tier none) [
        | inl e ↦ e ∙ own
        | inr without ↦ elim (near_child r g p.tier p q refl legal child).1 [ inl e ↦ e | inr k ↦ (let some = held q.tier k in absurd (cc)) ]
      ],
    )

-- those that are no draws are no more than there are
pub number_few : (r : Rules) (entries : List TableData) (ds : List Position) (seen : Summary) (number : ℕ) → IsGathered r entries ds seen number
    → number ≤ length ds
number_few r entries ds seen number h =
    let some = length-filter_both (λ c. is_decided (value_in r entries c)) (λ c. not (is_decided (value_in r entries c))) (λ c. refl) ds in
    let count = h.decided in
    omega arith
