-- Places and canonical children: facts over the definitions of the game's crate.
use Rattle.gm_frontier.proofs.Lower.{◌≡◌, ℕ, ◌+◌, ◌≤◌, ◌⊎◌, inl, inr, true, List, [], ◌∷◌, map, length, refl, subst, arith, length-map, cases_lt, Position, Lose, Tie, Win, Phase, WinLose, Ties, Rules, IsGame, StandsAt, IsLastLevel}
use Rattle.gm_game.specs.declared.limits.TheConstants.{MOVES}
use Rattle.gm_game.specs.Children.{canonical_children_of, set_of}
use Rattle.gm_game.specs.Places.{IsNear, StandsBefore, IsPlaceBefore}
use Rattle.gm_game.proofs.Basic.{HasValue_once}
use Rattle.gm_game.specs.Rules.{children}
use Rattle.gm_game.proofs.SetLemmas.{length_with_le}

-- what is before the next level is before this one or at it
pub stands_now : (r : Rules) (phase : Phase) (n : ℕ) (c : Position) → StandsBefore r phase (n + 1) c → StandsBefore r phase n c ⊎ StandsAt r phase n c
stands_now r phase n c s = go phase s.own_phase s.own_level s.stands s.before
  where
    go : (phase q : Phase) (k : ℕ) → StandsAt r q k c → IsPlaceBefore q k phase (n + 1) → StandsBefore r phase n c ⊎ StandsAt r phase n c
    go WinLose WinLose k h b = elim (cases_lt k n) [
      | inl l ↦ inl (record { own_phase = WinLose; own_level = k; stands = h; before = l })
      | inr l ↦ inr (let e : k ≡ n = omega arith in subst (λ (m : ℕ). StandsAt r WinLose m c) e h)
    ]
    go Ties Ties k h b = elim (cases_lt k n) [
      | inl l ↦ inl (record { own_phase = Ties; own_level = k; stands = h; before = l })
      | inr l ↦ inr (let e : k ≡ n = omega arith in subst (λ (m : ℕ). StandsAt r Ties m c) e h)
    ]
    go WinLose Ties k h b = absurd b
    go Ties WinLose k h b = inl (record { own_phase = WinLose; own_level = k; stands = h; before = tt })

pub now_stands : (r : Rules) (phase : Phase) (n : ℕ) (c : Position) → StandsAt r phase n c → StandsBefore r phase (n + 1) c
now_stands r WinLose n c h = record { own_phase = WinLose; own_level = n; stands = h; before = omega arith }
now_stands r Ties n c h = record { own_phase = Ties; own_level = n; stands = h; before = omega arith }

-- a position is at one place
pub one_place : (r : Rules) (q phase : Phase) (k n : ℕ) (c : Position) → StandsAt r q k c → StandsAt r phase n c → (q ≡ phase) × (k ≡ n)
one_place r WinLose WinLose k n c (inl a) (inl b) = (refl, (HasValue_once r c Win Win k n a b).1)
one_place r WinLose WinLose k n c (inl a) (inr b) = (refl, (HasValue_once r c Win Lose k n a b).1)
one_place r WinLose WinLose k n c (inr a) (inl b) = (refl, (HasValue_once r c Lose Win k n a b).1)
one_place r WinLose WinLose k n c (inr a) (inr b) = (refl, (HasValue_once r c Lose Lose k n a b).1)
one_place r WinLose Ties k n c (inl a) b = absurd (let e = (HasValue_once r c Win Tie k n a b).0 in cc)
one_place r WinLose Ties k n c (inr a) b = absurd (let e = (HasValue_once r c Lose Tie k n a b).0 in cc)
one_place r Ties WinLose k n c a (inl b) = absurd (let e = (HasValue_once r c Tie Win k n a b).0 in cc)
one_place r Ties WinLose k n c a (inr b) = absurd (let e = (HasValue_once r c Tie Lose k n a b).0 in cc)
one_place r Ties Ties k n c a b = (refl, (HasValue_once r c Tie Tie k n a b).1)

not_before_itself : (phase : Phase) (n : ℕ) → IsPlaceBefore phase n phase n → ⊥
not_before_itself WinLose n b = omega arith
not_before_itself Ties n b = omega arith

pub not_before_and_at : (r : Rules) (phase : Phase) (n : ℕ) (c : Position) → StandsBefore r phase n c → StandsAt r phase n c → ⊥
not_before_and_at r phase n c s h =
    let e = one_place r s.own_phase phase s.own_level n c s.stands h in
    not_before_itself phase n (subst (λ (q : Phase). IsPlaceBefore q n phase n) e.0 (subst (λ (k : ℕ). IsPlaceBefore s.own_phase k phase n) e.1 s.before))

-- later places
later_place : (q phase : Phase) (k m n : ℕ) → m ≤ n → IsPlaceBefore q k phase m → IsPlaceBefore q k phase n
later_place WinLose WinLose k m n l b = omega arith
later_place WinLose Ties k m n l b = tt
later_place Ties WinLose k m n l b = b
later_place Ties Ties k m n l b = omega arith

pub before_later : (r : Rules) (phase : Phase) (m n : ℕ) (c : Position) → m ≤ n → StandsBefore r phase m c → StandsBefore r phase n c
before_later r phase m n c l s = record {
  own_phase = s.own_phase;
  own_level = s.own_level;
  stands = s.stands;
  before = later_place s.own_phase phase s.own_level m n l s.before;
}

-- before the first level of ties stand exactly the wins and losses
pub before_ties : (r : Rules) (tier n : ℕ) (c : Position) → IsLastLevel r tier WinLose n → IsNear r tier c → StandsBefore r Ties 0 c
    → StandsBefore r WinLose n c
before_ties r tier n c last near s = go s.own_phase s.own_level s.stands s.before
  where
    go : (q : Phase) (m : ℕ) → StandsAt r q m c → IsPlaceBefore q m Ties 0 → StandsBefore r WinLose n c
    go WinLose m h b = record { own_phase = WinLose; own_level = m; stands = h; before = last c m near h }
    go Ties m h b = absurd (omega arith)

pub ties_after : (r : Rules) (m n : ℕ) (c : Position) → StandsBefore r WinLose m c → StandsBefore r Ties n c
ties_after r m n c s = go s.own_phase s.own_level s.stands s.before
  where
    go : (q : Phase) (k : ℕ) → StandsAt r q k c → IsPlaceBefore q k WinLose m → StandsBefore r Ties n c
    go WinLose k h b = record { own_phase = WinLose; own_level = k; stands = h; before = tt }
    go Ties k h b = absurd b

-- a legal position has few canonical children
length-set_of : (ps : List Position) → length (set_of ps) ≤ length ps
length-set_of [] = omega arith
length-set_of (p ∷ ps) = let a = length-set_of ps in let b = length_with_le p (set_of ps) in omega arith

pub canonical_children_few : (r : Rules) → IsGame r → (p : Position) → r.is_legal p ≡ true → length (canonical_children_of r p) ≤ MOVES
canonical_children_few r g p l =
    let a = length-set_of (map r.canonical (children r p)) in
    let b = length-map (children r p) r.canonical in
    let c = length-map (r.moves p) (r.play p) in
    let d = g.moves_few p l in
    omega arith
