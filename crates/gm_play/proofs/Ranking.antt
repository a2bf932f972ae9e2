-- The first of the sorted moves is the best move, and its worth is the value of the position.
use Rattle.gm_play.proofs.Lower.{◌≡◌, ℕ, suc, ◌+◌, ◌<◌, ◌≤◌, true, List, [], ◌∷◌, map, Some, refl, sym, ap, subst, ◌∙◌, arith, Contains, REMOTENESS, Position, Solved, Value, Lose, Draw, Tie, Win, IsGame, solved, Rules, IsChild, HasValue, IsTrueValue, HasValue_once, contains_none, contains_first, map_from, map_in, wins_from, IsBestMove, MoveValue, wanted_from, IsNoFarther, IsBestOf, worth_from, IsMoveValue}
use Rattle.std.specs.Prelude.{IsPermutation}
use Rattle.std.proofs.lemmas.List.Sorted.{Contains-permutation, IsPermutation-sym}
use Rattle.gm_game.proofs.Steps.{ties_from}
use Rattle.gm_game.proofs.Basic.{no_win_of_tie}
use Rattle.gm_play.specs.MoveValues.{AreMoveValues, move_rank, BeginsBest, sort_key}
use Rattle.std.proofs.Common.{◌^◌, ◌*◌}
use Rattle.std.specs.List.Sorted.{IsNonDecreasingBy}
use Rattle.std.proofs.lemmas.List.Elements.{All-contains}
use Rattle.gm_play.proofs.Lowering.{best_worth}
use Rattle.gm_play.proofs.Wanted.{leads}
use Rattle.gm_play.proofs.Keeping.{goes_on, reply_won}

-- an order by place
rank_first : (a b m n : ℕ) → n < 2 ^ 32 → 2 ^ 32 * a + m ≤ 2 ^ 32 * b + n → a ≤ b
rank_first a b m n few h = omega arith

number_next : (a b m n : ℕ) → a ≡ b → 2 ^ 32 * a + m ≤ 2 ^ 32 * b + n → m ≤ n
number_next a b m n e h = omega arith

rank_far : (v : Value) (k l : ℕ) → k ≤ REMOTENESS → l ≤ REMOTENESS → move_rank (wanted_from v) k ≤ move_rank (wanted_from v) l → IsNoFarther v k l
rank_far Draw k l a b h = tt
rank_far v k l a b h = omega arith

-- the key by which a move to a result of this value is sorted
abbrev pub key : Value → ℕ → ℕ → ℕ
key w k m = 2 ^ 32 * move_rank w k + m

-- a position has one value
pub key_once : (r : Rules) (q : Position) (v w : Value) (k l m a : ℕ) → HasValue r q v k → HasValue r q w l → k ≤ REMOTENESS → a ≤ key v k m
    → (l ≤ REMOTENESS) × (a ≤ key w l m)
key_once r q v w k l m a h i small low =
    let (same, far) = HasValue_once r q v w k l h i in
    (subst (λ (n : ℕ). n ≤ REMOTENESS) far small, subst (λ (n : ℕ). a ≤ n) (ap (λ (x : Value). key x k m) same ∙ ap (λ (n : ℕ). key w n m) far) low)

module _ (r : Rules) (g : IsGame r) (p : Position) (legal : r.is_legal p ≡ true) where
  -- a move that no move to a wanted value comes before leads to a wanted value
  wanted_first : (m k l : ℕ) → Contains (r.moves p) m → (v w : Value) (own : ℕ) → HasValue r p v own → HasValue r (r.play p m) w k → k ≤ REMOTENESS
      → l ≤ REMOTENESS → move_rank w k ≤ move_rank (wanted_from v) l → w ≡ wanted_from v
  wanted_first m k l has Lose w own q h a b low =
      let (j, few, won) = reply_won r g p m own legal has q in (HasValue_once r (r.play p m) w Win k j h won).0
  wanted_first m k l has Draw Lose own q h a b low = let w = wins_from r k p (r.play p m) (goes_on r g p m legal has) (map_from (r.play p) (r.moves p) m has) h.0 in let f = q.2 (suc k) in absurd (cc)
  wanted_first m k l has Draw Draw own q h a b low = refl
  wanted_first m k l has Draw Tie own q h a b low =
      absurd (q.3 (suc k) (ties_from r k p (r.play p m) (goes_on r g p m legal has) q.2 (map_from (r.play p) (r.moves p) m has) h.0))
  wanted_first m k l has Tie Lose own q h a b low = absurd (no_win_of_tie r own p q.0 (suc k) (wins_from r k p (r.play p m) (goes_on r g p m legal has) (map_from (r.play p) (r.moves p) m has) h.0))
  wanted_first m k l has Tie Tie own q h a b low = refl
  wanted_first m k l has Win Lose own q h a b low = refl
  wanted_first m k l has v w own q h a b low = absurd (omega arith)

  -- the move that comes before all others is the best one, and its worth is the value of the position
  module _ (known : (d : Position) → IsChild r p d → (s : Solved) × IsTrueValue r d s) (m k : ℕ) (w : Value) (has : Contains (r.moves p) m)
      (goes : HasValue r (r.play p m) w k)
      (first : (n l : ℕ) (u : Value) → Contains (r.moves p) n → HasValue r (r.play p n) u l → (l ≤ REMOTENESS) × (key w k m ≤ key u l n)) where
    low : (n l : ℕ) (u : Value) → Contains (r.moves p) n → HasValue r (r.play p n) u l → move_rank w k ≤ move_rank u l
    low n l u i h = rank_first (move_rank w k) (move_rank u l) m n (g.move_fits p n legal i) (first n l u i h).1

    first_best : (v : Value) → w ≡ wanted_from v → IsBestOf r p v (r.moves p) m k
    first_best v e = record {
      there = has;
      reaches = subst (λ (u : Value). HasValue r (r.play p m) u k) e goes;
      no_better = λ n l i h. rank_far v k l (first m k w has goes).0 (first n l (wanted_from v) i h).0
          (subst (λ (u : Value). move_rank u k ≤ move_rank (wanted_from v) l) e (low n l (wanted_from v) i h));
      first = λ n i h. number_next (move_rank w k) (move_rank (wanted_from v) k) m n (ap (λ (u : Value). move_rank u k) e) (first n k (wanted_from v) i h).1;
    }

    pub first_is : (v : Value) (own : ℕ) → HasValue r p v own → IsBestMove r p (Some m) × (worth_from w k ≡ solved v own)
    first_is v own q =
        let open_ = goes_on r g p m legal has in
        let (n, l, i, h) = leads r g p legal open_ known v own q in
        let e = wanted_first m k l has v w own q goes (first m k w has goes).0 (first n l (wanted_from v) i h).0 (low n l (wanted_from v) i h) in
        let b = first_best v e in (
          (open_, record { value = v; own = own; is_value = q; remoteness = k; best = b }),
          ap (λ (u : Value). worth_from u k) e ∙ best_worth r p open_ v own m k q b,
        )

least_first : (x : MoveValue) (xs : List MoveValue) → IsNonDecreasingBy sort_key (x ∷ xs) → (y : MoveValue) → Contains (x ∷ xs) y → sort_key x ≤ sort_key y
least_first x xs h y (j, low, e) = subst (λ (z : MoveValue). sort_key x ≤ sort_key z) e (h 0 j y (omega arith) low)

module _ (r : Rules) (p : Position) (x : MoveValue) (xs : List MoveValue) (h : AreMoveValues r p (x ∷ xs)) where
  abbrev number : MoveValue → ℕ
  number y = y.number

  is_value : (y : MoveValue) → Contains (x ∷ xs) y → HasValue r (r.play p y.number) y.result.value y.result.remoteness
  is_value y has =
      let m = All-contains (IsMoveValue r p) (x ∷ xs) y h.each has in
      subst (λ (q : Position). HasValue r q y.result.value y.result.remoteness) m.position m.is_true

  sorted_first : (n l : ℕ) (u : Value) → Contains (r.moves p) n → HasValue r (r.play p n) u l → (l ≤ REMOTENESS) × (sort_key x ≤ key u l n)
  sorted_first n l u has v =
      let (y, there, e) = map_in number (x ∷ xs) n (Contains-permutation (r.moves p) (map number (x ∷ xs)) n h.listed has) in
      subst (λ (z : ℕ). (l ≤ REMOTENESS) × (sort_key x ≤ key u l z)) e
      (key_once r (r.play p y.number) y.result.value u y.result.remoteness l y.number (sort_key x) (is_value y there)
      (subst (λ (z : ℕ). HasValue r (r.play p z) u l) (sym e) v) (All-contains (IsMoveValue r p) (x ∷ xs) y h.each there).small
      (least_first x xs h.ordered y there))

  begins : (g : IsGame r) → r.is_legal p ≡ true → ((d : Position) → IsChild r p d → (s : Solved) × IsTrueValue r d s) → (v : Value) (own : ℕ)
      → HasValue r p v own → BeginsBest r p (x ∷ xs)
  begins g legal known v own q =
      let there = contains_first x xs in
      let has = Contains-permutation (map number (x ∷ xs)) (r.moves p) x.number (IsPermutation-sym (r.moves p) (map number (x ∷ xs)) h.listed)
      (map_from number (x ∷ xs) x there) in
      let (best, worth) = first_is r g p legal known x.number x.result.remoteness x.result.value has (is_value x there) sorted_first v own q in
      (best, subst (IsTrueValue r p) (sym ((All-contains (IsMoveValue r p) (x ∷ xs) x h.each there).worth ∙ worth)) q)

no_moves : (r : Rules) (p : Position) → IsPermutation (r.moves p) [] → (ms : List ℕ) → r.moves p ≡ ms → ms ≡ []
no_moves r p h [] e = refl
no_moves r p h (m ∷ ms) e = absurd (contains_none m (Contains-permutation (r.moves p) [] m h
    (subst (λ (xs : List ℕ). Contains xs m) (sym e) (contains_first m ms))))

-- if a position has a value, its sorted moves begin with the best one
pub begins_best : (r : Rules) (g : IsGame r) (p : Position) → r.is_legal p ≡ true → ((d : Position) → IsChild r p d → (s : Solved) × IsTrueValue r d s) →
    (s : Solved) → IsTrueValue r p s → (list : List MoveValue) → AreMoveValues r p list → BeginsBest r p list
begins_best r g p legal known s q [] h = λ e. absurd (g.unended p legal e (no_moves r p h.listed (r.moves p) refl))
begins_best r g p legal known s q (x ∷ xs) h = begins r p x xs h g legal known s.value s.remoteness q
