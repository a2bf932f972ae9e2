-- From every position that goes on, a move leads to a wanted value.
use Rattle.gm_play.proofs.Lower.{◌≡◌, ◌≢◌, ℕ, zero, suc, ◌<◌, inl, inr, true, false, List, [], ◌∷◌, Option, None, Some, length, take, get_or, sym, subst, arith, IsSome, IfSome, Contains, Position, Value, Lose, Draw, Tie, Win, Solved, Rules, IsChild, IsGame, HasValue, IsTrueValue, solved, contains_none, map_in, TableData, AreTables, value_in, wanted_from, IsChoice, IsBestMove, Contains-get_or}
use Rattle.std.proofs.Common.{is_some}
use Rattle.std.specs.Option.{option_map}
use Rattle.gm_game.specs.Rules.{IsAscending, IsCanonicalChild}
use Rattle.gm_game.proofs.Lists.{contains_cases}
use Rattle.gm_table.specs.Tables.{IsHeld, AreHeld}
use Rattle.gm_table.proofs.ValueLemmas.{value_known, value_true}
use Rattle.gm_play.specs.declared.best_moves.Choice.{Choice}
use Rattle.gm_game.specs.Settling.{IsSettled}
use Rattle.gm_game.proofs.Frontier.{value_iff_settled}
use Rattle.gm_game.proofs.Player.{draw_child}
use Rattle.gm_game.proofs.Symmetry.{child_legal, child_of_canonical, IsTrueValue-canonical}

module _ (r : Rules) (g : IsGame r) (p : Position) (legal : r.is_legal p ≡ true) (open_ : r.primitive p ≡ None)
    (known : (d : Position) → IsChild r p d → (s : Solved) × IsTrueValue r d s) where
  abbrev Leads : Value → Type 0
  Leads v = (m : ℕ) × (k : ℕ) × Contains (r.moves p) m × HasValue r (r.play p m) (wanted_from v) k

  by_child : (v : Value) (k : ℕ) → (d : Position) × IsChild r p d × HasValue r d (wanted_from v) k → Leads v
  by_child v k (d, is, h) =
      let (m, has, e) = map_in (r.play p) (r.moves p) d is in
      (m, k, has, subst (λ (q : Position). HasValue r q (wanted_from v) k) (sym e) h)

  by_canonical : (v : Value) (k : ℕ) → (c : Position) × IsCanonicalChild r p c × HasValue r c (wanted_from v) k → Leads v
  by_canonical v k (c, is, h) =
      let (d, child, e) = child_of_canonical r g p c is in
      let same = IsTrueValue-canonical r g d (solved (wanted_from v) k) (child_legal r g p d legal child) in
      by_child v k (d, child, same.1 (subst (λ (q : Position). HasValue r q (wanted_from v) k) (sym e) h))

  settled_so : (v : Value) (n : ℕ) → v ≢ Draw → HasValue r p v n → IsSettled r p (IsCanonicalChild r p) v n
  settled_so v n drawless h = (value_iff_settled r g p v n legal open_ drawless).0 h

  pub leads : (v : Value) (n : ℕ) → HasValue r p v n → Leads v
  leads Lose n h = let (k, e, all, wins) = settled_so Lose n (λ d. absurd (cc)) h in by_canonical Lose k wins.longest
  leads Draw n h = by_child Draw 0 (draw_child r p (subst (HasValue r p Draw) h.0 h) known)
  leads Tie n h = let (k, e, none, least) = settled_so Tie n (λ d. absurd (cc)) h in by_canonical Tie k least.one
  leads Win n h = let (k, e, least) = settled_so Win n (λ d. absurd (cc)) h in by_canonical Win k least.one

  -- so the choice among all moves is the best move
  pub best_is : (v : Value) (n : ℕ) → HasValue r p v n → (o : Option Choice) → IsChoice r p v (r.moves p) o → IsBestMove r p (option_map (λ c. c.number) o)
  best_is v n h None none = absurd (let (m, k, has, w) = leads v n h in none m k has w)
  best_is v n h (Some c) b = (open_, record { value = v; own = n; is_value = h; remoteness = c.remoteness; best = b })

-- the results of moves have true values where the tier and its child tiers are held
pub result_held : (r : Rules) → IsGame r → (entries : List TableData) (p : Position) (m : ℕ) → r.is_legal p ≡ true → Contains (r.moves p) m → IsHeld entries
    p.tier → AreHeld r entries p.tier → IsHeld entries (r.play p m).tier
result_held r g entries p m legal has own held =
    elim (g.play_tier p m legal has) [ inl e ↦ subst (IsHeld entries) (sym e) own | inr c ↦ held (r.play p m).tier c ]

some_true : (r : Rules) (d : Position) (o : Option Solved) → IsSome o → IfSome o (IsTrueValue r d) → (s : Solved) × IsTrueValue r d s
some_true r d None is h = absurd (cc)
some_true r d (Some s) is h = (s, h)

pub own_known : (r : Rules) → IsGame r → (entries : List TableData) → AreTables r entries → (p : Position) → r.is_legal p ≡ true → IsHeld entries p.tier →
    (s : Solved) × IsTrueValue r p s
own_known r g entries tables p legal own = some_true r p (value_in r entries p) ((value_known r g entries p tables).1 (legal, own))
    (value_true r g entries p tables)

pub children_known : (r : Rules) → IsGame r → (entries : List TableData) → AreTables r entries → (p : Position) → r.is_legal p ≡ true → IsHeld entries
    p.tier → AreHeld r entries p.tier → (d : Position) → IsChild r p d → (s : Solved) × IsTrueValue r d s
children_known r g entries tables p legal own held d is =
    let (m, has, e) = map_in (r.play p) (r.moves p) d is in
    let q = own_known r g entries tables (r.play p m) (g.play_legal p m legal has) (result_held r g entries p m legal has own held) in
    subst (λ (x : Position). (s : Solved) × IsTrueValue r x s) e q

-- the numbers of an ascending list after its first one are greater, and those before one of them are smaller
pub ascending_rest : (x : ℕ) (xs : List ℕ) → IsAscending (x ∷ xs) → IsAscending xs
ascending_rest x [] up = tt
ascending_rest x (y ∷ ys) up = up.1

pub ascending_above : (x : ℕ) (xs : List ℕ) → IsAscending (x ∷ xs) → (y : ℕ) → Contains xs y → x < y
ascending_above x [] up y has = absurd (contains_none y has)
ascending_above x (z ∷ zs) up y has =
    let low = up.0 in
    elim (contains_cases z y zs has) [ inl e ↦ omega arith | inr c ↦ (let high = ascending_above z zs up.1 y c in omega arith) ]

pub all_below : (xs : List ℕ) (k : ℕ) → IsAscending xs → k < length xs → (n : ℕ) → Contains (take k xs) n → n < get_or xs k 0
all_below [] k up inside n has = absurd (omega arith)
all_below (x ∷ xs) zero up inside n has = absurd (contains_none n has)
all_below (x ∷ xs) (suc k) up inside n has = elim (contains_cases x n (take k xs) has) [
  | inl e ↦ (let low = ascending_above x xs up (get_or xs k 0) (Contains-get_or xs k 0 (omega arith)) in omega arith)
  | inr c ↦ all_below xs k (ascending_rest x xs up) (omega arith) n c
]

-- whether the game goes on
pub none_if : {A : Type 0} (o p : Option A) → o ≡ p → false ≡ is_some o → p ≡ None
none_if None p e f = sym e
none_if (Some x) p e f = absurd (let z : ⊥ = cc in z)
