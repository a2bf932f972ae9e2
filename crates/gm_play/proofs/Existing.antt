-- If the values of a position and of its children are known, the position has a best move, or it has ended.
use Rattle.gm_play.proofs.Lower.{◌≡◌, ℕ, ◌≤◌, List, [], ◌∷◌, map, Option, None, Some, refl, sym, subst, true, Contains, REMOTENESS, Position, End, Solved, Rules, IsGame, IsChild, IsTrueValue, contains_first, map_from, map_in, IsBestMove}
use Rattle.gm_game.proofs.Least.{least_in, least_le}
use Rattle.gm_play.proofs.Ranking.{key, key_once, first_is}

module _ (r : Rules) (g : IsGame r) (value : Position → Solved) where
  -- the value of a position and those of its children are known, and are within the limit
  abbrev pub AreKnown : Position → Type 0
  AreKnown p = IsTrueValue r p (value p) × ((d : Position) → IsChild r p d → IsTrueValue r d (value d) × ((value d).remoteness ≤ REMOTENESS))

  abbrev pub Best : Position → Type 0
  Best p = (b : Option ℕ) × (r.is_legal p ≡ true → AreKnown p → IsBestMove r p b)

  abbrev key_of : Position → ℕ → ℕ
  key_of p m = key (value (r.play p m)).value (value (r.play p m)).remoteness m

  best_open : (p : Position) (ms : List ℕ) → r.moves p ≡ ms → r.primitive p ≡ None → Best p
  best_open p [] e open_ = (None, λ l known. absurd (g.unended p l open_ e))
  best_open p (a ∷ ms) e open_ =
      let keys = map (key_of p) (a ∷ ms) in
      let (m, has, is) = map_in (key_of p) (a ∷ ms) _ (least_in (key_of p a) keys (contains_first (key_of p a) (map (key_of p) ms))) in (
        Some m,
        λ l known. (
            let child = λ (n : ℕ) (i : Contains (r.moves p) n). known.1 (r.play p n) (map_from (r.play p) (r.moves p) n i) in
            let here = subst (λ (xs : List ℕ). Contains xs m) (sym e) has in
            (first_is r g p l (λ d i. (value d, (known.1 d i).0)) m (value (r.play p m)).remoteness (value (r.play p m)).value here (child m here).0
            (λ n k u i h. key_once r (r.play p n) (value (r.play p n)).value u (value (r.play p n)).remoteness k n (key_of p m) (child n i).0 h (child n i).1
            (subst (λ (x : ℕ). x ≤ key_of p n) (sym is)
            (least_le (key_of p a) keys (key_of p n) (map_from (key_of p) (a ∷ ms) n (subst (λ (xs : List ℕ). Contains xs n) e i)))))
            (value p).value (value p).remoteness known.0).0),
      )

  best_if : (p : Position) (o : Option End) → r.primitive p ≡ o → Best p
  best_if p None e = best_open p (r.moves p) refl e
  best_if p (Some x) e = (None, λ l known n. absurd (cc))

  pub best_at : (p : Position) → Best p
  best_at p = best_if p (r.primitive p) refl
