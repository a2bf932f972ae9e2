-- The positions and tiers that play can reach.
use Rattle.gm_play.proofs.Lower.{◌≡◌, ℕ, zero, suc, inl, inr, true, List, refl, sym, subst, Contains, Position, Rules, IsGame, TableData, IsReached, AreAllHeld, Advice, IsRightAdvice}
use Rattle.gm_play.specs.Reached.{IsBelow}

below_below : (r : Rules) (n a b m c : ℕ) → IsBelow r n a b → IsBelow r m b c → (j : ℕ) × IsBelow r j a c
below_below r zero a b m c h k = (m, subst (λ (x : ℕ). IsBelow r m x c) (sym h) k)
below_below r (suc n) a b m c (x, has, h) k = let (j, t) = below_below r n x b m c h k in (suc j, (x, has, t))

pub own_reached : (r : Rules) (p : Position) → r.is_legal p ≡ true → IsReached r p.tier p
own_reached r p l = (l, (zero, refl))

pub reached_reached : (r : Rules) (tier : ℕ) (p q : Position) → IsReached r tier p → IsReached r p.tier q → IsReached r tier q
reached_reached r tier p q (l, (n, h)) (m, (j, k)) = (m, below_below r n tier p.tier j q.tier h k)

pub played_reached : (r : Rules) → IsGame r → (p : Position) (m : ℕ) → r.is_legal p ≡ true → Contains (r.moves p) m → IsReached r p.tier (r.play p m)
played_reached r g p m l has =
    (g.play_legal p m l has, elim (g.play_tier p m l has) [ inl e ↦ (zero, sym e) | inr c ↦ (suc zero, ((r.play p m).tier, c, refl)) ])

pub reached_by : (r : Rules) → IsGame r → (p : Position) (m : ℕ) → r.is_legal p ≡ true → Contains (r.moves p) m → (q : Position) → q ≡ r.play p m →
    IsReached r p.tier q
reached_by r g p m l has q e = subst (IsReached r p.tier) (sym e) (played_reached r g p m l has)

-- what is held from a position that is reached
pub held_from : (r : Rules) (entries : List TableData) (tier : ℕ) (p : Position) → AreAllHeld r entries tier → IsReached r tier p → AreAllHeld r entries p.tier
held_from r entries tier p held (l, (n, h)) j t k = (let (i, b) = below_below r n tier p.tier j t h k in held i t b)

-- a look-up that holds from a tier also holds from each position that is reached from it
pub known_from : (r : Rules) (tier : ℕ) (k : Advice) (p : Position) → IsRightAdvice r tier k → IsReached r tier p → IsRightAdvice r p.tier k
known_from r tier k p known h q t = known q (reached_reached r tier p q h t)
