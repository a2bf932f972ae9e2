-- Held tiers.
use Rattle.gm_play.proofs.Lower.{ℕ, zero, suc, List, refl, subst, Contains, Rules, TableData, AreAllHeld}
use Rattle.gm_table.specs.Tables.{IsHeld, AreHeld}
use Rattle.gm_play.specs.Reached.{IsBelow}

module _ (r : Rules) (entries : List TableData) where
  pub held_own : (tier : ℕ) → AreAllHeld r entries tier → IsHeld entries tier
  held_own tier h = h 0 tier refl

  pub held_children : (tier : ℕ) → AreAllHeld r entries tier → AreHeld r entries tier
  held_children tier h child has = h 1 child (child, has, refl)

  -- where these tiers are held, and the child tiers of each are among them, all below one of them is held
  module _ (these : ℕ → Type 0) (closed : (tier child : ℕ) → these tier → Contains (r.child_tiers tier) child → these child)
      (held : (tier : ℕ) → these tier → IsHeld entries tier) where
    below_these : (n tier t : ℕ) → these tier → IsBelow r n tier t → these t
    below_these zero tier t h e = subst these e h
    below_these (suc n) tier t h (child, has, b) = below_these n child t (closed tier child h has) b

    pub all_held : (tier : ℕ) → these tier → AreAllHeld r entries tier
    all_held tier h = λ n t b. held t (below_these n tier t h b)
