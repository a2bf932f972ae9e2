-- If every table is held, a look-up of all values and best moves exists.
use Rattle.gm_play.proofs.Lower.{ℕ, ◌≤◌, List, Option, None, Some, IsSome, IfSome, sym, arith, REMOTENESS, Position, Draw, Solved, solved, Rules, IsGame, IsTrueValue, TableData, AreTables, value_in, map_in, AreAllHeld, IsReached, Advice, IsRightAdvice}
use Rattle.gm_table.proofs.ValueLemmas.{value_known, value_true}
use Rattle.gm_play.proofs.Existing.{best_at}
use Rattle.gm_play.proofs.Held.{held_own}
use Rattle.gm_play.proofs.Reaching.{held_from, reached_by, reached_reached}
use Rattle.gm_play.proofs.Small.{value_small}

or_nothing : Option Solved → Solved
or_nothing None = solved Draw 0
or_nothing (Some s) = s

found : (r : Rules) (p : Position) (o : Option Solved) → IsSome o → IfSome o (IsTrueValue r p) → IsTrueValue r p (or_nothing o)
unfolding or_nothing
found r p None is h = absurd (cc)
found r p (Some s) is h = h

small : (o : Option Solved) → IfSome o (λ s. s.remoteness ≤ REMOTENESS) → (or_nothing o).remoteness ≤ REMOTENESS
unfolding or_nothing
small None h = omega arith
small (Some s) h = h

module _ (r : Rules) (g : IsGame r) (entries : List TableData) (tables : AreTables r entries) (tier : ℕ) (held : AreAllHeld r entries tier) where
  value : Position → Solved
  value p = or_nothing (value_in r entries p)

  true_at : (p : Position) → IsReached r tier p → IsTrueValue r p (value p)
  unfolding value
  true_at p h =
      let own = held_own r entries p.tier (held_from r entries tier p held h) in
      found r p (value_in r entries p) ((value_known r g entries p tables).1 (h.0, own)) (value_true r g entries p tables)

  small_at : (p : Position) → (value p).remoteness ≤ REMOTENESS
  unfolding value
  small_at p = small (value_in r entries p) (value_small r entries p tables)

  pub advised : (k : Advice) × IsRightAdvice r tier k
  advised = (
    record { value = value; best = λ p. (best_at r g value p).0 },
    λ p h. (
      true_at p h,
      (best_at r g value p).1 h.0 (
        true_at p h,
        λ d is. (let (m, has, e) = map_in (r.play p) (r.moves p) d is in
            (true_at d (reached_reached r tier p d h (reached_by r g p m h.0 has d (sym e))), small_at d)),
      ),
    ),
  )
