-- The note of a settled index.
use Rattle.gm_counters.proofs.Lower.{◌≡◌, ◌≢◌, ℕ, inl, inr, List, refl, ap, sym, subst, ◌∙◌, None, Some, Position, Solved, Value, Draw, End, Rules, at, IsCanonical, from_end, IsGame, IsSettled, IsNote, Status, Hole, Undecided, Settled, ShardState, IsInRange, delivered_to, In, StatusIs, HasStatus, IsShard}
use Rattle.gm_game.specs.declared.position.End.TheVariants.{Lose as EndLose, Tie as EndTie, Win as EndWin}
use Rattle.gm_counters.proofs.GoodLemmas.{settled_truth}

end_decided : (e : End) → (from_end e).value ≢ Draw
end_decided EndLose z = cc
end_decided EndTie z = cc
end_decided EndWin z = cc

pub settled_canonical : (r : Rules) (p : Position) (d : List Position) (x : Solved) → HasStatus r p d (Settled x) → IsCanonical r p
settled_canonical r p d x (inl e) = e.canonical
settled_canonical r p d x (inr q) = (q.0.legal, q.0.canonical)

pub settled_decided : (r : Rules) (p : Position) (d : List Position) (x : Solved) → HasStatus r p d (Settled x) → x.value ≢ Draw
settled_decided r p d x (inl e) z = end_decided e.ended (sym (ap (λ (y : Solved). y.value) e.value) ∙ z)
settled_decided r p d x (inr q) z = subst (λ (v : Value). IsSettled r p (In d) v x.remoteness) z q.1

pub note_of : (r : Rules) → IsGame r → (s : ShardState) (statuses : List Status) → IsShard r s statuses → (i : ℕ) → IsInRange s i → (x : Solved)
    → StatusIs r s i (Settled x) → IsNote r (at s.tier i) x
note_of r g s statuses t i m x h = record {
  canonical = settled_canonical r (at s.tier i) (delivered_to s i) x h;
  value = settled_truth g t i x m h;
  decided = settled_decided r (at s.tier i) (delivered_to s i) x h;
}

pub none_of : (r : Rules) (p : Position) (d : List Position) (old : Status) → HasStatus r p d old → ((y : Solved) → old ≢ Settled y) → (x : Solved)
    → HasStatus r p d (Settled x) → ⊥
none_of r p d Hole h ne x s = h (settled_canonical r p d x s)
none_of r p d Undecided h ne x (inl e) = let z : None ≡ Some e.ended = sym h.0.unended ∙ e.primitive in cc
none_of r p d Undecided h ne x (inr q) = h.1 x.value x.remoteness q.1
none_of r p d (Settled y) h ne x s = ne y refl
