-- What a delivery answers by where the shard stands, and by how much it raises the number of pairs.
use Rattle.gm_solver.proofs.Lower.{◌≡◌, ℕ, ◌≤◌, refl, subst, arith, REMOTENESS, Rules, NoteData, ShardState, Spot, spot_of}
use Rattle.std.proofs.Common.{Result, Ok, Err}
use Rattle.gm_counters.specs.declared.status.Delivery.{Delivery}
use Rattle.gm_counters.specs.declared.status.Delivery.TheVariants.{Fresh, FreshSettled, Repeat}
use Rattle.gm_counters.specs.declared.status.Refused.{Refused}
use Rattle.gm_counters.specs.declared.status.Refused.TheVariants.{NotThisLevel, NotMine, NotAParent, TooFar}
use Rattle.gm_counters.specs.Delivery.{IsPairHere, Delivers}
use Rattle.gm_solver.specs.Boards.{IsAnswer}

-- a pair that passes the first three tests is refused by none of them
passed : (r : Rules) (s : ShardState) (note : NoteData) (parent : ℕ) (answer : Result Delivery Refused) → IsPairHere r s note parent
    → (answer ≡ Err NotThisLevel → ⊥) → (answer ≡ Err NotMine → ⊥) → (answer ≡ Err NotAParent → ⊥)
    → (answer ≡ Err TooFar → REMOTENESS ≤ s.level) → IsAnswer r (spot_of s) note parent answer
passed r s note parent answer here a b c far = record {
  not_this_level = ((λ e. absurd (a e)), (λ n. absurd (n here.is_level)));
  not_mine = ((λ e. absurd (b e)), (λ n. absurd (n.1 here.is_mine)));
  not_a_parent = ((λ e. absurd (c e)), (λ n. absurd (n.2 here.is_parent)));
  too_far = far;
}

-- the refusals by where the shard stands
answered_here : (r : Rules) (note : NoteData) (parent : ℕ) (s t : ShardState) (answer : Result Delivery Refused) → Delivers r note parent s t answer
    → IsAnswer r (spot_of s) note parent answer
answered_here r note parent s t (Err NotThisLevel) h = record {
  not_this_level = ((λ e. h.1), (λ n. refl));
  not_mine = ((λ e. absurd (cc)), (λ n. absurd (h.1 n.0)));
  not_a_parent = ((λ e. absurd (cc)), (λ n. absurd (h.1 n.0)));
  too_far = λ e. absurd (cc);
}
answered_here r note parent s t (Err NotMine) h = record {
  not_this_level = ((λ e. absurd (cc)), (λ n. absurd (n h.1)));
  not_mine = ((λ e. (h.1, h.2)), (λ n. refl));
  not_a_parent = ((λ e. absurd (cc)), (λ n. absurd (h.2 n.1)));
  too_far = λ e. absurd (cc);
}
answered_here r note parent s t (Err NotAParent) h = record {
  not_this_level = ((λ e. absurd (cc)), (λ n. absurd (n h.1)));
  not_mine = ((λ e. absurd (cc)), (λ n. absurd (n.1 h.2)));
  not_a_parent = ((λ e. (h.1, h.2, h.3)), (λ n. refl));
  too_far = λ e. absurd (cc);
}
answered_here r note parent s t (Err TooFar) h = passed r s note parent (Err TooFar) h.1 (λ e. cc) (λ e. cc) (λ e. cc) (λ e. (let far = h.4 in omega arith))
answered_here r note parent s t (Ok Repeat) h = passed r s note parent (Ok Repeat) h.1 (λ e. cc) (λ e. cc) (λ e. cc) (λ e. absurd (cc))
answered_here r note parent s t (Ok Fresh) h = passed r s note parent (Ok Fresh) h.1 (λ e. cc) (λ e. cc) (λ e. cc) (λ e. absurd (cc))
answered_here r note parent s t (Ok FreshSettled) h = passed r s note parent (Ok FreshSettled) h.1 (λ e. cc) (λ e. cc) (λ e. cc) (λ e. absurd (cc))

pub answered : (r : Rules) (note : NoteData) (parent : ℕ) (s t : ShardState) (answer : Result Delivery Refused) (spot : Spot) → spot_of s ≡ spot
    → Delivers r note parent s t answer → IsAnswer r spot note parent answer
answered r note parent s t answer spot e h = subst (λ (x : Spot). IsAnswer r x note parent answer) e (answered_here r note parent s t answer h)
