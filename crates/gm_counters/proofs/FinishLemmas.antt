-- The records of a range at the end of ties.
use Rattle.gm_counters.proofs.Lower.{◌≡◌, ◌≢◌, ℕ, zero, suc, ◌+◌, ◌<◌, ◌≤◌, List, [], ◌∷◌, ◌++◌, length, replicate, refl, sym, subst, ◌∙◌, arith, inl, inr, Option, None, Some, get_or_from_slice_get, slice_get_within, get_or-replicate, length-replicate, REMOTENESS, Phase, Ties, Solved, Rules, at, IsGame, IsTrueValue, IsLastLevel, Status, Hole, Undecided, Settled, ShardState, IsInRange, delivered_to, In, StatusIs, IsGood, status_numbered, AreFinal}
use Rattle.std.proofs.Common.{ne_eqb}
use Rattle.std.proofs.lemmas.Option.{same_Some}
use Rattle.gm_game.specs.Rules.{IsInner}
use Rattle.gm_game.specs.Records.{IsRecord}
use Rattle.gm_game.specs.Settling.{AreReached}
use Rattle.gm_game.proofs.Levels.{undecided_draw}
use Rattle.gm_table.specs.Packed.{unpacked}
use Rattle.gm_counters.specs.inner.Closing.{record_of_status}
use Rattle.gm_table.specs.Solving.{ArePart}
use Rattle.gm_table.proofs.Dealt.{append_cases}
use Rattle.gm_counters.proofs.NoteLemmas.{settled_canonical}
use Rattle.gm_counters.proofs.StatusLemmas.{reached_by}

-- the children delivered to an inner position of a good shard
reached_good : (r : Rules) (s : ShardState) → IsGood r s → (i : ℕ) → IsInRange s i → IsInner r (at s.tier i)
    → AreReached r (at s.tier i) s.phase s.level (In (delivered_to s i))
reached_good r s good i m inner = reached_by r s i inner (λ c. good.pairs i c m) (λ c. good.whole i c m)

-- the record of a status is the true one
record_true : (r : Rules) → IsGame r → (s : ShardState) → IsGood r s → s.phase ≡ Ties → IsLastLevel r s.tier Ties s.level → (i : ℕ) → IsInRange s i
    → (status : Status) → StatusIs r s i status
    → IsRecord r REMOTENESS (IsTrueValue r) (at s.tier i) (record_of_status status)
record_true r g s good ties last i m Hole h = h
record_true r g s good ties last i m Undecided (inner, u) =
    let reached : AreReached r (at s.tier i) Ties s.level (In (delivered_to s i)) =
    subst (λ (ph : Phase). AreReached r (at s.tier i) ph s.level (In (delivered_to s i))) ties (reached_good r s good i m inner) in (
      (inner.legal, inner.canonical),
      undecided_draw r (at s.tier i) g inner.legal inner.unended s.level (In (delivered_to s i)) reached u
          (λ n l t. let z = last (at s.tier i) n ((inner.legal, inner.canonical), inl refl) t in omega arith),
      omega arith,
    )
record_true r g s good ties last i m (Settled x) h =
    let (value, near) = good.settled_is_true i x m h in
    (settled_canonical r (at s.tier i) (delivered_to s i) x h, value, near)

-- a number that is not that of an undecided index stands for the record of its status
pub final_record : (n : ℕ) → n ≢ 1 → unpacked n ≡ record_of_status (status_numbered n)
final_record n other = rw (ne_eqb n 1 other) (of_record (unpacked n))
  where
    of_record : (known : Option Solved) → known ≡ record_of_status (elim known [ None ↦ Hole | Some x ↦ Settled x ])
    of_record None = refl
    of_record (Some x) = refl

-- the records of a range and of another after it
pub final_append : (r : Rules) (s : ShardState) (i : ℕ) (xs ys : List (Option Solved)) → AreFinal r s i xs → AreFinal r s (i + length xs) ys
    → AreFinal r s i (xs ++ ys)
final_append r s i xs ys a b k o e = elim (append_cases xs ys k o e) [
  | inl h ↦ a k o h
  | inr (j, is, h) ↦ (
      let (status, known, record_is) = b j o h in
      let place : i + length xs + j ≡ i + k = omega arith in
      (status, subst (λ (n : ℕ). StatusIs r s n status) place known, record_is))
]

-- so many holes have no records
pub final_holes : (r : Rules) (s : ShardState) (i n : ℕ) → ((j : ℕ) → i ≤ j → j < i + n → StatusIs r s j Hole) → AreFinal r s i (replicate n None)
final_holes r s i n holes k o e =
    let w = slice_get_within (replicate n None) k o e in
    let many = length-replicate n (let none : Option Solved = None in none) in
    (Hole, holes (i + k) (omega arith) (omega arith), sym (get_or_from_slice_get (replicate n None) k o o e) ∙ get_or-replicate n k None o (omega arith))

-- the record of one index
pub final_one : (r : Rules) (s : ShardState) (i : ℕ) (status : Status) → StatusIs r s i status → AreFinal r s i (record_of_status status ∷ [])
final_one r s i status h zero o e = let place : i ≡ i + zero = omega arith in
    (status, subst (λ (n : ℕ). StatusIs r s n status) place h, sym (same_Some (record_of_status status) o e))
final_one r s i status h (suc k) o e = absurd (let z : None ≡ Some o = e in cc)

-- at the end of ties they are the true ones
pub part_true : (r : Rules) → IsGame r → (s : ShardState) → IsGood r s → s.phase ≡ Ties → IsLastLevel r s.tier Ties s.level
    → (part : List (Option Solved)) → length part ≡ length s.delivered → AreFinal r s s.lo part → ArePart r s.tier s.lo part
part_true r g s good ties last part many final = record {
  each = λ k o e.
      let (status, known, is) = final k o e in
      let w = slice_get_within part k o e in
      subst (IsRecord r REMOTENESS (IsTrueValue r) (at s.tier (s.lo + k))) (sym is)
      (record_true r g s good ties last (s.lo + k) (omega arith, omega arith) status known);
}
