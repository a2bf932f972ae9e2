-- A shard with no pair.
use Rattle.gm_counters.proofs.Lower.{◌≡◌, ℕ, ◌+◌, ◌-◌, ◌<◌, ◌≤◌, inl, List, [], length, get_or, map, refl, ap, sym, subst, ◌∙◌, arith, Some, None, Contains, slice_get, length-map, get_or-replicate, length-replicate, slice_get-get_or, get_or_from_slice_get, TIER_SIZE, Position, End, Phase, WinLose, Ties, Lose, Draw, Tie, Win, Rules, at, StandsBefore, AreAscending, canonical_children_of, from_end, Start, Status, Hole, Settled, IsInRange, delivered_to, In, HasStatus, StatusIs, IsShard, IsWithinLimit, IsShardKept, IsCounter, first_status, first_left, first_state}
use Rattle.std.proofs.lemmas.List.{get_or-map}
use Rattle.std.proofs.lemmas.List.Folds.{sum_by-replicate}
use Rattle.gm_game.specs.Settling.{IsUndecided}
use Rattle.gm_game.specs.Places.{IsPlaceBefore}
use Rattle.gm_counters.specs.inner.Begin.{IsStart, AreStarts}
use Rattle.gm_game.proofs.SetLemmas.{has_none}
use Rattle.std.proofs.Common.{◌*◌}
use Rattle.gm_counters.specs.declared.status.Start.TheVariants.{Ended, Inner, Hole as NoStart}
use Rattle.gm_game.specs.declared.position.End.TheVariants.{Lose as EndLose, Tie as EndTie, Win as EndWin}

near_end : (e : End) → IsWithinLimit (Settled (from_end e))
near_end EndLose = omega arith
near_end EndTie = omega arith
near_end EndWin = omega arith

-- no child settles nothing
pub nothing_settled : (r : Rules) (p : Position) → IsUndecided r p (In [])
nothing_settled r p Lose n (m, e, all, x) = let (c, i, h) = x.longest in has_none c i
nothing_settled r p Draw n x = x
nothing_settled r p Tie n (m, e, none, x) = let (c, i, h) = x.one in has_none c i
nothing_settled r p Win n (m, e, x) = let (c, i, h) = x.one in has_none c i

first_is : (r : Rules) (p : Position) (x : Start) → IsStart r p x → HasStatus r p [] (first_status x) × IsWithinLimit (first_status x)
first_is r p NoStart s = (s, tt)
first_is r p (Ended e) s = (inl (record { canonical = s.0; ended = e; primitive = s.1; value = refl }), near_end e)
first_is r p (Inner n) s =
    ((s.0, nothing_settled r p), tt)

nothing_before : (r : Rules) (p : Position) (ph : Phase) (n : ℕ) → IsPlaceBefore ph n WinLose 0 → ⊥
nothing_before r p WinLose n b = absurd (omega arith)
nothing_before r p Ties n b = b

-- a shard with no pair has as many indexes as starts, and nothing is delivered to any of them
first_count : (tier lo n : ℕ) → length (first_state tier lo n).delivered ≡ n
first_count tier lo n = length-replicate n []

first_inside : (tier lo n i : ℕ) → IsInRange (first_state tier lo n) i → i - lo < n
first_inside tier lo n i m = let e = first_count tier lo n in let a = m.0 in let b = m.1 in omega arith

pub first_empty : (tier lo n i : ℕ) → IsInRange (first_state tier lo n) i → delivered_to (first_state tier lo n) i ≡ []
first_empty tier lo n i m = get_or-replicate n (i - lo) [] [] (first_inside tier lo n i m)

pub first_good : (r : Rules) (tier lo : ℕ) (starts : List Start) → AreStarts r tier lo starts
    → IsShard r (first_state tier lo (length starts)) (map first_status starts)
first_good r tier lo starts are = record {
  once = λ (i : ℕ) (m : IsInRange (first_state tier lo (length starts)) i). subst AreAscending (sym (first_empty tier lo (length starts) i m)) tt;
  pairs = λ (i : ℕ) (c : Position) (m : IsInRange (first_state tier lo (length starts)) i)
      (h : Contains (delivered_to (first_state tier lo (length starts)) i) c).
      absurd (has_none c (subst (λ (d : List Position). Contains d c) (first_empty tier lo (length starts) i m) h));
  whole = λ (i : ℕ) (c : Position) m p (b : StandsBefore r WinLose 0 c). absurd (nothing_before r c b.own_phase b.own_level b.before);
  fits = omega arith;
  many = length-map starts first_status ∙ sym (first_count tier lo (length starts));
  known = λ (i : ℕ) (x : Status) (m : IsInRange (first_state tier lo (length starts)) i) (got : slice_get (map first_status starts) (i - lo) ≡ Some x).
      let l : i - lo < length starts = first_inside tier lo (length starts) i m in
      let s : Start = get_or starts (i - lo) NoStart in
      let is : slice_get starts (i - lo) ≡ Some s = slice_get-get_or starts (i - lo) NoStart l in
      let at' : lo + (i - lo) ≡ i = (let q : lo ≤ i = m.0 in omega arith) in
      let k : HasStatus r (at tier (lo + (i - lo))) [] (first_status s) × IsWithinLimit (first_status s) =
      first_is r (at tier (lo + (i - lo))) s (are (i - lo) s is) in
      let same : first_status s ≡ x =
      sym (get_or-map first_status starts (i - lo) NoStart Hole l) ∙ get_or_from_slice_get (map first_status starts) (i - lo) x Hole got in
      subst (λ (y : Status). StatusIs r (first_state tier lo (length starts)) i y × IsWithinLimit y) same (
        subst (λ (d : List Position). HasStatus r (at tier i) d (first_status s)) (sym (first_empty tier lo (length starts) i m))
            (subst (λ (j : ℕ). HasStatus r (at tier j) [] (first_status s)) at' k.0),
        k.1,
      );
}

-- and of the other fields
pub first_kept : (r : Rules) (tier lo : ℕ) (starts : List Start) → AreStarts r tier lo starts → lo + length starts ≤ TIER_SIZE
    → IsShardKept r (first_state tier lo (length starts)) (map first_status starts) (map first_left starts) 0
first_kept r tier lo starts are few' = record {
  shard = first_good r tier lo starts are;
  as_many = length-map starts first_left ∙ sym (first_count tier lo (length starts));
  counted = λ (i n : ℕ) (m : IsInRange (first_state tier lo (length starts)) i) (got : slice_get (map first_left starts) (i - lo) ≡ Some n).
      let l = first_inside tier lo (length starts) i m in
      let s : Start = get_or starts (i - lo) NoStart in
      let is : slice_get starts (i - lo) ≡ Some s = slice_get-get_or starts (i - lo) NoStart l in
      let at' : lo + (i - lo) ≡ i = (let q : lo ≤ i = m.0 in omega arith) in
      let k : IsStart r (at tier i) s = subst (λ (j : ℕ). IsStart r (at tier j) s) at' (are (i - lo) s is) in
      let same : first_left s ≡ n = sym (get_or-map first_left starts (i - lo) NoStart 0 l) ∙ get_or_from_slice_get (map first_left starts) (i - lo) n 0 got in
      subst (λ (y : ℕ). IsCounter r (first_state tier lo (length starts)) i y) same
      (first_counter r tier lo (length starts) i s (first_empty tier lo (length starts) i m) k);
  number = sym (sum_by-replicate (length {A = Position}) (length starts) [] ∙ (let z : length starts * 0 ≡ 0 = omega arith in z));
  short = λ (i : ℕ) (m : IsInRange (first_state tier lo (length starts)) i).
      (let none = ap (λ (xs : List Position). length xs) (first_empty tier lo (length starts) i m) in omega arith);
  few = (let e = first_count tier lo (length starts) in omega arith);
}
  where
    first_counter : (r : Rules) (tier lo n i : ℕ) (s : Start) → delivered_to (first_state tier lo n) i ≡ [] → IsStart r (at tier i) s
        → IsCounter r (first_state tier lo n) i (first_left s)
    first_counter r tier lo n i NoStart e k = record { inner = λ x. absurd (k (x.legal, x.canonical)); other = λ _. refl }
    first_counter r tier lo n i (Ended x) e k = record { inner = λ h. absurd (let z : None ≡ Some x = sym h.unended ∙ k.1 in cc); other = λ _. refl }
    first_counter r tier lo n i (Inner c) e k = record {
      inner = λ _. (let z = ap (λ (xs : List Position). length xs) e in let f : c ≡ length (canonical_children_of r (at tier i)) = k.1 in omega arith);
      other = λ none. absurd (none k.0);
    }
