-- True records of parts of a tier.
use Rattle.gm_immediate.proofs.Lower.{◌≡◌, ℕ, ◌+◌, ◌-◌, ◌<◌, ◌≤◌, inl, inr, List, [], ◌∷◌, ◌++◌, length, length-append, get_or, Option, Some, refl, sym, ap, subst, ◌∙◌, arith, AllZip, REMOTENESS, Solved, Rules, at, block_in, IsGame, AreThere, IsDeliveryIn, IsBlockFound}
use Rattle.std.proofs.Common.{zero, suc, replicate, min, None, Result, slice_get, ◌*◌}
use Rattle.std.specs.List.{range_with_len}
use Rattle.gm_game.specs.Rules.{AreHoles}
use Rattle.gm_game.specs.Values.{IsTrueValue}
use Rattle.gm_game.specs.Records.{IsRecord, IsTrueTable}
use Rattle.gm_table.proofs.Dealt.{append_cases}
use Rattle.std.proofs.lemmas.Option.{slice_get-get_or}
use Rattle.std.proofs.lemmas.List.{length-replicate}
use Rattle.gm_table.specs.Solving.{ArePart, AreDeliveries}
use Rattle.gm_game.specs.declared.limits.TheConstants.{MOVES}
use Rattle.gm_immediate.specs.declared.stop.Stop.{Stop}
use Rattle.gm_immediate.specs.OnePass.{IsBlock, AreFound}
use Rattle.gm_immediate.proofs.BlockLemmas.{zip_at}
use Rattle.gm_immediate.proofs.Deliveries.{deliveries_start, deliveries_join, deliveries_holes, deliveries_whole}

pub part_none : (r : Rules) (tier lo : ℕ) → ArePart r tier lo []
part_none r tier lo = record { each = λ k o e. absurd (cc) }

pub part_one : (r : Rules) (tier lo i : ℕ) (o : Option Solved) → i ≡ lo → IsRecord r REMOTENESS (IsTrueValue r) (at tier i) o → ArePart r tier lo (o ∷ [])
part_one r tier lo i o same h = record { each = each }
  where
    each : (k : ℕ) (x : Option Solved) → slice_get (o ∷ []) k ≡ Some x → IsRecord r REMOTENESS (IsTrueValue r) (at tier (lo + k)) x
    each zero x e =
        let here : i ≡ lo + zero = omega arith in
        let is : o ≡ x = cc in
        subst (λ (j : ℕ). IsRecord r REMOTENESS (IsTrueValue r) (at tier j) x) here (subst (IsRecord r REMOTENESS (IsTrueValue r) (at tier i)) is h)
    each (suc k) x e = absurd (cc)

-- a part and the one behind it
pub part_more : (r : Rules) (tier lo mid : ℕ) (xs ys : List (Option Solved)) → lo + length xs ≡ mid → ArePart r tier lo xs → ArePart r tier mid ys
    → ArePart r tier lo (xs ++ ys)
part_more r tier lo mid xs ys long a b = record {
  each = λ k o e. elim (append_cases xs ys k o e) [
    | inl h ↦ a.each k o h
    | inr (j, i, q) ↦ (let here : mid + j ≡ lo + k = omega arith in subst (λ (m : ℕ). IsRecord r REMOTENESS (IsTrueValue r) (at tier m) o) here (b.each j o q))
  ];
}

pub part_whole : (r : Rules) (tier : ℕ) (records : List (Option Solved)) → length records ≡ r.tier_size tier → ArePart r tier 0 records
    → IsTrueTable r REMOTENESS tier records
part_whole r tier records long part = record {
  whole = long;
  each = λ i o e. subst (λ (k : ℕ). IsRecord r REMOTENESS (IsTrueValue r) (at tier k) o) (let same : 0 + i ≡ i = omega arith in same) (part.each i o e);
}

-- what passes over all blocks find, by the numbers of their places
pub found_by_zip : (r : Rules) (tier rows : ℕ) (found : List (Result (List (Option Solved) × ℕ) Stop))
    → (length found ≡ rows * 32) × AllZip (λ place x. IsBlockFound r tier (block_in rows place) x) (range_with_len 0 (length found)) found
    → AreFound r tier rows found
found_by_zip r tier rows found (many, zip) = record {
  many = many;
  each = λ place x e. subst (λ (k : ℕ). IsBlockFound r tier (block_in rows k) x) (let same : 0 + place ≡ place = omega arith in same)
      (zip_at (λ k y. IsBlockFound r tier (block_in rows k) y) 0 found zip place x e);
}

-- ---- a range, one index after another
pub record ArePassed (r : Rules) (tier lo index : ℕ) (records : List (Option Solved)) (number : ℕ) : Type 0 where
  pub long : lo + length records ≡ index
  pub part : ArePart r tier lo records
  pub deliveries : AreThere number (IsDeliveryIn r tier lo index)
  pub few : number ≤ MOVES * length records

pub passed_none : (r : Rules) (tier lo : ℕ) (records : List (Option Solved)) → records ≡ [] → ArePassed r tier lo lo records 0
passed_none r tier lo records e = subst (λ (xs : List (Option Solved)). ArePassed r tier lo lo xs 0) (sym e) (record {
  long = omega arith;
  part = part_none r tier lo;
  deliveries = deliveries_start r tier lo lo (omega arith);
  few = omega arith;
})

pub passed_more : (r : Rules) (tier lo index : ℕ) (records next : List (Option Solved)) (number more : ℕ) (o : Option Solved)
    → ArePassed r tier lo index records number → IsRecord r REMOTENESS (IsTrueValue r) (at tier index) o
    → AreThere more (IsDeliveryIn r tier index (index + 1)) → more ≤ MOVES → next ≡ records ++ o ∷ [] → ArePassed r tier lo (index + 1) next (number + more)
passed_more r tier lo index records next number more o old is there small e =
    let long : length (records ++ o ∷ []) ≡ length records + 1 = length-append records (o ∷ []) in
    let before = old.long in
    let few = old.few in
    subst (λ (xs : List (Option Solved)). ArePassed r tier lo (index + 1) xs (number + more)) (sym e) (record {
      long = omega arith;
      part = part_more r tier lo index records (o ∷ []) old.long old.part (part_one r tier index index o refl is);
      deliveries = deliveries_join r tier lo index (index + 1) number more (omega arith) (omega arith) old.deliveries there;
      few = omega arith;
    })

-- no record is at indexes that are not any of canonical positions
none_at : (n k : ℕ) (o : Option Solved) → slice_get (replicate n None) k ≡ Some o → (k < n) × (o ≡ None)
none_at zero k o e = absurd (cc)
none_at (suc n) zero o e = (omega arith, (let same : None ≡ o = cc in sym same))
none_at (suc n) (suc k) o e = let (inside, is) = none_at n k o e in (omega arith, is)

part_holes : (r : Rules) (tier lo hi : ℕ) → AreHoles r tier lo hi → ArePart r tier lo (replicate (hi - lo) None)
part_holes r tier lo hi holes = record {
  each = λ k o e. let (inside, is) = none_at (hi - lo) k o e in
      subst (IsRecord r REMOTENESS (IsTrueValue r) (at tier (lo + k))) (sym is) (λ canonical. holes (lo + k) (omega arith) (omega arith) canonical);
}

pub passed_holes : (r : Rules) (tier lo next index : ℕ) (records more : List (Option Solved)) (number : ℕ) → ArePassed r tier lo next records number
    → next ≤ index → AreHoles r tier next index → more ≡ records ++ replicate (index - next) None
    → ArePassed r tier lo index more number
passed_holes r tier lo next index records more number old up holes e =
    let none = replicate (index - next) None in
    let long : length (records ++ none) ≡ length records + length none = length-append records none in
    let count : length none ≡ index - next = length-replicate (index - next) None in
    let before = old.long in
    let few = old.few in
    let same : number + 0 ≡ number = omega arith in
    subst (λ (xs : List (Option Solved)). ArePassed r tier lo index xs number) (sym e) (record {
      long = omega arith;
      part = part_more r tier lo next records none old.long old.part (part_holes r tier next index holes);
      deliveries = subst (λ (n : ℕ). AreThere n (IsDeliveryIn r tier lo index)) same
          (deliveries_join r tier lo next index number 0 (omega arith) up old.deliveries (deliveries_holes r tier next index holes));
      few = omega arith;
    })

-- ---- blocks, one after another
pub record AreJoined (r : Rules) (tier k : ℕ) (records : List (Option Solved)) (number : ℕ) : Type 0 where
  pub long : length records ≡ min (k * 512) (r.tier_size tier)
  pub part : ArePart r tier 0 records
  pub deliveries : AreThere number (IsDeliveryIn r tier 0 (min (k * 512) (r.tier_size tier)))
  pub few : number ≤ MOVES * length records

pub joined_none : (r : Rules) (tier : ℕ) (records : List (Option Solved)) → records ≡ [] → AreJoined r tier 0 records 0
joined_none r tier records e = subst (λ (xs : List (Option Solved)). AreJoined r tier 0 xs 0) (sym e) (record {
  long = omega arith;
  part = part_none r tier 0;
  deliveries = deliveries_start r tier 0 (min (0 * 512) (r.tier_size tier)) (omega arith);
  few = omega arith;
})

pub joined_more : (r : Rules) (tier k : ℕ) (all records next : List (Option Solved)) (number more : ℕ) → AreJoined r tier k all number
    → IsBlock r tier k records more → next ≡ all ++ records → AreJoined r tier (k + 1) next (number + more)
joined_more r tier k all records next number more old block e =
    let size = r.tier_size tier in
    let lo = min (k * 512) size in
    let hi = min (suc k * 512) size in
    let same : suc k ≡ k + 1 = omega arith in
    let sum : length (all ++ records) ≡ length all + length records = length-append all records in
    let before = old.long in
    let here = block.long in
    let few = old.few in
    let small = block.few in
    let up : lo ≤ hi = omega arith in
    let whole : length (all ++ records) ≡ hi = omega arith in
    let from : 0 + length all ≡ lo = omega arith in
    subst (λ (xs : List (Option Solved)). AreJoined r tier (k + 1) xs (number + more)) (sym e)
    (subst (λ (n : ℕ). AreJoined r tier n (all ++ records) (number + more)) same (record {
      long = whole;
      part = part_more r tier 0 lo all records from old.part block.part;
      deliveries = deliveries_join r tier 0 lo hi number more (omega arith) up old.deliveries block.deliveries;
      few = omega arith;
    }))

pub joined_few : (r : Rules) (tier k : ℕ) (all records : List (Option Solved)) (number more : ℕ) → AreJoined r tier k all number
    → IsBlock r tier k records more → number + more ≤ MOVES * r.tier_size tier
joined_few r tier k all records number more old block =
    let a = old.few in
    let b = block.few in
    let before = old.long in
    let here = block.long in
    omega arith

pub joined_true : (r : Rules) (tier k : ℕ) (all : List (Option Solved)) (number : ℕ) → AreJoined r tier k all number → r.tier_size tier ≤ k * 512
    → IsTrueTable r REMOTENESS tier all
joined_true r tier k all number h enough =
    let long = h.long in
    let whole : length all ≡ r.tier_size tier = omega arith in
    part_whole r tier all whole h.part

pub joined_deliveries : (r : Rules) → IsGame r → (tier k : ℕ) (all : List (Option Solved)) (number : ℕ) → AreJoined r tier k all number
    → r.tier_size tier ≤ k * 512 → AreDeliveries r tier number
joined_deliveries r g tier k all number h enough =
    let end : min (k * 512) (r.tier_size tier) ≡ r.tier_size tier = omega arith in
    deliveries_whole r g tier number (subst (λ (n : ℕ). AreThere number (IsDeliveryIn r tier 0 n)) end h.deliveries)

-- what was found at a place
pub found_at : (r : Rules) (tier rows : ℕ) (found : List (Result (List (Option Solved) × ℕ) Stop)) (place block : ℕ)
    (x : Result (List (Option Solved) × ℕ) Stop) → AreFound r tier rows found → place < rows * 32 → block_in rows place ≡ block → x ≡ get_or found place x
    → IsBlockFound r tier block x
found_at r tier rows found place block x are below is e =
    let many = are.many in
    let inside : place < length found = omega arith in
    subst (λ (k : ℕ). IsBlockFound r tier k x) is (are.each place x (slice_get-get_or found place x inside ∙ ap Some (sym e)))
