-- True records, tier by tier.
use Rattle.gm_engine.proofs.Lower.{◌≡◌, ◌≤◌, ◌<◌, ◌+◌, ◌++◌, ℕ, suc, List, [], ◌∷◌, map, Option, Some, length, take, drop, get_or, slice_index_or, subst, sym, ap, arith, ◌∙◌, take_more, slice_get-get_or, Solved, Rules, TableData, Width, record_with, room, IsTrueTier, AreTrueTiers}
use Rattle.std.proofs.Common.{None, min}
use Rattle.std.proofs.Math.ListN.{drop_of_length-le}
use Rattle.std.proofs.Math.Seq.{drop-cons}
use Rattle.std.proofs.lemmas.List.{append_assoc, take_all, length-take, take-append-le, drop-append-le, map-append, take-append-drop}
use Rattle.gm_game.specs.declared.limits.TheConstants.{REMOTENESS}
use Rattle.gm_game.specs.Records.{IsTrueTable}
use Rattle.gm_table.specs.Tables.{IsTable, record_at}
use Rattle.gm_engine.specs.Records.{times, Stand}

-- one more at the end
pub append_one : (xs more old new : List ℕ) (b : ℕ) → old ≡ xs ++ more → new ≡ old ++ b ∷ [] → new ≡ xs ++ (more ++ b ∷ [])
append_one xs more old new b is pushed = pushed ∙ ap (λ (v : List ℕ). v ++ b ∷ []) is ∙ append_assoc xs more (b ∷ [])

-- the remaining bytes are split once more
pub cut_more : (all known rest front back : List ℕ) (n : ℕ) → all ≡ known ++ rest → front ≡ take n rest → back ≡ drop n rest → all ≡ (known ++ front) ++ back
cut_more all known rest front back n is f b =
    is ∙ ap (λ (v : List ℕ). known ++ v) (sym (take-append-drop n rest) ∙ ap (λ (v : List ℕ). v ++ drop n rest) (sym f) ∙ ap (λ (v : List ℕ). front ++ v) (sym b))
    ∙ sym (append_assoc known front back)

-- one more record
pub record_more : (records : List (Option Solved)) (more : List ℕ) (i b : ℕ) → i < length records → map record_with more ≡ take i records
    → record_with b ≡ record_at records i → map record_with (more ++ b ∷ []) ≡ take (i + 1) records
record_more records more i b within same is =
    let at : record_at records i ≡ get_or records i None = ap (λ (o : Option (Option Solved)). elim o [ None ↦ None | Some x ↦ x ]) (slice_get-get_or records i None within) in
    map-append record_with more (b ∷ []) ∙ ap (λ (v : List (Option Solved)). v ++ record_with b ∷ []) same
    ∙ ap (λ (v : Option Solved). take i records ++ v ∷ []) (is ∙ at) ∙ sym (take_more records i None within)

module _ (r : Rules) (w : Width) where
  -- there are as many bytes as the records of the tier have
  pub long : (t : ℕ) (ys : List ℕ) → IsTrueTier r w t ys → length ys ≡ room r w t
  long t ys is = is.0

  one : (t : ℕ) (ys : List ℕ) → IsTrueTier r w t ys → AreTrueTiers r w (t ∷ []) ys
  one t ys is = let l : length ys ≡ room r w t = long t ys is in let le : length ys ≤ room r w t = omega arith in
      (subst (IsTrueTier r w t) (sym (take_all (room r w t) ys le)) is, drop_of_length-le ys le)

  -- the records of one more tier come after those of others
  pub one_more : (ts : List ℕ) (xs : List ℕ) (t : ℕ) (ys : List ℕ) → AreTrueTiers r w ts xs → IsTrueTier r w t ys → AreTrueTiers r w (ts ++ t ∷ []) (xs ++ ys)
  one_more [] xs t ys known is = subst (λ (v : List ℕ). AreTrueTiers r w (t ∷ []) (v ++ ys)) (sym known) (one t ys is)
  one_more (u ∷ ts) xs t ys (first, others) is =
      let a : length (take (room r w u) xs) ≡ room r w u = long u (take (room r w u) xs) first in
      let b : length (take (room r w u) xs) ≡ min (room r w u) (length xs) = length-take (room r w u) xs in
      let le : room r w u ≤ length xs = omega arith in (
        subst (IsTrueTier r w u) (sym (take-append-le (room r w u) xs ys le)) first,
        subst (AreTrueTiers r w (ts ++ t ∷ [])) (sym (drop-append-le (room r w u) xs ys le)) (one_more ts (drop (room r w u) xs) t ys others is),
      )

  pub one_more_at : (ts : List ℕ) (k : ℕ) (xs ys : List ℕ) → k < length ts → AreTrueTiers r w (take k ts) xs → IsTrueTier r w (slice_index_or ts k 0) ys
      → AreTrueTiers r w (take (k + 1) ts) (xs ++ ys)
  one_more_at ts k xs ys within known is =
      subst (λ (v : List ℕ). AreTrueTiers r w v (xs ++ ys)) (sym (take_more ts k 0 within)) (one_more (take k ts) xs (slice_index_or ts k 0) ys known is)

  -- true records, from a table
  pub from_table : (tier : ℕ) (t : TableData) (more : List ℕ) → IsTable r t → t.tier ≡ tier → Stand w more t.records → IsTrueTier r w tier more
  from_table tier t more is same (long_, records) = (
    long_ ∙ ap (times w) (is.is_true.whole ∙ ap r.tier_size same),
    subst (λ (v : List (Option Solved)). IsTrueTable r REMOTENESS tier v) (sym records)
        (subst (λ (u : ℕ). IsTrueTable r REMOTENESS u t.records) same is.is_true),
  )

  -- the records of these tiers from the k-th on are its own, and then those of the later tiers
  pub first_of : (ts : List ℕ) (k : ℕ) (bytes : List ℕ) → k < length ts → AreTrueTiers r w (drop k ts) bytes
      → IsTrueTier r w (slice_index_or ts k 0) (take (room r w (slice_index_or ts k 0)) bytes)
      × AreTrueTiers r w (drop (k + 1) ts) (drop (room r w (slice_index_or ts k 0)) bytes)
  first_of ts k bytes within known =
      let (first, others) = subst (λ (v : List ℕ). AreTrueTiers r w v bytes) (drop-cons ts k 0 within) known in
      let next : suc k ≡ k + 1 = omega arith in
      (first, subst (λ (m : ℕ). AreTrueTiers r w (drop m ts) (drop (room r w (slice_index_or ts k 0)) bytes)) next others)

  -- so there are at least the bytes of the tier
  pub enough_for : (ts : List ℕ) (k : ℕ) (bytes : List ℕ) → k < length ts → AreTrueTiers r w (drop k ts) bytes → room r w (slice_index_or ts k 0) ≤ length bytes
  enough_for ts k bytes within known =
      let t = slice_index_or ts k 0 in
      let front = take (room r w t) bytes in
      let l : length front ≡ room r w t = long t front (first_of ts k bytes within known).0 in
      let m : length front ≡ min (room r w t) (length bytes) = length-take (room r w t) bytes in
      omega arith

  -- after the last tier no bytes remain
  pub none_left : (ts : List ℕ) (k : ℕ) (bytes : List ℕ) → length ts ≤ k → AreTrueTiers r w (drop k ts) bytes → bytes ≡ []
  none_left ts k bytes past known = subst (λ (v : List ℕ). AreTrueTiers r w v bytes) (drop_of_length-le ts past) known
