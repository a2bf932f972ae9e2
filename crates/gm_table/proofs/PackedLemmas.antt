-- Records that are packed one by one.
use Rattle.gm_table.proofs.Lower.{◌≡◌, ℕ, zero, suc, ◌+◌, ◌<◌, ◌≤◌, List, [], ◌∷◌, ◌++◌, Option, None, length, map, take, replicate, get_or, refl, ap, ◌∙◌, sym, map-append, take_more, take_all, slice_get-get_or, Solved, wide, unpacked}
use Rattle.std.proofs.lemmas.Simd.{map-map}
use Rattle.gm_table.specs.Packed.{IsInLimit, AreInLimit}

-- the record at an index is near
pub near_at : (records : List (Option Solved)) (i : ℕ) (d : Option Solved) → AreInLimit records → i < length records → IsInLimit (get_or records i d)
near_at records i d near inside = near i (get_or records i d) (slice_get-get_or records i d inside)

-- one record more is packed
pub packed_more : (numbers new : List ℕ) (records : List (Option Solved)) (i n : ℕ) (d : Option Solved) → i < length records → map unpacked numbers ≡ take i
    records → new ≡ numbers ++ n ∷ []
    → unpacked n ≡ get_or records i d → map unpacked new ≡ take (i + 1) records
packed_more numbers new records i n d inside before is e =
    ap (map unpacked) is ∙ map-append unpacked numbers (n ∷ []) ∙ ap (λ (rs : List (Option Solved)). rs ++ unpacked n ∷ []) before
    ∙ ap (λ (o : Option Solved). take i records ++ o ∷ []) e ∙ sym (take_more records i d inside)

-- all are packed
pub packed_all : (numbers : List ℕ) (records : List (Option Solved)) (i : ℕ) → length records ≤ i → map unpacked numbers ≡ take i records → map unpacked
    numbers ≡ records
packed_all numbers records i past e = e ∙ take_all i records past

-- short forms are widened and read in one step
pub packed_short : (shorts : List ℕ) → map unpacked (map wide shorts) ≡ map (λ (short : ℕ). unpacked (wide short)) shorts
packed_short shorts = map-map unpacked wide shorts

-- zeros are numbers of no record
unpacked_zeros : (n : ℕ) → map unpacked (replicate n 0) ≡ replicate n None
unpacked_zeros zero = refl
unpacked_zeros (suc n) = ap (λ (os : List (Option Solved)). None ∷ os) (unpacked_zeros n)

-- zeros behind numbers
pub unpacked_more_zeros : (n : ℕ) (xs : List ℕ) → map unpacked (xs ++ replicate n 0) ≡ map unpacked xs ++ replicate n None
unpacked_more_zeros n xs = map-append unpacked xs (replicate n 0) ∙ ap (λ (os : List (Option Solved)). map unpacked xs ++ os) (unpacked_zeros n)
