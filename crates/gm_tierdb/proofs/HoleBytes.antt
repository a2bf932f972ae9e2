-- The bytes of indexes without a record.
use Rattle.gm_tierdb.proofs.Lower.{◌≡◌, ℕ, ◌+◌, ◌-◌, ◌<◌, ◌≤◌, List, ◌++◌, length, take, Option, None, refl, sym, ap, ◌∙◌, append_assoc, append-nil, arith, flat_map, Solved, record_at, Version, One, Two, width, record_bytes}
use Rattle.std.proofs.Common.{zero, suc, replicate, inl, inr, ◌*◌}
use Rattle.std.proofs.lemmas.List.{replicate-append-replicate}
use Rattle.std.proofs.lemmas.Bool.{cases_lt}
use Rattle.gm_tierdb.proofs.RecordLemmas.{one_more}

abbrev zeros : ℕ → List ℕ
zeros n = replicate n 0

-- the bytes of no record are zeros
no_record : (v : Version) → record_bytes v None ≡ zeros (width v)
no_record One = refl
no_record Two = refl

zeros_more : (v : Version) (k n : ℕ) → n ≡ suc k → zeros (width v * k) ++ zeros (width v) ≡ zeros (width v * n)
zeros_more One k n e = replicate-append-replicate (2 * k) 2 0 ∙ ap zeros (let s : 2 * k + 2 ≡ 2 * n = omega arith in s)
zeros_more Two k n e = replicate-append-replicate (4 * k) 4 0 ∙ ap zeros (let s : 4 * k + 4 ≡ 4 * n = omega arith in s)

no_more : (v : Version) (out : List ℕ) (os : List (Option Solved)) (from to n : ℕ) → from ≡ to → n ≡ 0
    → (out ++ flat_map (record_bytes v) (take from os)) ++ zeros (width v * n) ≡ out ++ flat_map (record_bytes v) (take to os)
no_more One out os from to n e none = rw (e, none) (append-nil (out ++ flat_map (record_bytes One) (take to os)))
no_more Two out os from to n e none = rw (e, none) (append-nil (out ++ flat_map (record_bytes Two) (take to os)))

-- the bytes of some records, and of indexes after them that have none
pub holes_more : (v : Version) (out : List ℕ) (os : List (Option Solved)) (from to : ℕ) → from ≤ to → to ≤ length os
    → ((k : ℕ) → from ≤ k → k < to → record_at os k ≡ None)
    → (out ++ flat_map (record_bytes v) (take from os)) ++ zeros (width v * (to - from)) ≡ out ++ flat_map (record_bytes v) (take to os)
holes_more v out os from zero order inside holes = no_more v out os from 0 (0 - from) (omega arith) (omega arith)
holes_more v out os from (suc to) order inside holes =
    elim (cases_lt from (suc to)) [
      | inl l ↦ (
          let front = out ++ flat_map (record_bytes v) (take from os) in
          let e : to + 1 ≡ suc to = omega arith in
          ap (λ l. front ++ l) (sym (zeros_more v (to - from) (suc to - from) (omega arith)))
          ∙ sym (append_assoc front (zeros (width v * (to - from))) (zeros (width v)))
          ∙ ap (λ l. l ++ zeros (width v)) (holes_more v out os from to (omega arith) (omega arith) (λ k low high. holes k low (omega arith)))
          ∙ ap (λ l. (out ++ flat_map (record_bytes v) (take to os)) ++ l)
          (sym (no_record v) ∙ ap (record_bytes v) (sym (holes to (omega arith) (omega arith))))
          ∙ one_more v out os to (omega arith)
          ∙ ap (λ (n : ℕ). out ++ flat_map (record_bytes v) (take n os)) e)
      | inr m ↦ no_more v out os from (suc to) (suc to - from) (omega arith) (omega arith)
    ]
