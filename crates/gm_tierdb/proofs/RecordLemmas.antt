-- Lists of records and their bytes.
use Rattle.gm_tierdb.proofs.Lower.{◌≡◌, ℕ, ◌+◌, ◌-◌, ◌<◌, ◌≤◌, List, [], ◌∷◌, ◌++◌, length, take, drop, All, Option, None, refl, sym, ap, ◌∙◌, append_assoc, append-nil, length-append, arith, flat_map, to_le_bytes, Solved, Rules, record_at, Version, One, Two, record_width, width, IsStorable, record_bytes, AreFileRecords}
use Rattle.std.proofs.Common.{zero, suc, get_or, ◌≢◌, ◌*◌}
use Rattle.std.proofs.lemmas.List.{flat_map_more, take_more, nil_from_length}
use Rattle.std.proofs.lemmas.List.Elements.{All-head, All-nil, All-tail}
use Rattle.std.proofs.lemmas.Option.{slice_get-get_or}
use Rattle.gm_game.specs.Rules.{at}
use Rattle.gm_table.specs.Tables.{TableData, IsTable}
use Rattle.gm_table.specs.RecordCodes.{record_number}
use Rattle.gm_tierdb.specs.TierText.{IsFor}
use Rattle.gm_table.proofs.CodeLemmas.{same_bytes, storable_record}
use Rattle.gm_tierdb.proofs.LimitLemmas.{old_record}

-- each record has as many bytes
length_bytes : (v : Version) (n : ℕ) → length (to_le_bytes (record_width v) n) ≡ width v
length_bytes One n = refl
length_bytes Two n = refl

-- there is room for one more record
pub room : (v : Version) (i n : ℕ) (rest : List ℕ) → i < n → length rest ≡ width v * (n - i) → width v ≤ length rest
room One i n rest h e = omega arith
room Two i n rest h e = omega arith

-- what is left of some records after one more
pub one_less : (v : Version) (i n : ℕ) (rest more : List ℕ) → i < n → length rest ≡ width v * (n - i) → length more ≡ length rest - width v
    → length more ≡ width v * (n - (i + 1))
one_less One i n rest more h e f = omega arith
one_less Two i n rest more h e f = omega arith

pub none_less : (v : Version) (n : ℕ) → width v * (n - n) ≡ 0
none_less One n = omega arith
none_less Two n = omega arith

-- one more record at the front of the bytes
pub grown : (v : Version) (bytes rest one more : List ℕ) (front : List (Option Solved)) (o : Option Solved)
    → bytes ≡ flat_map (record_bytes v) front ++ rest → rest ≡ one ++ more → record_bytes v o ≡ one
    → bytes ≡ flat_map (record_bytes v) (front ++ o ∷ []) ++ more
grown v bytes rest one more front o e split two =
    e ∙ ap (λ (l : List ℕ). flat_map (record_bytes v) front ++ l) (split ∙ ap (λ (l : List ℕ). l ++ more) (sym two))
    ∙ sym (append_assoc (flat_map (record_bytes v) front) (record_bytes v o) more)
    ∙ ap (λ (l : List ℕ). l ++ more) (flat_map_more (record_bytes v) [] front o)

-- so many records have so many bytes
more_bytes : (v : Version) (n : ℕ) → width v + width v * n ≡ width v * suc n
more_bytes One n = omega arith
more_bytes Two n = omega arith

no_bytes : (v : Version) → 0 ≡ width v * 0
no_bytes One = refl
no_bytes Two = refl

pub length_records : (v : Version) (os : List (Option Solved)) → length (flat_map (record_bytes v) os) ≡ width v * length os
length_records v [] = no_bytes v
length_records v (o ∷ os) =
    length-append (record_bytes v o) (flat_map (record_bytes v) os) ∙ (λ i. length_bytes v (record_number v o) i + length_records v os i)
    ∙ more_bytes v (length os)

-- the first bytes of a list of records are those of the first one
first_of : (v : Version) (n : ℕ) (rest : List ℕ) → take (width v) (to_le_bytes (record_width v) n ++ rest) ≡ to_le_bytes (record_width v) n
first_of One n rest = refl
first_of Two n rest = refl

rest_of : (v : Version) (n : ℕ) (rest : List ℕ) → drop (width v) (to_le_bytes (record_width v) n ++ rest) ≡ rest
rest_of One n rest = refl
rest_of Two n rest = refl

-- as many records with the same bytes are the same
same_step : (v : Version) (n m : ℕ) (xs ys : List ℕ) → to_le_bytes (record_width v) n ++ xs ≡ to_le_bytes (record_width v) m ++ ys
    → (to_le_bytes (record_width v) n ≡ to_le_bytes (record_width v) m) × (xs ≡ ys)
same_step v n m xs ys e = (
  sym (first_of v n xs) ∙ ap (take (width v)) e ∙ first_of v m ys,
  sym (rest_of v n xs) ∙ ap (drop (width v)) e ∙ rest_of v m ys,
)

pub same_records : (v : Version) (os ps : List (Option Solved)) → All (IsStorable v) os → All (IsStorable v) ps → length os ≡ length ps
    → flat_map (record_bytes v) os ≡ flat_map (record_bytes v) ps → os ≡ ps
same_records v [] [] ho hp len e = refl
same_records v [] (p ∷ ps) ho hp len e = absurd (omega arith)
same_records v (o ∷ os) [] ho hp len e = absurd (omega arith)
same_records v (o ∷ os) (p ∷ ps) ho hp len e =
    let (one, more) = same_step v (record_number v o) (record_number v p) (flat_map (record_bytes v) os) (flat_map (record_bytes v) ps) e in
    let first : o ≡ p = same_bytes v o p (All-head (IsStorable v) o os ho) (All-head (IsStorable v) p ps hp) one in
    let rest : os ≡ ps = same_records v os ps (All-tail (IsStorable v) o os ho) (All-tail (IsStorable v) p ps hp) (omega arith) more in
    ap (λ x. x ∷ os) first ∙ ap (λ xs. p ∷ xs) rest

-- in the bytes of records each index below their number has one
pub none_bad : (v : Version) (front records : List (Option Solved)) (rest : List ℕ) → All (IsStorable v) records → length front < length records
    → flat_map (record_bytes v) records ≡ flat_map (record_bytes v) front ++ rest
    → ((o : Option Solved) → IsStorable v o → take (width v) rest ≢ record_bytes v o) → ⊥
none_bad v [] [] rest ok less e bad = omega arith
none_bad v (f ∷ fs) [] rest ok less e bad = omega arith
none_bad v [] (r ∷ rs) rest ok less e bad =
    bad r (All-head (IsStorable v) r rs ok) (sym (ap (take (width v)) e) ∙ first_of v (record_number v r) (flat_map (record_bytes v) rs))
none_bad v (f ∷ fs) (r ∷ rs) rest ok less e bad =
    let whole = e ∙ append_assoc (record_bytes v f) (flat_map (record_bytes v) fs) rest in
    let (one, more) = same_step v (record_number v r) (record_number v f) (flat_map (record_bytes v) rs) (flat_map (record_bytes v) fs ++ rest) whole in
    none_bad v fs rs rest (All-tail (IsStorable v) r rs ok) (omega arith) more bad

-- the records of a table can be in a file
storable_table : (r : Rules) (t : TableData) → IsTable r t → All (IsStorable Two) t.records
storable_table r t is k d h = storable_record r (at t.tier k) (get_or t.records k d)
    (is.is_true.each k (get_or t.records k d) (slice_get-get_or t.records k d h))

pub storable_for : (v : Version) (r : Rules) (t : TableData) → IsTable r t → IsFor v t.records → All (IsStorable v) t.records
storable_for One r t is fits = λ k d h. old_record t.records fits k (get_or t.records k d) (slice_get-get_or t.records k d h) (storable_table r t is k d h)
storable_for Two r t is fits = storable_table r t is

-- the bytes of one record more of a table
record_is : (records : List (Option Solved)) (k : ℕ) → k < length records → record_at records k ≡ get_or records k None
record_is [] k h = absurd (omega arith)
record_is (o ∷ os) zero h = refl
record_is (o ∷ os) (suc k) h = record_is os k (omega arith)

pub one_more : (v : Version) (out : List ℕ) (records : List (Option Solved)) (k : ℕ) → k < length records
    → (out ++ flat_map (record_bytes v) (take k records)) ++ record_bytes v (record_at records k) ≡ out ++ flat_map (record_bytes v) (take (k + 1) records)
one_more v out records k h =
    ap (λ o. (out ++ flat_map (record_bytes v) (take k records)) ++ record_bytes v o) (record_is records k h)
    ∙ flat_map_more (record_bytes v) out (take k records) (get_or records k None)
    ∙ ap (λ os. out ++ flat_map (record_bytes v) os) (sym (take_more records k None h))

-- what a reader of records knows before the first one, and after the last one
pub none_read : (v : Version) (bytes : List ℕ) (records : List (Option Solved)) (size : ℕ) → records ≡ [] → length bytes ≡ width v * size
    → (bytes ≡ flat_map (record_bytes v) records ++ bytes) × All (IsStorable v) records × (length records ≡ 0) × (length bytes ≡ width v * (size - 0))
none_read v bytes records size none len =
    let same : size ≡ size - 0 = omega arith in
    rw none (refl, All-nil (IsStorable v), refl, len ∙ ap (λ (n : ℕ). width v * n) same)

pub all_read : (v : Version) (bytes rest : List ℕ) (records : List (Option Solved)) (index size : ℕ)
    → (bytes ≡ flat_map (record_bytes v) records ++ rest) × All (IsStorable v) records × (length records ≡ index) × (length rest ≡ width v * (size - index))
    → index ≤ size → size ≤ index → AreFileRecords v size records bytes
all_read v bytes rest records index size (split, fit, len, left) within over =
    let last : index ≡ size = omega arith in
    let none : rest ≡ [] = nil_from_length rest (left ∙ ap (λ (n : ℕ). width v * (size - n)) last ∙ none_less v size) in
    record {
      whole = len ∙ last;
      storable = fit;
      text = split ∙ ap (λ (l : List ℕ). flat_map (record_bytes v) records ++ l) none ∙ append-nil (flat_map (record_bytes v) records);
    }
