-- Bytes of records that are read in two parts.
use Rattle.gm_tierdb.proofs.Lower.{◌≡◌, ℕ, ◌+◌, ◌<◌, ◌≤◌, List, ◌++◌, length, Option, None, Result, Ok, Err, IfErr, sym, ap, subst, ◌∙◌, append_assoc, length-append, arith, flat_map, Solved, Version, One, Two, width, record_bytes, IsStorable, AreFileRecords, AreDecoded}
use Rattle.std.proofs.Common.{Some, IsErrAnd, IfSome, ◌*◌}
use Rattle.std.proofs.lemmas.List.{take-append-le}
use Rattle.gm_tierdb.specs.Refusals.{HasRecords, IsFirstBad}
use Rattle.std.proofs.lemmas.Grind.{flat_map-append}
use Rattle.std.proofs.lemmas.List.Elements.{All-append}
use Rattle.gm_tierdb.proofs.RecordLemmas.{length_records}

-- the records of one part and of the other
pub both_parts : (v : Version) (n k size : ℕ) (bytes first rest : List ℕ) (front back : List (Option Solved)) → bytes ≡ first ++ rest → size ≡ n + k
    → AreFileRecords v n front first → AreFileRecords v k back rest → AreFileRecords v size (front ++ back) bytes
both_parts v n k size bytes first rest front back e sum are more = record {
  whole = omega (arith, length-append front back, are.whole, more.whole, sum);
  storable = All-append (IsStorable v) front back are.storable more.storable;
  text = e ∙ (λ i. are.text i ++ more.text i) ∙ sym (flat_map-append (record_bytes v) front back);
}

pub has_read : (v : Version) (size : ℕ) (part : List ℕ) (read : Option (List (Option Solved))) → AreDecoded v size part read → HasRecords v size part
has_read v size part None has = has
has_read v size part (Some records) are = (records, are)

room_left : (v : Version) (i n len left : ℕ) → i < n → len ≡ width v * n → len ≡ width v * i + left → width v ≤ left
room_left One i n len left h e s = omega arith
room_left Two i n len left h e s = omega arith

-- a bad record of the first part is the first of all
pub bad_first : (v : Version) (n k size : ℕ) (bytes first rest : List ℕ) (index : ℕ) → bytes ≡ first ++ rest → size ≡ n + k → length first ≡ width v * n
    → IsFirstBad v n first index → IsFirstBad v size bytes index
bad_first v n k size bytes first rest index e sum len is =
    let front = flat_map (record_bytes v) is.front in
    let within = is.within in
    let long : length first ≡ width v * index + length is.rest =
    ap length is.split ∙ length-append front is.rest ∙ ap (λ (m : ℕ). m + length is.rest) (length_records v is.front ∙ ap (λ (m : ℕ). width v * m) is.count) in
    let room : width v ≤ length is.rest = room_left v index n (length first) (length is.rest) within len long in
    record {
      front = is.front;
      rest = is.rest ++ rest;
      storable = is.storable;
      count = is.count;
      within = omega (arith, within, sum);
      split = e ∙ ap (λ (l : List ℕ). l ++ rest) is.split ∙ append_assoc front is.rest rest;
      bad = λ o ok same. is.bad o ok (sym (take-append-le (width v) is.rest rest room) ∙ same);
    }

-- and one of the second part, where the first has none
pub bad_second : (v : Version) (n k size : ℕ) (bytes first rest : List ℕ) (index : ℕ) → bytes ≡ first ++ rest → size ≡ n + k → HasRecords v n first
    → IsFirstBad v k rest index → IsFirstBad v size bytes (n + index)
bad_second v n k size bytes first rest index e sum (front, are) is =
    let within = is.within in
    record {
      front = front ++ is.front;
      rest = is.rest;
      storable = All-append (IsStorable v) front is.front are.storable is.storable;
      count = omega (arith, length-append front is.front, are.whole, is.count);
      within = omega (arith, within, sum);
      split = e ∙ (λ i. are.text i ++ is.split i)
          ∙ sym (append_assoc (flat_map (record_bytes v) front) (flat_map (record_bytes v) is.front) is.rest)
          ∙ ap (λ (l : List ℕ). l ++ is.rest) (sym (flat_map-append (record_bytes v) front is.front));
      bad = is.bad;
    }

-- what was read of both parts is what the bytes are
pub read_joined : (v : Version) (n k size : ℕ) (bytes first rest : List ℕ) (front back all : Option (List (Option Solved))) → bytes ≡ first ++ rest
    → size ≡ n + k → AreDecoded v n first front → AreDecoded v k rest back
    → IfSome all (λ x. (a : List (Option Solved)) × (b : List (Option Solved)) × (front ≡ Some a) × (back ≡ Some b) × (x ≡ a ++ b)) → AreDecoded v size bytes
    all
read_joined v n k size bytes first rest front back None e sum are more h =
    let (a, one) = has_read v n first front are in
    let (b, two) = has_read v k rest back more in (a ++ b, both_parts v n k size bytes first rest a b e sum one two)
read_joined v n k size bytes first rest front back (Some x) e sum are more (a, b, ea, eb, ex) =
    subst (λ records. AreFileRecords v size records bytes) (sym ex)
    (both_parts v n k size bytes first rest a b e sum (subst (AreDecoded v n first) ea are) (subst (AreDecoded v k rest) eb more))

-- an error that is passed on
pub passed_on : {T : Type 0} (P : ℕ → Type 0) (result : Result T ℕ) (e : ℕ) → IsErrAnd result (λ y. y ≡ e) → P e → IfErr result P
passed_on P (Ok x) e is h = tt
passed_on P (Err y) e is h = subst P (sym is) h
