-- The parts of a text, and the text of the parts.
use Rattle.gm_tierdb.proofs.Lower.{◌≡◌, ℕ, ◌+◌, List, [], ◌++◌, length, take, drop, Option, refl, sym, ap, ◌∙◌, append_assoc, length-append, arith, flat_map, to_le_bytes, take-take, sha256, NAME, Solved, Rules, Version, One, Two, width, record_bytes, magic, AreFileRecords, IsVersionText, HasHeader, records_part, file_len}
use Rattle.std.proofs.Common.{take-add, take-append-drop, ◌*◌}
use Rattle.std.specs.Int.{w64}
use Rattle.gm_tierdb.specs.TierText.{body, version_text}
use Rattle.gm_tierdb.specs.Refusals.{body_len}
use Rattle.sha2.proofs.Facts256.{length-sha256}
use Rattle.std.proofs.Math.Seq.{take-append_seam, drop-append_seam}
use Rattle.gm_tierdb.proofs.RecordLemmas.{length_records, same_records}

-- what stands between a front and a back
between : (i n : ℕ) (a b c : List ℕ) → length a ≡ i → length b ≡ n → take n (drop i (a ++ (b ++ c))) ≡ b
between i n a b c ea eb =
    ap (λ k. take n (drop k (a ++ (b ++ c)))) (sym ea) ∙ ap (take n) (drop-append_seam a (b ++ c)) ∙ ap (λ k. take k (b ++ c)) (sym eb) ∙ take-append_seam b c

behind : (i : ℕ) (a b : List ℕ) → length a ≡ i → drop i (a ++ b) ≡ b
behind i a b e = ap (λ k. drop k (a ++ b)) (sym e) ∙ drop-append_seam a b

before : (i : ℕ) (a b : List ℕ) → length a ≡ i → take i (a ++ b) ≡ a
before i a b e = ap (λ k. take k (a ++ b)) (sym e) ∙ take-append_seam a b

-- six parts, split behind the first, the second and the third
after_one : (a b c d e f : List ℕ) → a ++ b ++ c ++ d ++ e ++ f ≡ a ++ (b ++ (c ++ (d ++ (e ++ f))))
after_one a b c d e f = simp append_assoc

after_two : (a b c d e f : List ℕ) → a ++ b ++ c ++ d ++ e ++ f ≡ (a ++ b) ++ (c ++ (d ++ (e ++ f)))
after_two a b c d e f = simp append_assoc

after_three : (a b c d e f : List ℕ) → a ++ b ++ c ++ d ++ e ++ f ≡ (a ++ b ++ c) ++ (d ++ (e ++ f))
after_three a b c d e f = simp append_assoc

-- what is before the records
abbrev header : Version → List ℕ → ℕ → ℕ → List ℕ
header v name tier size = magic v ++ name ++ to_le_bytes w64 tier ++ to_le_bytes w64 size

length_magic : (v : Version) → length (magic v) ≡ 8
length_magic One = refl
length_magic Two = refl

length_header : (v : Version) (name : List ℕ) (tier size : ℕ) → length name ≡ 16 → length (header v name tier size) ≡ 40
length_header v name tier size e =
    let t = to_le_bytes w64 tier in
    let s = to_le_bytes w64 size in
    let lm = length_magic v in
    let lt : length t ≡ 8 = refl in
    let ls : length s ≡ 8 = refl in
    omega (arith, e, lm, lt, ls, length-append (magic v) name, length-append (magic v ++ name) t, length-append (magic v ++ name ++ t) s)

-- the parts of a text
pub record TextParts (v : Version) (r : Rules) (tier : ℕ) (records : List (Option Solved)) (bytes : List ℕ) : Type 0 where
  pub header : HasHeader v r tier bytes
  pub len : length bytes ≡ file_len v (r.tier_size tier)
  pub inner : AreFileRecords v (r.tier_size tier) records (records_part v (r.tier_size tier) bytes)
  pub digest : drop (body_len v (r.tier_size tier)) bytes ≡ sha256 (take (body_len v (r.tier_size tier)) bytes)

pub parts_of_text : (v : Version) (r : Rules) → length r.name ≡ NAME → (tier : ℕ) (records : List (Option Solved)) (bytes : List ℕ)
    → IsVersionText v r tier records bytes → TextParts v r tier records bytes
unfolding version_text
parts_of_text v r named tier records bytes is =
    let size = r.tier_size tier in
    let name = r.name in
    let t = to_le_bytes w64 tier in
    let s = to_le_bytes w64 size in
    let f = flat_map (record_bytes v) records in
    let d = sha256 (body v name tier records) in
    let ln : length name ≡ 16 = named in
    let lh : length (header v name tier size) ≡ 40 = length_header v name tier size ln in
    let text : bytes ≡ (header v name tier size ++ f) ++ d =
    is.text ∙ ap (λ n. (header v name tier n ++ f) ++ d) is.whole in
    let lb : length (header v name tier size ++ f) ≡ 40 + width v * size =
    omega (arith, ap (λ n. width v * n) is.whole, lh, length_records v records, length-append (header v name tier size) f) in
    let front : take (40 + width v * size) bytes ≡ header v name tier size ++ f =
    ap (take (40 + width v * size)) text ∙ before (40 + width v * size) (header v name tier size ++ f) d lb in
    let at_name : bytes ≡ magic v ++ (name ++ (t ++ (s ++ (f ++ d)))) = text ∙ after_one (magic v) name t s f d in
    let at_tier : bytes ≡ (magic v ++ name) ++ (t ++ (s ++ (f ++ d))) = text ∙ after_two (magic v) name t s f d in
    let at_size : bytes ≡ (magic v ++ name ++ t) ++ (s ++ (f ++ d)) = text ∙ after_three (magic v) name t s f d in
    let is_magic : take 8 bytes ≡ magic v = ap (take 8) at_name ∙ between 0 8 [] (magic v) (name ++ (t ++ (s ++ (f ++ d)))) refl (length_magic v) in
    let is_name : take 16 (drop 8 bytes) ≡ name =
    ap (λ l. take 16 (drop 8 l)) at_name ∙ between 8 16 (magic v) name (t ++ (s ++ (f ++ d))) (length_magic v) ln in
    let is_tier : take 8 (drop 24 bytes) ≡ t = ap (λ l. take 8 (drop 24 l)) at_tier
    ∙ between 24 8 (magic v ++ name) t (s ++ (f ++ d)) (omega (arith, ln, length_magic v, length-append (magic v) name)) refl in
    let is_size : take 8 (drop 32 bytes) ≡ s = ap (λ l. take 8 (drop 32 l)) at_size
    ∙ between 32 8 (magic v ++ name ++ t) s (f ++ d) (omega (arith, ln, length_magic v, length-append (magic v) name, length-append (magic v ++ name) t))
    refl in
    let len : length bytes ≡ 72 + width v * size =
    omega (arith, ap length text, lb, length-sha256 (body v name tier records), length-append (header v name tier size ++ f) d) in
    record {
      header = ((((omega arith, is_magic), is_name), is_tier), is_size);
      len = len;
      inner = record {
        whole = is.whole;
        storable = is.storable;
        text = ap (drop 40) front ∙ behind 40 (header v name tier size) f lh;
      };
      digest = ap (drop (40 + width v * size)) text ∙ behind (40 + width v * size) (header v name tier size ++ f) d lb
          ∙ ap sha256 (ap (λ n. header v name tier n ++ f) is.whole ∙ sym front);
    }

-- bytes with the parts of a text are the text
head_of : (v : Version) (r : Rules) (tier : ℕ) (bytes : List ℕ) → HasHeader v r tier bytes → take 40 bytes ≡ header v r.name tier (r.tier_size tier)
head_of v r tier bytes h =
    let e1 : take 40 bytes ≡ take 32 bytes ++ take 8 (drop 32 bytes) = take-add 32 8 bytes in
    let e2 : take 32 bytes ≡ take 24 bytes ++ take 8 (drop 24 bytes) = take-add 24 8 bytes in
    let e3 : take 24 bytes ≡ take 8 bytes ++ take 16 (drop 8 bytes) = take-add 8 16 bytes in
    e1 ∙ rw (e2, e3, h.0.0.0.1, h.0.0.1, h.0.1, h.1) refl

pub text_of_parts : (v : Version) (r : Rules) (tier : ℕ) (bytes : List ℕ) (records : List (Option Solved)) → HasHeader v r tier bytes
    → AreFileRecords v (r.tier_size tier) records (records_part v (r.tier_size tier) bytes)
    → drop (body_len v (r.tier_size tier)) bytes ≡ sha256 (take (body_len v (r.tier_size tier)) bytes) → IsVersionText v r tier records bytes
unfolding version_text
text_of_parts v r tier bytes records h are d =
    let n = 40 + width v * r.tier_size tier in
    let front : take n bytes ≡ body v r.name tier records =
    sym (take-append-drop 40 (take n bytes)) ∙ rw (take-take 40 n bytes (omega arith), head_of v r tier bytes h, are.text, are.whole) refl in
    record { whole = are.whole; storable = are.storable; text = sym (take-append-drop n bytes) ∙ rw (d, front) refl }

-- no bytes are the text of two lists of records
pub same_text : (v : Version) (r : Rules) → length r.name ≡ NAME → (tier : ℕ) (records others : List (Option Solved)) (bytes : List ℕ)
    → IsVersionText v r tier records bytes → IsVersionText v r tier others bytes → records ≡ others
same_text v r named tier records others bytes is also =
    let p = (parts_of_text v r named tier records bytes is).inner in
    let q = (parts_of_text v r named tier others bytes also).inner in
    same_records v records others p.storable q.storable (p.whole ∙ sym q.whole) (sym p.text ∙ q.text)
