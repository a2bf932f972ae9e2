-- Files whose digest is tested apart.
use Rattle.gm_tierdb.proofs.Lower.{◌≡◌, ℕ, ◌+◌, ◌-◌, List, length, take, drop, Option, Result, Ok, Err, sym, ap, subst, ◌∙◌, arith, sha256, NAME, Solved, Rules, Version, One, Two, width, AreFileRecords, IsVersionText, HasHeader, records_part, file_len}
use Rattle.std.proofs.Common.{IsErrAnd, IsErrOf, ◌*◌}
use Rattle.gm_tierdb.specs.declared.file_error.FileError.{FileError}
use Rattle.gm_tierdb.specs.declared.file_error.FileError.TheVariants.{OutOfMemory, Truncated, BadMagic, WrongGame, WrongTier, WrongSize, BadRecord, Trailing, BadDigest, OldVersion}
use Rattle.gm_tierdb.specs.Refusals.{RefusesIn, body_len}
use Rattle.gm_tierdb.specs.inner.Seals.{IsSealed, IsUnsealed, IsWhole, RefusesWhole}
use Rattle.gm_tierdb.specs.TierText.{IsTierText}
use Rattle.gm_tierdb.proofs.TextLemmas.{parts_of_text, text_of_parts, same_text}
use Rattle.gm_tierdb.proofs.RefusalLemmas.{not_old, only_memory}

digest_place : (all n : ℕ) → all ≡ 72 + n → all - 32 ≡ 40 + n
digest_place all n e = omega arith

-- the digest of a whole file stands where that of its length stands
pub sealed_digest : (v : Version) (r : Rules) (tier : ℕ) (bytes : List ℕ) → length bytes ≡ file_len v (r.tier_size tier) → IsSealed bytes
    → drop (body_len v (r.tier_size tier)) bytes ≡ sha256 (take (body_len v (r.tier_size tier)) bytes)
sealed_digest v r tier bytes len seal =
    subst (λ n. drop n bytes ≡ sha256 (take n bytes)) (digest_place (length bytes) (width v * r.tier_size tier) len) seal.1

pub digest_sealed : (v : Version) (r : Rules) (tier : ℕ) (bytes : List ℕ) → length bytes ≡ file_len v (r.tier_size tier)
    → drop (body_len v (r.tier_size tier)) bytes ≡ sha256 (take (body_len v (r.tier_size tier)) bytes) → IsSealed bytes
digest_sealed v r tier bytes len digest =
    (omega (arith, len), subst (λ n. drop n bytes ≡ sha256 (take n bytes)) (sym (digest_place (length bytes) (width v * r.tier_size tier) len)) digest)

-- the records of a whole file are those of a text, if it is sealed
pub sealed_text : (v : Version) (r : Rules) (tier : ℕ) (bytes : List ℕ) → IsWhole v r tier bytes → IsSealed bytes → (records : List (Option Solved))
    → AreFileRecords v (r.tier_size tier) records (records_part v (r.tier_size tier) bytes) → IsVersionText v r tier records bytes
sealed_text v r tier bytes whole seal records are = text_of_parts v r tier bytes records whole.0 are (sealed_digest v r tier bytes whole.1 seal)

-- a whole file that is not sealed is refused for its digest
pub unsealed_refused : (v : Version) (r : Rules) (tier : ℕ) (bytes : List ℕ) → IsWhole v r tier bytes → (IsSealed bytes → ⊥)
    → RefusesIn v r tier bytes BadDigest
unsealed_refused v r tier bytes whole other = (whole.0, whole.1, whole.2, λ digest. other (digest_sealed v r tier bytes whole.1 digest))

-- a text is a sealed file
pub sealed_of_text : (v : Version) (r : Rules) → length r.name ≡ NAME → (tier : ℕ) (records : List (Option Solved)) (bytes : List ℕ)
    → IsVersionText v r tier records bytes → IsSealed bytes
sealed_of_text v r named tier records bytes is = let p = parts_of_text v r named tier records bytes is in digest_sealed v r tier bytes p.len p.digest

-- the same of the records that were read
pub unsealed_text : (r : Rules) → length r.name ≡ NAME → (tier : ℕ) (bytes : List ℕ) → IsWhole Two r tier bytes → (records : List (Option Solved))
    → AreFileRecords Two (r.tier_size tier) records (records_part Two (r.tier_size tier) bytes) → IsUnsealed r tier records bytes
unsealed_text r named tier bytes whole records are =
    let text : IsSealed bytes → IsTierText r tier records bytes = λ seal. sealed_text Two r tier bytes whole seal records are in
    record {
      sealed = text;
      unsealed = λ other. unsealed_refused Two r tier bytes whole other;
      only = λ others is. (let seal = sealed_of_text Two r named tier others bytes is in
          (seal, same_text Two r named tier others records bytes is (text seal)));
    }

-- what refuses a file but for its digest refuses it
pub refuses_of_whole : (v : Version) (r : Rules) (tier : ℕ) (bytes : List ℕ) (e : FileError) → RefusesWhole v r tier bytes e → RefusesIn v r tier bytes e
refuses_of_whole v r tier bytes OutOfMemory h = absurd h
refuses_of_whole v r tier bytes Truncated h = h
refuses_of_whole v r tier bytes BadMagic h = h
refuses_of_whole v r tier bytes WrongGame h = h
refuses_of_whole v r tier bytes WrongTier h = h
refuses_of_whole v r tier bytes WrongSize h = h
refuses_of_whole v r tier bytes (BadRecord index) h = h
refuses_of_whole v r tier bytes Trailing h = h
refuses_of_whole v r tier bytes BadDigest h = absurd h
refuses_of_whole v r tier bytes OldVersion h = h

-- and nothing but memory refuses it
pub whole_of_text : (r : Rules) → length r.name ≡ NAME → (tier : ℕ) (records : List (Option Solved)) (bytes : List ℕ)
    → IsTierText r tier records bytes → (e : FileError)
    → RefusesWhole Two r tier bytes e → ⊥
whole_of_text r named tier records bytes is e h =
    subst (RefusesWhole Two r tier bytes) (only_memory Two r named tier records bytes is e (refuses_of_whole Two r tier bytes e h)) h

-- no whole file is a text of version 1
pub not_old_text : (r : Rules) → length r.name ≡ NAME → (tier : ℕ) (records : List (Option Solved)) (bytes : List ℕ) → IsVersionText One r tier records bytes
    → HasHeader Two r tier bytes → ⊥
not_old_text r named tier records bytes is header = not_old Two (take 8 bytes) header.0.0.0.1 (parts_of_text One r named tier records bytes is).header.0.0.0.1

-- what is passed on is what it was
pub error_again : {T : Type 0} → (result : Result T FileError) (e why : FileError) → IsErrAnd result (λ y. y ≡ e) → e ≡ why → IsErrOf result why
error_again (Ok x) e why h is = absurd h
error_again (Err y) e why h is = ap (λ x. Err x) (h ∙ is)
