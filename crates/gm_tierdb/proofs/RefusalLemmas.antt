-- What is refused, and what isn't.
use Rattle.gm_tierdb.proofs.Lower.{◌≡◌, ℕ, ◌<◌, List, length, take, Option, Result, Ok, Err, IfErr, refl, sym, ap, ◌∙◌, arith, NAME, Solved, Rules, Version, One, Two, magic, IsVersionText, HasHeader, file_len}
use Rattle.std.proofs.Common.{get_or, IfOk, IsErrOf, MatchResult, ⊎_elim}
use Rattle.gm_tierdb.specs.declared.file_error.FileError.{FileError}
use Rattle.gm_tierdb.specs.declared.file_error.FileError.TheVariants.{OutOfMemory, Truncated, BadMagic, WrongGame, WrongTier, WrongSize, BadRecord, Trailing, BadDigest, OldVersion}
use Rattle.gm_tierdb.specs.Refusals.{RefusesIn, IsOld}
use Rattle.gm_tierdb.proofs.RecordLemmas.{none_bad}
use Rattle.gm_tierdb.proofs.TextLemmas.{parts_of_text, same_text}

-- no first bytes are those of two versions
pub not_old : (v : Version) (first : List ℕ) → first ≡ magic v → IsOld v first → ⊥
not_old One first e h = h
not_old Two first e h = let other : get_or (magic Two) 7 0 ≡ get_or (magic One) 7 0 = ap (λ bytes. get_or bytes 7 0) (sym e ∙ h) in omega arith

-- a text is refused for want of memory alone
pub only_memory : (v : Version) (r : Rules) → length r.name ≡ NAME → (tier : ℕ) (records : List (Option Solved)) (bytes : List ℕ)
    → IsVersionText v r tier records bytes → (e : FileError) → RefusesIn v r tier bytes e → e ≡ OutOfMemory
only_memory v r named tier records bytes is OutOfMemory h = refl
only_memory v r named tier records bytes is Truncated h =
    let p = parts_of_text v r named tier records bytes is in let len = p.len in
    absurd (⊎_elim (λ (short : length bytes < 40). let none : ⊥ = omega arith in none)
    (λ (short : HasHeader v r tier bytes × (length bytes < file_len v (r.tier_size tier))). let less = short.1 in let none : ⊥ = omega arith in none) h)
only_memory v r named tier records bytes is BadMagic h = absurd (h.1 (parts_of_text v r named tier records bytes is).header.0.0.0.1)
only_memory v r named tier records bytes is WrongGame h = absurd (h.1 (parts_of_text v r named tier records bytes is).header.0.0.1)
only_memory v r named tier records bytes is WrongTier h = absurd (h.1 (parts_of_text v r named tier records bytes is).header.0.1)
only_memory v r named tier records bytes is WrongSize h = absurd (h.1 (parts_of_text v r named tier records bytes is).header.1)
only_memory v r named tier records bytes is (BadRecord index) h =
    let p = (parts_of_text v r named tier records bytes is).inner in
    let less : length h.2.front < length records = omega (arith, p.whole, h.2.count, h.2.within) in
    absurd (none_bad v h.2.front records h.2.rest p.storable less (sym p.text ∙ h.2.split) h.2.bad)
only_memory v r named tier records bytes is Trailing h = let len = (parts_of_text v r named tier records bytes is).len in let more = h.1 in absurd (omega arith)
only_memory v r named tier records bytes is BadDigest h = absurd (h.3 (parts_of_text v r named tier records bytes is).digest)
only_memory v r named tier records bytes is OldVersion h = absurd (not_old v (take 8 bytes) (parts_of_text v r named tier records bytes is).header.0.0.0.1 h.1)

-- where the bytes are the text of some records, these are the answer, or there is no memory
pub exact_answer : {X : Type 0} (listed : X → List (Option Solved)) (v : Version) (r : Rules) → length r.name ≡ NAME
    → (tier : ℕ) (bytes : List ℕ) (result : Result X FileError)
    → IfOk result (λ x. IsVersionText v r tier (listed x) bytes) → IfErr result (RefusesIn v r tier bytes) → (records : List (Option Solved))
    → IsVersionText v r tier records bytes
    → MatchResult result (λ x. listed x ≡ records) (λ e. e ≡ OutOfMemory)
exact_answer listed v r named tier bytes (Ok x) found refused records is = same_text v r named tier (listed x) records bytes found is
exact_answer listed v r named tier bytes (Err e) found refused records is = only_memory v r named tier records bytes is e refused

-- a text of version 1 is refused as that
pub old_version : (r : Rules) → length r.name ≡ NAME → (tier : ℕ) (records : List (Option Solved)) (bytes : List ℕ) → IsVersionText One r tier records bytes
    → (e : FileError) → RefusesIn Two r tier bytes e → e ≡ OldVersion
old_version r named tier records bytes is e h =
    let p = parts_of_text One r named tier records bytes is in
    let old = p.header.0.0.0.1 in
    let len = p.len in
    elim e as (λ x. RefusesIn Two r tier bytes x → x ≡ OldVersion) [
      | OutOfMemory ↦ λ k. absurd (not_old Two (take 8 bytes) (parts_of_text Two r named tier k.0 bytes k.1).header.0.0.0.1 old)
      | Truncated ↦ λ k. absurd (⊎_elim (λ (short : length bytes < 40). let none : ⊥ = omega arith in none)
          (λ (short : HasHeader Two r tier bytes × (length bytes < file_len Two (r.tier_size tier))). not_old Two (take 8 bytes) short.0.0.0.0.1 old) k)
      | BadMagic ↦ λ k. absurd (k.2 old)
      | WrongGame ↦ λ k. absurd (not_old Two (take 8 bytes) k.0.1 old)
      | WrongTier ↦ λ k. absurd (not_old Two (take 8 bytes) k.0.0.1 old)
      | WrongSize ↦ λ k. absurd (not_old Two (take 8 bytes) k.0.0.0.1 old)
      | BadRecord index ↦ λ k. absurd (not_old Two (take 8 bytes) k.0.0.0.0.1 old)
      | Trailing ↦ λ k. absurd (not_old Two (take 8 bytes) k.0.0.0.0.1 old)
      | BadDigest ↦ λ k. absurd (not_old Two (take 8 bytes) k.0.0.0.0.1 old)
      | OldVersion ↦ λ k. refl
    ] h

pub old_answer : {X : Type 0} (listed : X → List (Option Solved)) (r : Rules) → length r.name ≡ NAME → (tier : ℕ) (bytes : List ℕ) (result : Result X FileError)
    → IfOk result (λ x. IsVersionText Two r tier (listed x) bytes) → IfErr result (RefusesIn Two r tier bytes) → (records : List (Option Solved))
    → IsVersionText One r tier records bytes
    → IsErrOf result OldVersion
old_answer listed r named tier bytes (Ok x) found refused records is =
    absurd (not_old Two (take 8 bytes) (parts_of_text Two r named tier (listed x) bytes found).header.0.0.0.1
    (parts_of_text One r named tier records bytes is).header.0.0.0.1)
old_answer listed r named tier bytes (Err e) found refused records is = ap (λ x. Err x) (old_version r named tier records bytes is e refused)
