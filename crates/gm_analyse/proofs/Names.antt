-- The text of a padded name.
use Rattle.gm_analyse.proofs.Lower.{◌≡◌, ℕ, suc, ◌+◌, inl, inr, ◌==◌, Bool, true, false, List, [], ◌∷◌, length, take, refl, ap, arith, None, Some, name_text}
use Rattle.std.proofs.Common.{Result, Ok, Err, ◌&&◌, nat_lt, cond, not}
use Rattle.std.specs.List.{position, position_or_len}
use Rattle.std.specs.Option.{unwrap_or}
use Rattle.std.specs.Str.{IsUtf8, IsAscii}
use Rattle.std.specs.Result.{IsOk, MatchResult}
use Rattle.std.proofs.lemmas.Bool.{and_parts, cases_Bool, ltb-true, ltb-false}
use Rattle.std.proofs.lemmas.List.Sums.{prefix_len-le-length}
use Rattle.std.proofs.lemmas.Str.Ascii.{IsAscii-nil, IsAscii-cons}
use Rattle.gm_game.specs.Texts.{is_padded_text, IsPaddedText}
use Rattle.std.proofs.lemmas.Str.{IsUtf8-from_ascii}

padded_more : (b : ℕ) (bs : List ℕ) → (b == 0) ≡ false → is_padded_text (b ∷ bs) ≡ true → (nat_lt b 128 && is_padded_text bs) ≡ true
padded_more b bs e h = rw e at h

take_first : (n b : ℕ) (bs : List ℕ) → take (1 + n) (b ∷ bs) ≡ b ∷ take n bs
take_first n b bs = let e : 1 + n ≡ suc n = omega arith in rw e refl

first_more : (b : ℕ) (bs : List ℕ) → (b == 0) ≡ false → IsAscii (b ∷ name_text bs) → IsAscii (name_text (b ∷ bs))
first_more b bs e h = rw e (rw (take_first (position_or_len (λ x. x == 0) bs) b bs) h)

name_ascii : (bs : List ℕ) → is_padded_text bs ≡ true → IsAscii (name_text bs)
name_ascii [] h = IsAscii-nil
name_ascii (b ∷ bs) h = elim (cases_Bool (b == 0)) [
  | inl e ↦ rw e IsAscii-nil
  | inr e ↦ (
      let t = and_parts (nat_lt b 128) (is_padded_text bs) (padded_more b bs e h) in
      first_more b bs e (IsAscii-cons b (name_text bs) (ltb-true b 128 t.0) (name_ascii bs t.1)))
]

pub name_is_text : (bs : List ℕ) → IsPaddedText bs → IsUtf8 (name_text bs)
name_is_text bs h = IsUtf8-from_ascii (name_text bs) (name_ascii bs h)

-- where a name ends
end_is : (p : ℕ → Bool) (bs : List ℕ) → unwrap_or (position p bs) (length bs) ≡ position_or_len p bs
end_is p bs = go (nat_lt (position_or_len p bs) (length bs)) refl
  where
    go : (z : Bool) → nat_lt (position_or_len p bs) (length bs) ≡ z → unwrap_or (cond z (Some (position_or_len p bs)) None) (length bs) ≡ position_or_len p bs
    go true e = refl
    go false e = (let a = prefix_len-le-length (λ x. not (p x)) bs in let b = ltb-false (position_or_len p bs) (length bs) e in omega arith)

pub name_ends : (bs : List ℕ) (n : ℕ) → n ≡ length bs → take (unwrap_or (position (λ b. b == 0) bs) n) bs ≡ name_text bs
name_ends bs n e = rw e (ap (λ (k : ℕ). take k bs) (end_is (λ b. b == 0) bs))

-- what can only be Ok
pub ok_unless : {T E : Type 0} (r : Result T E) (P : T → Type 0) (Q : E → Type 0) → MatchResult r P Q → ((e : E) → Q e → ⊥) → IsOk r
ok_unless (Ok x) P Q h n = refl
ok_unless (Err e) P Q h n = absurd (n e h)
