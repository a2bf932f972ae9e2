-- Bytes as lines, of which fronts are kept.
use Rattle.gm_json.proofs.Lower.{◌≡◌, ℕ, ◌≤◌, ◌<◌, Bool, true, false, List, [], ◌∷◌, ◌++◌, length, take, refl, sym, ap, ◌∙◌, arith, ◌==◌, if◌then◌else◌, length-take, length-append, kept_bytes}
use Rattle.gm_json.proofs.Lower.{inl, inr}
use Rattle.std.proofs.lemmas.Bool.{cases_Bool, eqb-true}
use Rattle.std.proofs.lemmas.List.{take_all, take-append-le}
use Rattle.gm_json.specs.Asking.{lines_from}

-- a byte of a line, the byte that ends it, and the end of all
pub lines_more : (line : List ℕ) (b : ℕ) (bs : List ℕ) → (b == 10) ≡ false → lines_from line (b ∷ bs) ≡ lines_from (line ++ b ∷ []) bs
unfolding lines_from
lines_more line b bs e = ap (λ (c : Bool). if c then line ∷ lines_from [] bs else lines_from (line ++ b ∷ []) bs) e

pub lines_next : (line : List ℕ) (b : ℕ) (bs : List ℕ) → (b == 10) ≡ true → lines_from line (b ∷ bs) ≡ line ∷ lines_from [] bs
unfolding lines_from
lines_next line b bs e = ap (λ (c : Bool). if c then line ∷ lines_from [] bs else lines_from (line ++ b ∷ []) bs) e

pub some_bytes : (n : ℕ) → 0 < n → (n == 0) ≡ false
some_bytes n h = grind arith

pub lines_end : (line : List ℕ) → 0 < length line → lines_from line [] ≡ line ∷ []
unfolding lines_from
lines_end [] h = absurd (omega arith)
lines_end (b ∷ bs) h = ap (λ (c : Bool). if c then [] else (b ∷ bs) ∷ []) (some_bytes (length (b ∷ bs)) (omega arith))

pub lines_none : lines_from [] [] ≡ []
unfolding lines_from
lines_none = refl

pub none_kept : (line : List ℕ) → length (take kept_bytes line) ≡ 0 → line ≡ []
none_kept [] h = refl
none_kept (b ∷ bs) h = absurd (omega (arith, h, length-take kept_bytes (b ∷ bs)))

-- one byte more is kept, or not
pub kept_push : (kept line : List ℕ) (b : ℕ) → kept ≡ take kept_bytes line → length kept < kept_bytes → kept ++ b ∷ [] ≡ take kept_bytes (line ++ b ∷ [])
kept_push kept line b e short =
    let n : length kept ≡ length (take kept_bytes line) = ap length e in
    let few : length line < kept_bytes = omega (arith, n, short, length-take kept_bytes line) in
    ap (λ (l : List ℕ). l ++ b ∷ []) (e ∙ take_all kept_bytes line (omega (arith, few))) ∙ sym
    (take_all kept_bytes (line ++ b ∷ []) (omega (arith, few, length-append line (b ∷ []))))

pub kept_full : (kept line : List ℕ) (b : ℕ) → kept ≡ take kept_bytes line → kept_bytes ≤ length kept → kept ≡ take kept_bytes (line ++ b ∷ [])
kept_full kept line b e full =
    let n : length kept ≡ length (take kept_bytes line) = ap length e in
    e ∙ sym (take-append-le kept_bytes line (b ∷ []) (omega (arith, n, full, length-take kept_bytes line)))

-- a line that has begun is one line at most
pub one_begun : (line : List ℕ) → length (lines_from line []) ≤ 1
unfolding lines_from
one_begun [] = omega arith
one_begun (b ∷ bs) = omega (arith, ap (λ (ls : List (List ℕ)). length ls) (lines_end (b ∷ bs) (omega arith)))

-- a list that is not empty, and one that is not full
pub some_of : (n : ℕ) (empty : Bool) → empty ≡ (n == 0) → empty ≡ false → 0 < n
some_of n empty e h = grind (arith, e, h)

pub short_of : (n most : ℕ) (full : Bool) → full ≡ (n == most) → n ≤ most → full ≡ false → n < most
short_of n most full e fits h = grind (arith, e, fits, h)

pub full_of : (n most : ℕ) (full : Bool) → full ≡ (n == most) → n ≤ most → full ≡ true → most ≤ n
full_of n most full e fits h = grind (arith, e, fits, h)

pub unequal : (b n : ℕ) → (b ≡ n → ⊥) → (b == n) ≡ false
unequal b n h = elim (cases_Bool (b == n)) [ inl t ↦ absurd (h (eqb-true b n t)) | inr f ↦ f ]
