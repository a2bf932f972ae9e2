-- Texts that are cut at commas, and at the first two dots.
use Rattle.std.proofs.Common.{◌≡◌, ◌≢◌, ◌∙◌, ◌<◌, ◌≤◌, ◌+◌, ◌==◌, ℕ, suc, zero, Bool, cond, true, false, refl, sym, ap, true≢false, arith, List, [], ◌∷◌, ◌++◌, length, take, drop, get_or, Option, Some, None, codes}
use Rattle.std.specs.Prelude.{option_map, option_and_then, MatchOption}
use Rattle.std.specs.Borrow.{Bor}
use Rattle.std.specs.Str.{bytes_eq}
use Rattle.std.specs.Str.Pattern.{FindsText, LacksTextAt, SplitsAroundMatch}
use Rattle.std.proofs.lemmas.Bool.{ne_eqb}
use Rattle.std.proofs.lemmas.Slice.Eq.{bytes_eq-Decides}
use Rattle.std.proofs.lemmas.List.{take-append-drop}
use Rattle.gm_json.specs.declared.asked.With.{With}
use Rattle.gm_command.specs.Searching.{begin_with, cut_at_dots, split_at_commas, with_word, with_words}

-- ---- commas

abbrev pub HasNoComma : List ℕ → Type 0
HasNoComma s = (i : ℕ) → i < length s → get_or s i 0 ≢ 44

head_not : (x : ℕ) (xs : List ℕ) → HasNoComma (x ∷ xs) → (x == 44) ≡ false
head_not x xs h = ne_eqb x 44 (h 0 (omega arith))

tail_not : (x : ℕ) (xs : List ℕ) → HasNoComma (x ∷ xs) → HasNoComma xs
tail_not x xs h i lt = h (suc i) (omega arith)

pub split_whole : (s : List ℕ) → HasNoComma s → split_at_commas s ≡ s ∷ []
split_whole [] h = refl
split_whole (x ∷ xs) h = ap (λ (b : Bool). cond b ([] ∷ split_at_commas xs) (begin_with x (split_at_commas xs))) (head_not x xs h)
    ∙ ap (begin_with x) (split_whole xs (tail_not x xs h))

pub split_first : (xs ys : List ℕ) → HasNoComma xs → split_at_commas (xs ++ 44 ∷ ys) ≡ xs ∷ split_at_commas ys
split_first [] ys h = refl
split_first (x ∷ xs) ys h =
    ap (λ (b : Bool). cond b ([] ∷ split_at_commas (xs ++ 44 ∷ ys)) (begin_with x (split_at_commas (xs ++ 44 ∷ ys)))) (head_not x xs h)
    ∙ ap (begin_with x) (split_first xs ys (tail_not x xs h))

-- the last word
pub with_last : (w : With) (s : List ℕ) → HasNoComma s → with_words w (split_at_commas s) ≡ with_word w s
with_last w s h = ap (with_words w) (split_whole s h) ∙ go (with_word w s)
  where
    go : (o : Option With) → option_and_then (λ more. Some more) o ≡ o
    go None = refl
    go (Some more) = refl

-- ---- dots

abbrev dots : List ℕ
dots = codes ".."

begins : (s : List ℕ) (b : Bool) → bytes_eq (take 2 s) dots ≡ b → LacksTextAt dots s 0 → b ≡ false
begins s false e lacks = refl
begins s true e lacks = absurd (lacks (drop 2 s) (sym (take-append-drop 2 s) ∙ ap (λ (front : List ℕ). front ++ drop 2 s) ((bytes_eq-Decides (take 2 s) dots).0 e)))

cut_none : (s : List ℕ) → ((i : ℕ) → i ≤ length s → LacksTextAt dots s i) → cut_at_dots s ≡ None
cut_none [] h = refl
cut_none (c ∷ cs) h =
    ap (λ (b : Bool). cond b (Some ([], drop 2 (c ∷ cs))) (option_map (λ (p : List ℕ × List ℕ). (c ∷ p.0, p.1)) (cut_at_dots cs)))
    (begins (c ∷ cs) (bytes_eq (take 2 (c ∷ cs)) dots) refl (h 0 (omega arith)))
    ∙ ap (option_map (λ (p : List ℕ × List ℕ). (c ∷ p.0, p.1))) (cut_none cs (λ i lt. h (suc i) (omega arith)))

cut_some : (s : List ℕ) (i : ℕ) → ((k : ℕ) → k < i → LacksTextAt dots s k) → drop i s ≡ dots ++ drop (i + 2) s → cut_at_dots s ≡ Some (take i s, drop (i + 2) s)
cut_some [] zero lacks at = absurd (true≢false (sym (ap (λ (s : List ℕ). bytes_eq (take 1 s) (codes ".")) at)))
cut_some [] (suc i) lacks at = absurd (true≢false (sym (ap (λ (s : List ℕ). bytes_eq (take 1 s) (codes ".")) at)))
cut_some (c ∷ cs) zero lacks at =
    ap (λ (b : Bool). cond b (Some ([], drop 2 (c ∷ cs))) (option_map (λ (p : List ℕ × List ℕ). (c ∷ p.0, p.1)) (cut_at_dots cs)))
    ((bytes_eq-Decides (take 2 (c ∷ cs)) dots).1 (ap (take 2) at))
cut_some (c ∷ cs) (suc i) lacks at =
    let later : suc i + 2 ≡ suc (i + 2) = omega arith in
    let rest : drop i cs ≡ dots ++ drop (i + 2) cs = at ∙ ap (λ (k : ℕ). dots ++ drop k (c ∷ cs)) later in
    ap (λ (b : Bool). cond b (Some ([], drop 2 (c ∷ cs))) (option_map (λ (p : List ℕ × List ℕ). (c ∷ p.0, p.1)) (cut_at_dots cs)))
    (begins (c ∷ cs) (bytes_eq (take 2 (c ∷ cs)) dots) refl (lacks 0 (omega arith)))
    ∙ ap (option_map (λ (p : List ℕ × List ℕ). (c ∷ p.0, p.1))) (cut_some cs i (λ k lt. lacks (suc k) (omega arith)) rest)
    ∙ ap (λ (k : ℕ). Some (take (suc i) (c ∷ cs), drop k (c ∷ cs))) (sym later)

-- `split_once` at two dots
pub dots_cut : (s : List ℕ) (r : Option (Bor (List ℕ) × Bor (List ℕ))) → MatchOption r (FindsText dots s None) (λ x. SplitsAroundMatch (FindsText dots) s x.0.now x.1.now)
    → option_map (λ (x : Bor (List ℕ) × Bor (List ℕ)). (x.0.now, x.1.now)) r ≡ cut_at_dots s
dots_cut s None h = sym (cut_none s h)
dots_cut s (Some x) h =
    let (i, j, found, front, back, _, _, _) = h in
    let ends : j ≡ i + 2 = found.1.ends in
    let at : drop i s ≡ dots ++ drop (i + 2) s = found.1.split ∙ ap (λ (k : ℕ). dots ++ drop k s) ends in
    ap Some (λ k. (front k, (back ∙ ap (λ (m : ℕ). drop m s) ends) k)) ∙ sym (cut_some s i found.0 at)
