-- Parts of templates, one by one.
use Rattle.std.proofs.Common.{ℕ, List, [], ◌∷◌, ◌++◌, ◌≡◌, ◌+◌, ◌-◌, ◌<◌, ◌≤◌, ◌∙◌, zero, suc, true, length, drop, take, get_or, refl, sym, ap, subst, arith}
use Rattle.std.proofs.lemmas.List.{append-nil, drop_all, drop_more, length-drop, take_all}
use Rattle.std.specs.List.{flat_map, list_all}
use Rattle.gm_caption.specs.declared.template.Part.{Part}
use Rattle.gm_caption.specs.Templates.{first_part, further, is_allowed, is_template, parts_from}

-- a byte that is still of an earlier part
pub one_skipped : (skip b : ℕ) (bs : List ℕ) → 0 < skip → parts_from skip (b ∷ bs) ≡ parts_from (skip - 1) bs
unfolding parts_from
one_skipped zero b bs l = absurd (omega (arith, l))
one_skipped (suc k) b bs l =
    let e : suc k - 1 ≡ k = omega arith in
    ap (λ (n : ℕ). parts_from n bs) (sym e)

pub skipped : (text : List ℕ) (at skip : ℕ) → at < length text → 0 < skip → parts_from skip (drop at text) ≡ parts_from (skip - 1) (drop (at + 1) text)
skipped text at skip l less = ap (parts_from skip) (drop_more text at 0 l) ∙ one_skipped skip (get_or text at 0) (drop (at + 1) text) less

-- a part that begins here
pub one_begun : (skip b : ℕ) (bs : List ℕ) → skip ≤ 0 → parts_from skip (b ∷ bs) ≡ first_part b (b ∷ bs) ∷ parts_from (further (first_part b (b ∷ bs))) bs
unfolding parts_from
one_begun zero b bs l = refl
one_begun (suc k) b bs l = absurd (omega (arith, l))

pub begun : (text : List ℕ) (at skip n : ℕ) (p : Part) → at < length text → skip ≤ 0 → p ≡ first_part (get_or text at 0) (drop at text) → n ≡ further p
    → parts_from skip (drop at text) ≡ p ∷ parts_from n (drop (at + 1) text)
begun text at skip n p l none is long =
    let b = get_or text at 0 in
    let bs = drop (at + 1) text in
    let here : drop at text ≡ b ∷ bs = drop_more text at 0 l in
    let whole : p ≡ first_part b (b ∷ bs) = is ∙ ap (first_part b) here in
    ap (parts_from skip) here ∙ one_begun skip b bs none
    ∙ ap (λ (q : Part). q ∷ parts_from (further q) bs) (sym whole) ∙ ap (λ (m : ℕ). p ∷ parts_from m bs) (sym long)

-- the texts of all parts
pub text_all : (f : Part → List ℕ) (text : List ℕ) (at skip : ℕ) (new start : List ℕ) → length text ≤ at
    → new ++ flat_map f (parts_from skip (drop at text)) ≡ start → new ≡ start
unfolding parts_from
text_all f text at skip new start l h =
    sym (append-nil new) ∙ ap (λ (t : List ℕ). new ++ flat_map f (parts_from skip t)) (sym (drop_all at text l)) ∙ h

-- the bytes from a place on
pub rest_whole : (text : List ℕ) (at : ℕ) → take (length text - at) (drop at text) ≡ drop at text
rest_whole text at = take_all (length text - at) (drop at text) (subst (λ (n : ℕ). n ≤ length text - at) (sym (length-drop at text)) (omega arith))

-- no part is left
pub allowed_all : (text : List ℕ) (at skip : ℕ) → length text ≤ at → list_all is_allowed (parts_from skip (drop at text)) ≡ is_template text → true ≡ is_template text
unfolding parts_from
allowed_all text at skip l h = sym (ap (λ (t : List ℕ). list_all is_allowed (parts_from skip t)) (drop_all at text l)) ∙ h
