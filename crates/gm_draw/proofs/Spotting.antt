-- Each byte of a board is drawn at a point of its own.
use Rattle.gm_draw.proofs.Lower.{◌≡◌, ℕ, ◌+◌, List, ◌++◌, sym, ap, ◌∙◌, arith, flat_map}
use Rattle.std.proofs.Common.{◌<◌, ◌⊎◌, Bool, ◌==◌, cond, eqb, eqb-true, [], ◌∷◌, count_by, refl, inl, inr}
use Rattle.std.specs.List.{All}
use Rattle.std.proofs.lemmas.List.Elements.{All-nil, All-cons}
use Rattle.std.proofs.lemmas.List.Sums.{sum_by-cons}
use Rattle.gm_draw.specs.declared.pictured.Style.{Style}
use Rattle.gm_draw.specs.Diagrams.{over_at}
use Rattle.gm_draw.specs.Templates.{next_x, next_y, spread}
use Rattle.std.proofs.lemmas.Bool.{cases_Bool, cond-true, cond-false}
use Rattle.gm_draw.specs.Spots.{Spot, spots, IsSpotBefore, AreSpotsInOrder, IsEachOnce}

spread_spots : (f : ℕ → ℕ → ℕ → List ℕ) (x y : ℕ) (bs : List ℕ) → spread f x y bs ≡ flat_map (λ s. f s.x s.y s.byte) (spots x y bs)
unfolding spread spots
spread_spots f x y [] = refl
spread_spots f x y (b ∷ bs) = ap (λ (t : List ℕ). f x y b ++ t) (spread_spots f (next_x x b) (next_y y b) bs)

count_spots : (test : ℕ → Bool) (x y : ℕ) (bs : List ℕ) → count_by (λ s. test s.byte) (spots x y bs) ≡ count_by test bs
unfolding spots
count_spots test x y [] = refl
count_spots test x y (b ∷ bs) =
    sum_by-cons (λ (s : Spot). cond (test s.byte) 1 0) (record { x = x; y = y; byte = b }) (spots (next_x x b) (next_y y b) bs)
    ∙ ap (λ (n : ℕ). cond (test b) 1 0 + n) (count_spots test (next_x x b) (next_y y b) bs)
    ∙ sym (sum_by-cons (λ (c : ℕ). cond (test c) 1 0) b bs)

-- the byte after a byte is past it
past_here : (x y b : ℕ) → (y < next_y y b) ⊎ ((y ≡ next_y y b) × (x < next_x x b))
past_here x y b = elim (cases_Bool (eqb b 10)) [
  | inl e ↦ (let k : next_y y b ≡ y + 40 = cond-true _ _ _ e in inl (omega (arith, k)))
  | inr e ↦ (let (h, k) : (next_x x b ≡ x + 20) × (next_y y b ≡ y) = (cond-false _ _ _ e, cond-false _ _ _ e) in inr (omega (arith, k), omega (arith, h)))
]

-- what is past a byte past a point is past that point too
past_both : (x y u v p q : ℕ) → (y < v) ⊎ ((y ≡ v) × (x < u)) → (v < q) ⊎ ((v ≡ q) × (u < p)) → (y < q) ⊎ ((y ≡ q) × (x < p))
past_both x y u v p q (inl l) (inl m) = inl (omega (arith, l, m))
past_both x y u v p q (inl l) (inr m) = (let same = m.0 in inl (omega (arith, l, same)))
past_both x y u v p q (inr l) (inl m) = (let same = l.0 in inl (omega (arith, same, m)))
past_both x y u v p q (inr (e, l)) (inr (f, m)) = inr (e ∙ f, omega (arith, l, m))

all_past : (x y c u v : ℕ) (bs : List ℕ) → (y < v) ⊎ ((y ≡ v) × (x < u)) → All (IsSpotBefore (record { x = x; y = y; byte = c })) (spots u v bs)
unfolding spots
all_past x y c u v [] h = All-nil (IsSpotBefore (record { x = x; y = y; byte = c }))
all_past x y c u v (b ∷ bs) h =
    All-cons (IsSpotBefore (record { x = x; y = y; byte = c })) (record { x = u; y = v; byte = b }) (spots (next_x u b) (next_y v b) bs) h
    (all_past x y c (next_x u b) (next_y v b) bs (past_both x y u v _ _ h (past_here u v b)))

apart : (x y : ℕ) (bs : List ℕ) → AreSpotsInOrder (spots x y bs)
unfolding spots AreSpotsInOrder
apart x y [] = tt
apart x y (b ∷ bs) = (all_past x y b (next_x x b) (next_y y b) bs (past_here x y b), apart (next_x x b) (next_y y b) bs)

pub each_once : (style : Style) (text board : List ℕ) → IsEachOnce style text board
each_once style text board = record {
  men = spread_spots (over_at style text) 40 40 board;
  apart = apart 40 40 board;
  once = λ k e. (count_spots (λ b. b == 65 + k) 40 40 board ∙ eqb-true _ _ e);
}
