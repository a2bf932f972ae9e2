-- A page is the viewer with its lines between the two parts.
use Rattle.gm_page.proofs.Lower.{◌≡◌, ℕ, List, [], ◌++◌, ap, ◌∙◌, append_assoc}

-- the parts of a page that were appended to an empty text
pub parts_of : (front head rows back p0 p1 p2 p3 p4 : List ℕ) → p0 ≡ [] → p1 ≡ p0 ++ front → p2 ≡ p1 ++ head → p3 ≡ p2 ++ rows → p4 ≡ p3 ++ back
    → p4 ≡ front ++ (head ++ rows) ++ back
parts_of front head rows back p0 p1 p2 p3 p4 empty a b c d =
    d ∙ ap (λ (l : List ℕ). l ++ back) (c ∙ ap (λ (l : List ℕ). l ++ rows) (b ∙ ap (λ (l : List ℕ). l ++ head) (a ∙ ap (λ (l : List ℕ). l ++ front) empty)))
    ∙ simp append_assoc

-- a part that was appended before the others
pub before_others : (p0 x p1 others p2 : List ℕ) → p1 ≡ p0 ++ x → p2 ≡ p1 ++ others → p2 ≡ p0 ++ (x ++ others)
before_others p0 x p1 others p2 first later = later ∙ ap (λ (l : List ℕ). l ++ others) first ∙ append_assoc p0 x others
