-- The texts of the cells of a square tell them apart.
use Rattle.std.proofs.Math.Nat.{div-add-mod}
use Rattle.gm_board.specs.Squares.{cell_text}
use Rattle.std.proofs.Common.{◌≡◌, ℕ, ◌+◌, ◌*◌, ◌/◌, ◌%◌, ◌∷◌, ◌++◌, sym, ap₂, ◌∙◌, arith}

point_once : (s j k : ℕ) → 97 + j / s ≡ 97 + k / s → 49 + j % s ≡ 49 + k % s → j ≡ k
point_once s j k e f =
    let row : j / s ≡ k / s = omega (arith, e) in
    let column : j % s ≡ k % s = omega (arith, f) in
    sym (div-add-mod j s) ∙ ap₂ (λ (x y : ℕ). s * x + y) row column ∙ div-add-mod k s

-- cells with the same text are the same
pub cell_text_once : (s j k : ℕ) → cell_text s j ≡ cell_text s k → j ≡ k
cell_text_once s j k e =
    let p : 97 + j / s ≡ 97 + k / s = cc in
    let q : 49 + j % s ≡ 49 + k % s = cc in
    point_once s j k p q

-- pairs of cells with the same text, with `-` between them, are the same
pub step_text_once : (s a b c d : ℕ) → cell_text s a ++ 45 ∷ cell_text s b ≡ cell_text s c ++ 45 ∷ cell_text s d → (a ≡ c) × (b ≡ d)
step_text_once s a b c d e =
    let p : 97 + a / s ≡ 97 + c / s = cc in
    let q : 49 + a % s ≡ 49 + c % s = cc in
    let r : 97 + b / s ≡ 97 + d / s = cc in
    let t : 49 + b % s ≡ 49 + d % s = cc in
    (point_once s a c p q, point_once s b d r t)
