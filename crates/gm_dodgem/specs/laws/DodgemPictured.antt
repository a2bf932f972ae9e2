-- The picture satisfies the laws of pictures.
use Rattle.std.proofs.Common.{◌≡◌, ℕ, ◌/◌, ◌%◌, ◌<◌, Bool, true, false, if◌then◌else◌, eqb, [], ◌∷◌, ◌++◌, length, refl, arith}
use Rattle.std.proofs.lemmas.Bool.Decides.{nat_tests}
use Rattle.gm_board.specs.Squares.{cell_text}
use Rattle.gm_pieces.specs.Small.{small_game}
use Rattle.gm_pieces.specs.laws.MoveLaws.{move_in}
use Rattle.gm_draw.specs.Points.{square_points, IsPointWord}
use Rattle.gm_draw.specs.Pictured.{IsMoveWord, IsPictured}
use Rattle.gm_draw.specs.laws.Points.{one_point, two_points}
use Rattle.gm_draw.specs.laws.Templates.{is_set, pictured_by}
use Rattle.gm_dodgem.specs.Dodgem.{dodgem, dodgem_rules, dodgem_text, dodgem_move, step_text, board_text}
use Rattle.gm_dodgem.specs.DodgemPicture.{dodgem_picture}
use Rattle.gm_dodgem.specs.laws.DodgemLaws.{shown}

set : is_set 9 dodgem_picture ≡ true
unfolding dodgem_picture square_points
set = refl

long : (b : ℕ) → length (board_text b) ≡ 9
unfolding board_text
long b = refl

word : (x : Bool) (a c : ℕ) → a < 9 → (x ≡ false → c < 9) → IsPointWord (square_points 3) (cell_text 3 a ++ (if x then [] else 45 ∷ cell_text 3 c))
unfolding square_points
word true a c l h = one_point (cell_text 3) 9 a l
word false a c l h = two_points (cell_text 3) 9 a c l (h refl)

not_off : (c : ℕ) → c < 10 → eqb c 9 ≡ false → c < 9
not_off c l e = grind (arith, nat_tests)

step_words : (m : ℕ) → m < 90 → IsMoveWord dodgem_picture.style dodgem_picture.points (step_text m)
unfolding step_text dodgem_picture
step_words m l = word (eqb (m % 10) 9) (m / 10) (m % 10) (omega arith) (not_off (m % 10) (omega arith))

pub dodgem_pictured : IsPictured dodgem_rules dodgem_text dodgem_move dodgem_picture
dodgem_pictured = pictured_by dodgem_rules dodgem_text dodgem_move 9 dodgem_picture set shown (λ p l. long p.index)
    (λ p m l c. step_words m (move_in (small_game dodgem) p.index m c).below)
