-- The pictures satisfy the laws of pictures.
use Rattle.std.proofs.Common.{◌≡◌, ℕ, ◌+◌, ◌*◌, ◌/◌, ◌%◌, ◌<◌, Bool, true, false, [], ◌∷◌, length, refl, sym, arith, inl, inr, ltb-true, subst}
use Rattle.std.proofs.lemmas.Bool.{cases_eq}
use Rattle.gm_pieces.specs.Common.{Contains, and_left}
use Rattle.gm_pieces.specs.Small.{small_game}
use Rattle.gm_pieces.specs.laws.MoveLaws.{move_in}
use Rattle.gm_draw.specs.Points.{IsPointWord}
use Rattle.gm_draw.specs.Pictured.{IsMoveWord, IsPictured}
use Rattle.gm_draw.specs.laws.Points.{named_point}
use Rattle.gm_draw.specs.laws.Templates.{is_set, pictured_by}
use Rattle.gm_numbers.specs.Digits.{pair_text}
use Rattle.gm_numbers.specs.Nim.{nim, nim_rules, nim_text, nim_move, can_move, board_text, step_text}
use Rattle.gm_numbers.specs.Chomp.{chomp_rules, chomp_text, chomp_move, board_text as bar_text, step_text as bite_text}
use Rattle.gm_numbers.specs.NumbersPictures.{place_name, number_places, nim_title, nim_picture, chomp_picture}
use Rattle.gm_numbers.specs.laws.NimLaws.{shown}
use Rattle.gm_numbers.specs.laws.ChompLaws.{shown as bars_shown}

-- each number from 1 to 7 is the name of a place
named : (n m : ℕ) → n ≡ m → Contains number_places ((48 + m) ∷ []) → Contains number_places ((48 + n) ∷ [])
named n m e c = subst (λ (i : ℕ). Contains number_places ((48 + i) ∷ [])) (sym e) c

number_named : (n : ℕ) → 0 < n → n < 8 → Contains number_places ((48 + n) ∷ [])
unfolding number_places
number_named n low high =
    elim (cases_eq n 1) [
      | inl e ↦ named n 1 e (named_point place_name 7 0 (omega arith))
      | inr a ↦
          elim (cases_eq n 2) [
            | inl e ↦ named n 2 e (named_point place_name 7 2 (omega arith))
            | inr b ↦
                elim (cases_eq n 3) [
                  | inl e ↦ named n 3 e (named_point place_name 7 4 (omega arith))
                  | inr c ↦
                      elim (cases_eq n 4) [
                        | inl e ↦ named n 4 e (named_point place_name 7 6 (omega arith))
                        | inr d ↦
                            elim (cases_eq n 5) [
                              | inl e ↦ named n 5 e (named_point place_name 7 1 (omega arith))
                              | inr f ↦
                                  elim (cases_eq n 6) [
                                    | inl e ↦ named n 6 e (named_point place_name 7 3 (omega arith))
                                    | inr g ↦
                                        named n 7 (omega (arith, low, high, a, b, c, d, f, g)) (named_point place_name 7 5 (omega arith))
                                  ]
                            ]
                      ]
                ]
          ]
    ]

-- two such numbers with `-` between them are a word of a move
pub pair_word : (a b : ℕ) → 0 < a → a < 8 → 0 < b → b < 8 → IsPointWord number_places (pair_text a b)
pair_word a b i j k l = inr ((48 + a) ∷ [], (48 + b) ∷ [], number_named a i j, number_named b k l, refl)

set : (misere : Bool) → is_set 7 (nim_picture misere) ≡ true
unfolding nim_picture nim_title number_places
set false = refl
set true = refl

long : (b : ℕ) → length (board_text b) ≡ 7
unfolding board_text
long b = refl

step_word : (misere : Bool) (b m : ℕ) → m < 32 → can_move b m ≡ true → IsMoveWord (nim_picture misere).style (nim_picture misere).points (step_text m)
unfolding nim_picture step_text can_move
step_word misere b m l e =
    let some = ltb-true 0 (m % 8) (and_left _ _ e) in
    pair_word (m / 8 + 1) (m % 8) (omega arith) (omega (arith, l)) some (omega arith)

pub nim_pictured : (misere : Bool) → IsPictured (nim_rules misere) nim_text nim_move (nim_picture misere)
nim_pictured misere = pictured_by (nim_rules misere) nim_text nim_move 7 (nim_picture misere) (set misere) (shown misere) (λ p l. long p.index)
    (λ p m l c. let k = move_in (small_game (nim misere)) p.index m c in step_word misere p.index m k.below k.can)

chomp_set : is_set 7 chomp_picture ≡ true
unfolding chomp_picture number_places
chomp_set = refl

chomp_long : (b : ℕ) → length (bar_text b) ≡ 7
unfolding bar_text
chomp_long b = refl

bite_word : (m : ℕ) → IsMoveWord chomp_picture.style chomp_picture.points (bite_text m)
unfolding chomp_picture bite_text
bite_word m = pair_word (m % 28 / 7 + 1) (m % 28 % 7 + 1) (omega arith) (omega arith) (omega arith) (omega arith)

pub chomp_pictured : IsPictured chomp_rules chomp_text chomp_move chomp_picture
chomp_pictured = pictured_by chomp_rules chomp_text chomp_move 7 chomp_picture chomp_set bars_shown (λ p l. chomp_long (512 * p.tier + p.index))
    (λ p m l c. bite_word m)
