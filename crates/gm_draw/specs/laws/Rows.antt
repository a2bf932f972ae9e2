-- The pictures of rows of numbers satisfy the laws of pictures: the bracket comes after the numbers before the current one.
use Rattle.std.proofs.Common.{◌≡◌, ◌↔◌, ℕ, ◌+◌, ◌<◌, ◌≤◌, Bool, true, List, [], ◌∷◌, map, length, ◌∙◌, cond, eqb, leb, eqb-true, sym, ap, subst}
use Rattle.std.specs.Fmt.{decimal}
use Rattle.std.specs.List.{Contains, list_all, range_with_len}
use Rattle.gm_game.specs.declared.position.Position.{Position}
use Rattle.gm_game.specs.Rules.{Rules, at}
use Rattle.gm_game.proofs.SetLemmas.{same_position}
use Rattle.gm_board.specs.laws.Lists.{contains_range, contains_unmap, range_below, and_left, and_right}
use Rattle.gm_board.specs.laws.Permutations.{all_at}
use Rattle.std.specs.Prelude.{◌&&◌, not, slice_index_or}
use Rattle.gm_draw.specs.declared.drawn.TheConstants.{DRAWING}
use Rattle.gm_draw.specs.declared.pictured.Style.{Style}
use Rattle.gm_draw.specs.declared.pictured.Style.TheVariants.{Row}
use Rattle.gm_draw.specs.Templates.{is_slot}
use Rattle.gm_draw.specs.Pictures.{PictureSpec, layout_of, drawn_on, drawn}
use Rattle.gm_draw.specs.Points.{is_name, are_apart, IsPointWord}
use Rattle.gm_draw.specs.Pictured.{IsBoardOf, IsMoveWord, most_points, IsPictured}
use Rattle.gm_draw.specs.laws.Points.{named_point}
use Rattle.gm_draw.specs.laws.Templates.{low}

-- the number of spaces before the bracket
abbrev spaces : List ℕ → ℕ
spaces [] = 0
spaces (b ∷ bs) = cond (eqb b 91) 0 (cond (eqb b 32) 1 0 + spaces bs)

abbrev row_test : List (List ℕ) → ℕ → Bool
row_test rows i = eqb (spaces (slice_index_or rows i [])) i && leb (length (slice_index_or rows i [])) 256

-- what computation shows about a picture of n numbers
abbrev pub is_row_set : ℕ → PictureSpec → Bool
is_row_set n picture =
    list_all (row_test picture.rows) (range_with_len 0 n) && (leb (length picture.board) 256 && (list_all (λ b. not (is_slot b)) picture.board
    && (leb (length picture.points) 26 && (list_all is_name picture.points && are_apart picture.points))))

-- the text of a position is its index in decimal
abbrev pub number_text : Position → List ℕ
number_text p = decimal p.index

-- the words of moves are numbers below n
abbrev pub AreNumbers : Rules → (Position → ℕ → List ℕ) → ℕ → Type 0
AreNumbers r move_shown n = (p : Position) (m : ℕ) → r.is_legal p ≡ true → Contains (r.moves p) m → IsPointWord (map decimal (range_with_len 0 n)) (move_shown p m)

-- the positions are the numbers below n, which are their texts
pub record AreRowed (r : Rules) (n : ℕ) : Type 0 where
  pub below : (p : Position) → r.is_legal p ≡ true → (p.tier ≡ 0) × (p.index < n)
  pub positions : (text : List ℕ) → Contains (map decimal (range_with_len 0 n)) text ↔ ((p : Position) × (r.is_legal p ≡ true) × (number_text p ≡ text))

pub rowed : (r : Rules) (n : ℕ) → ((p : Position) → r.is_legal p ≡ true → (p.tier ≡ 0) × (p.index < n)) → ((k : ℕ) → k < n → r.is_legal (at 0 k) ≡ true)
    → AreRowed r n
rowed r n below from = record {
  below = below;
  positions = λ text. (
    λ c. (let (k, has, e) = contains_unmap decimal (range_with_len 0 n) text c in (at 0 k, from k (range_below n k has), e)),
    λ h. (let (p, l, e) = h in subst (Contains (map decimal (range_with_len 0 n))) e (named_point decimal n p.index (below p l).1)),
  );
}

module _ (r : Rules) (move_shown : Position → ℕ → List ℕ) (n : ℕ) (picture : PictureSpec) (set : is_row_set n picture ≡ true) (row : picture.style ≡ Row) where
  drawn_is : (p : Position) → drawn picture number_text p ≡ slice_index_or picture.rows p.index []
  drawn_is p = ap (λ (s : Style). drawn_on (layout_of s) picture (number_text p) p.index) row

  row_at : (i : ℕ) → i < n → row_test picture.rows i ≡ true
  row_at i l = all_at (row_test picture.rows) (range_with_len 0 n) i (and_left _ _ set) (contains_range n i l)

  row_back : (p : Position) → p.index < n → spaces (drawn picture number_text p) ≡ p.index
  row_back p l = ap spaces (drawn_is p) ∙ eqb-true _ _ (and_left _ _ (row_at p.index l))

  row_fits : (p : Position) → p.index < n → length (drawn picture number_text p) ≤ DRAWING
  row_fits p l = subst (λ (t : List ℕ). length t ≤ DRAWING) (sym (drawn_is p)) (low _ 256 (and_right _ _ (row_at p.index l)))

  pub row_pictured : AreRowed r n → picture.points ≡ map decimal (range_with_len 0 n) → AreNumbers r move_shown n → IsPictured r number_text move_shown picture
  row_pictured h named words =
      let a = and_right _ _ set in
      let b = and_right _ _ a in
      let c = and_right _ _ b in
      let d = and_right _ _ c in record {
        drawings = record {
          drawn_fits = λ p l. row_fits p (h.below p l).1;
          drawn_once = λ p q l k e m.
              let (t, i) = h.below p l in
              let (u, j) = h.below q k in
              same_position p q (t ∙ sym u) (sym (row_back p i) ∙ ap spaces e ∙ row_back q j);
        };
        fits = low (length picture.board) 256 (and_left _ _ a);
        few = subst (λ (s : Style). length picture.points ≤ most_points (layout_of s)) (sym row) (low (length picture.points) 26 (and_left _ _ c));
        named = and_left _ _ d;
        apart = and_right _ _ d;
        words = λ p m l c. subst (λ (s : Style). IsMoveWord s picture.points (move_shown p m)) (sym row)
            (subst (λ (ps : List (List ℕ)). IsPointWord ps (move_shown p m)) (sym named) (words p m l c));
        board_is = subst (λ (s : Style). IsBoardOf (layout_of s) r number_text picture.board picture.points) (sym row) (record {
          no_places = and_left _ _ b;
          positions = λ text. subst (λ (ps : List (List ℕ)). Contains ps text ↔ ((p : Position) × (r.is_legal p ≡ true) × (number_text p ≡ text))) (sym named)
              (h.positions text);
        });
      }
