-- Pictures on templates: drawings distinguish positions, since each byte of a position's text has a slot.
use Rattle.std.proofs.Common.{◌≡◌, ℕ, ◌+◌, ◌-◌, ◌<◌, ◌≤◌, Bool, true, List, [], ◌∷◌, map, length, ◌∙◌, false, cond, eqb, leb, eqb-true, get_or, refl, sym, ap, subst, arith, inl, inr, zero-add}
use Rattle.std.specs.List.{Contains, list_all, range_with_len}
use Rattle.std.proofs.lemmas.Bool.{cases_Bool, cond-true, true≢false}
use Rattle.std.proofs.lemmas.Bool.Decides.{nat_tests}
use Rattle.std.proofs.lemmas.List.{ext_get_or, length-map}
use Rattle.std.proofs.lemmas.List.Sums.{sum_by-cons}
use Rattle.gm_game.specs.declared.position.Position.{Position}
use Rattle.gm_game.specs.Rules.{Rules}
use Rattle.gm_game.specs.Shown.{IsShown}
use Rattle.gm_board.specs.laws.Lists.{contains_range, and_left, and_right}
use Rattle.gm_board.specs.laws.Permutations.{all_at}
use Rattle.std.specs.Prelude.{◌&&◌, ◌==◌, count_by}
use Rattle.gm_draw.specs.declared.drawn.TheConstants.{DRAWING}
use Rattle.gm_draw.specs.declared.pictured.Layout.{Layout}
use Rattle.gm_draw.specs.declared.pictured.Layout.TheVariants.{Template, Rows, Squares}
use Rattle.gm_draw.specs.Templates.{is_slot, drawn_byte, filled}
use Rattle.gm_draw.specs.Pictures.{PictureSpec, layout_of, drawn_on, drawn}
use Rattle.gm_draw.specs.Drawn.{IsDrawn}
use Rattle.gm_draw.specs.Points.{is_name, are_apart}
use Rattle.gm_draw.specs.Pictured.{has_place_once, IsBoardOf, most_points, IsMoveWord, IsPictured}

-- ---- templates
-- a letter is a slot
letter_slot : (x k : ℕ) → eqb x (65 + k) ≡ true → k < 26 → is_slot x ≡ true
letter_slot x k e l = grind (arith, nat_tests)

slot_byte : (text : List ℕ) (x k : ℕ) → eqb x (65 + k) ≡ true → k < 26 → drawn_byte text x ≡ get_or text k 0
slot_byte text x k e l =
    let f : x ≡ 65 + k = eqb-true x (65 + k) e in
    cond-true (is_slot x) (get_or text (x - 65) 0) x (letter_slot x k e l) ∙ ap (λ (i : ℕ). get_or text i 0) (let g : x - 65 ≡ k = omega arith in g)

-- texts with the same drawing have the same byte in a slot
same_in_slot : (t a b : List ℕ) (k : ℕ) → map (drawn_byte a) t ≡ map (drawn_byte b) t → 0 < count_by (λ c. c == 65 + k) t → k < 26 → get_or a k 0 ≡ get_or b k 0
same_in_slot [] a b k e h l = absurd (omega (arith, h))
same_in_slot (x ∷ t) a b k e h l =
    let head : drawn_byte a x ≡ drawn_byte b x = cc in
    let tail : map (drawn_byte a) t ≡ map (drawn_byte b) t = cc in
    elim (cases_Bool (eqb x (65 + k))) [
      | inl f ↦ sym (slot_byte a x k f l) ∙ head ∙ slot_byte b x k f l
      | inr f ↦ (
          let rest = count_by (λ c. c == 65 + k) t in
          let counted : count_by (λ c. c == 65 + k) (x ∷ t) ≡ rest = sum_by-cons (λ (c : ℕ). cond (eqb c (65 + k)) 1 0) x t
          ∙ ap (λ (c : Bool). cond c 1 0 + rest) f ∙ zero-add rest in
          same_in_slot t a b k tail (subst (λ (n : ℕ). 0 < n) counted h) l)
    ]

-- if each of the first n bytes has a slot, texts with the same drawing have the same first n bytes
pub same_in_slots : (t a b : List ℕ) (n k : ℕ) → n ≤ 26 → list_all (has_place_once t) (range_with_len 0 n) ≡ true → filled t a ≡ filled t b → k < n
    → get_or a k 0 ≡ get_or b k 0
unfolding filled
same_in_slots t a b n k few places e below =
    let once = eqb-true _ _ (all_at (has_place_once t) (range_with_len 0 n) k places (contains_range n k below)) in
    same_in_slot t a b k e (omega (arith, once)) (omega arith)

-- ---- what computation shows about a picture with n points on a template
abbrev pub is_template : Layout → Bool
is_template Template = true
is_template layout = false

abbrev pub is_set : ℕ → PictureSpec → Bool
is_set n picture =
    is_template (layout_of picture.style) && (leb n 26 && (leb (length picture.board) 256 && (length picture.points == n && (list_all is_name picture.points
    && (are_apart picture.points && (list_all (has_place_once picture.board) (range_with_len 0 n) && count_by is_slot picture.board == n))))))

pub record IsSet (n : ℕ) (picture : PictureSpec) : Type 0 where
  pub layout : layout_of picture.style ≡ Template
  pub few : n ≤ 26
  pub fits : length picture.board ≤ DRAWING
  pub many : length picture.points ≡ n
  pub named : list_all is_name picture.points ≡ true
  pub apart : are_apart picture.points ≡ true
  pub places : list_all (has_place_once picture.board) (range_with_len 0 n) ≡ true
  pub no_more : count_by is_slot picture.board ≡ n

layout_set : (l : Layout) → is_template l ≡ true → l ≡ Template
layout_set Template e = refl
layout_set Rows e = absurd (true≢false (sym e))
layout_set Squares e = absurd (true≢false (sym e))

pub low : (a b : ℕ) → leb a b ≡ true → a ≤ b
low a b e = grind (arith, nat_tests)

pub set_in : (n : ℕ) (picture : PictureSpec) → is_set n picture ≡ true → IsSet n picture
set_in n picture e =
    let a = and_right _ _ e in
    let b = and_right _ _ a in
    let c = and_right _ _ b in
    let d = and_right _ _ c in
    let f = and_right _ _ d in
    let g = and_right _ _ f in record {
      layout = layout_set (layout_of picture.style) (and_left _ _ e);
      few = low n 26 (and_left _ _ a);
      fits = low (length picture.board) 256 (and_left _ _ b);
      many = eqb-true _ _ (and_left _ _ c);
      named = and_left _ _ d;
      apart = and_left _ _ f;
      places = and_left _ _ g;
      no_more = eqb-true _ _ (and_right _ _ g);
    }

-- ---- the laws of a picture on a template
module _ (r : Rules) (shown : Position → List ℕ) (move_shown : Position → ℕ → List ℕ) (n : ℕ) (picture : PictureSpec) (set : is_set n picture ≡ true) where
  -- each drawing is the template with the position's text
  pub drawn_is : (p : Position) → drawn picture shown p ≡ filled picture.board (shown p)
  drawn_is p = ap (λ (l : Layout). drawn_on l picture (shown p) p.index) (set_in n picture set).layout

  pub template_fits : (p : Position) → length (drawn picture shown p) ≤ DRAWING
  unfolding filled
  template_fits p =
      let a = ap (λ (t : List ℕ). length t) (drawn_is p) ∙ length-map picture.board (drawn_byte (shown p)) in
      let c = (set_in n picture set).fits in omega (arith, a, c)

  -- positions with the same drawing have the same bytes in the slots
  pub same_bytes : (p q : Position) (k : ℕ) → drawn picture shown p ≡ drawn picture shown q → k < n → get_or (shown p) k 0 ≡ get_or (shown q) k 0
  same_bytes p q k e below =
      let h = set_in n picture set in
      same_in_slots picture.board (shown p) (shown q) n k h.few h.places (sym (drawn_is p) ∙ e ∙ drawn_is q) below

  -- the laws, if drawings distinguish positions
  pub pictured_with : IsDrawn r (drawn picture shown) picture.mover → ((p : Position) → r.is_legal p ≡ true → n ≤ length (shown p))
      → ((p : Position) (m : ℕ) → r.is_legal p ≡ true → Contains (r.moves p) m → IsMoveWord picture.style picture.points (move_shown p m))
      → IsPictured r shown move_shown picture
  pictured_with drawings long words =
      let h = set_in n picture set in
      let few = h.few in
      let many = h.many in record {
        drawings = drawings;
        fits = h.fits;
        few = subst (λ (l : Layout). length picture.points ≤ most_points l) (sym h.layout) (omega (arith, few, many));
        named = h.named;
        apart = h.apart;
        words = words;
        board_is = subst (λ (l : Layout). IsBoardOf l r shown picture.board picture.points) (sym h.layout) (record {
          long = λ p l. (let a = long p l in omega (arith, a, many));
          places = subst (λ (k : ℕ). list_all (has_place_once picture.board) (range_with_len 0 k) ≡ true) (sym many) h.places;
          no_more = h.no_more ∙ sym many;
        });
      }

  -- the laws, if each byte of a text has a slot
  pub pictured_by : IsShown r shown move_shown → ((p : Position) → r.is_legal p ≡ true → length (shown p) ≡ n)
      → ((p : Position) (m : ℕ) → r.is_legal p ≡ true → Contains (r.moves p) m → IsMoveWord picture.style picture.points (move_shown p m))
      → IsPictured r shown move_shown picture
  pictured_by s long words = pictured_with (record {
    drawn_fits = λ p l. template_fits p;
    drawn_once = λ p q l k e m. s.shown_once p q l k (ext_get_or 0 (shown p) (shown q) (long p l ∙ sym (long q k))
        (λ i h. (let a = long p l in same_bytes p q i e (omega (arith, a, h)))));
  }) (λ p l. (let a = long p l in omega (arith, a))) words
