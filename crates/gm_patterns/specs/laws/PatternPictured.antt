-- Texts are plain, fit a line, and tell positions and moves apart; and pictures of games of patterns satisfy the laws of pictures.
use Rattle.std.specs.Prelude.{◌≡◌, ◌<◌, ◌≤◌, ◌∷◌, ◌++◌, if◌then◌else◌}
use Rattle.gm_pieces.specs.Common.{ℕ, Bool, true, false, eqb, eqb-true, eq-eqb, leb-true, List, [], length, get_or, refl, sym, ◌∙◌, arith, inl, inr, cases_eq, cases_lt, cond-true, Contains-get_or, list_all, all_at, and_left, and_right, and_both, suc, zero, IsPlain, IsShown, plain_append, cells_text, text_length, text_once, text_plain, AreTexts, texts_are_shown, Cell, not, not-true, true≢false, any_from, list_any, length-append, ap, ap₂, subst, Position, board_game, Contains}
use Rattle.gm_draw.specs.Points.{are_apart, IsPointWord}
use Rattle.std.specs.Str.{bytes_eq}
use Rattle.std.proofs.lemmas.Slice.Eq.{bytes_eq-Decides}
use Rattle.gm_patterns.specs.Patterns.{fits, both}
use Rattle.gm_patterns.specs.PatternGames.{PatternGame, tier_on, steps_of, step_at, no_step, can_move, pattern_game, pattern_rules, board_at}
use Rattle.gm_patterns.specs.PatternTables.{IsPatternGame, is_cell_name, steps_apart, named_again, faults}
use Rattle.gm_patterns.specs.PatternTexts.{step_text, pattern_text, pattern_move_text}
use Rattle.gm_patterns.specs.laws.TableFacts.{tables_right, phase_listed, step_right, legal_in}
use Rattle.gm_patterns.specs.laws.PatternFacts.{passes, none_in, not_void}
use Rattle.gm_patterns.specs.laws.PatternLaws.{fits_both, pattern_numbered}
use Rattle.gm_patterns.specs.declared.step.Step.{Step}
use Rattle.gm_pieces.specs.laws.MoveLaws.{move_in}
use Rattle.gm_game.proofs.BoardLaws.{legal_board, own_tier}
use Rattle.gm_draw.specs.Pictures.{PictureSpec}
use Rattle.gm_draw.specs.Pictured.{IsMoveWord, IsPictured}
use Rattle.gm_draw.specs.laws.Templates.{is_set, pictured_by}
use Rattle.gm_patterns.specs.PatternTables.Test.{Sizes, Cells, Start, Says, Names, Kept, Numbered, Numbers, Turns, Images, Ends}

-- ---- names
module _ (n : ℕ) where
  none_after : (s : Step) (ss : List Step) → named_again n (s ∷ ss) ≡ [] → (list_all (steps_apart n s) ss ≡ true) × (named_again n ss ≡ [])
  none_after s ss e = grind (arith, e)

  -- a step and a later one are apart
  later_apart : (ss : List Step) (i j : ℕ) → named_again n ss ≡ [] → i < j → j < length ss → steps_apart n (get_or ss i no_step) (get_or ss j no_step) ≡ true
  later_apart [] i j e l k = absurd (omega (arith, k))
  later_apart (s ∷ ss) i zero e l k = absurd (omega (arith, l))
  later_apart (s ∷ ss) zero (suc j) e l k =
      all_at (steps_apart n s) ss (get_or ss j no_step) (none_after s ss e).0 (Contains-get_or ss j no_step (omega (arith, k)))
  later_apart (s ∷ ss) (suc i) (suc j) e l k = later_apart ss i j (none_after s ss e).1 (omega (arith, l)) (omega (arith, k))

  -- two steps of which both can be made have different names
  not_both : (s t : Step) (b : List Cell) → length b ≡ n → steps_apart n s t ≡ true → fits s.before b ≡ true → fits t.before b ≡ true
      → s.from ≡ t.from → s.to ≡ t.to → ⊥
  not_both s t b e a f h from to =
      let same = and_both _ _ (eq-eqb _ _ from) (eq-eqb _ _ to) in
      not_void n (both s.before t.before) b e (fits_both s.before t.before b f h) (sym (cond-true _ _ _ same) ∙ a)

-- ---- names of cells
-- no name occurs twice
apart_at : (name : List ℕ) (names : List (List ℕ)) (k : ℕ) → k < length names → list_any (bytes_eq name) names ≡ false → name ≡ get_or names k [] → ⊥
apart_at name names k l e same = true≢false (sym (any_from (bytes_eq name) names (get_or names k []) (Contains-get_or names k [] l)
    ((bytes_eq-Decides name (get_or names k [])).1 same)) ∙ e)

pub cell_once : (names : List (List ℕ)) (i j : ℕ) → are_apart names ≡ true → i < length names → j < length names → get_or names i [] ≡ get_or names j [] → i ≡ j
cell_once [] i j a l k e = absurd (omega (arith, l))
cell_once (x ∷ xs) zero zero a l k e = refl
cell_once (x ∷ xs) zero (suc j) a l k e = absurd (apart_at x xs j (omega (arith, k)) (not-true _ (and_left _ _ a)) e)
cell_once (x ∷ xs) (suc i) zero a l k e = absurd (apart_at x xs i (omega (arith, l)) (not-true _ (and_left _ _ a)) (sym e))
cell_once (x ∷ xs) (suc i) (suc j) a l k e = ap suc (cell_once xs i j (and_right _ _ a) (omega (arith, l)) (omega (arith, k)) e)

-- a byte that is no `-`
abbrev no_dash : ℕ → Bool
no_dash b = not (eqb b 45)

-- two names with `-` between them are not one name, and give the two names
not_one : (a c d : List ℕ) → list_all no_dash a ≡ true → a ≡ c ++ 45 ∷ d → ⊥
not_one [] [] d h e = let z : ⊥ = cc in z
not_one [] (y ∷ c) d h e = let z : ⊥ = cc in z
not_one (x ∷ a) [] d h e = (let head : x ≡ 45 = cc in true≢false (sym (and_left _ _ h) ∙ ap no_dash head))
not_one (x ∷ a) (y ∷ c) d h e = not_one a c d (and_right _ _ h) (let tail : a ≡ c ++ 45 ∷ d = cc in tail)

two_names : (a b c d : List ℕ) → list_all no_dash a ≡ true → list_all no_dash c ≡ true → a ++ 45 ∷ b ≡ c ++ 45 ∷ d → (a ≡ c) × (b ≡ d)
two_names [] b [] d h i e = (refl, (let z : b ≡ d = cc in z))
two_names [] b (y ∷ c) d h i e = absurd (let head : y ≡ 45 = cc in true≢false (sym (and_left _ _ i) ∙ ap no_dash head))
two_names (x ∷ a) b [] d h i e = absurd (let head : x ≡ 45 = cc in true≢false (sym (and_left _ _ h) ∙ ap no_dash head))
two_names (x ∷ a) b (y ∷ c) d h i e =
    let head : x ≡ y = cc in
    let rest = two_names a b c d (and_right _ _ h) (and_right _ _ i) (let z : a ++ 45 ∷ b ≡ c ++ 45 ∷ d = cc in z) in
    (ap₂ (λ (v : ℕ) (w : List ℕ). v ∷ w) head rest.0, rest.1)

-- the name of a step, by whether one cell names it
abbrev name_by : Bool → List ℕ → List ℕ → List ℕ
name_by x from to = if x then from else from ++ 45 ∷ to

record IsName (x : Bool) (from to : List ℕ) : Type 0 where
  plain : IsPlain (name_by x from to)
  short : length (name_by x from to) ≤ 64

-- what holds of the name of a cell
record IsCellName (text : List ℕ) : Type 0 where
  plain : IsPlain text
  short : length text ≤ 31
  dashless : list_all no_dash text ≡ true

cell_name : (text : List ℕ) → is_cell_name text ≡ true → IsCellName text
cell_name text e =
    let rest = and_right _ _ e in
    record { plain = and_right _ _ rest; short = leb-true _ _ (and_left _ _ rest); dashless = and_right _ _ (and_left _ _ e) }

name_is : (x : Bool) (from to : List ℕ) → IsCellName from → IsCellName to → IsName x from to
name_is true from to f t = record { plain = f.plain; short = let l = f.short in omega (arith, l) }
name_is false from to f t = record {
  plain = plain_append from (45 ∷ to) f.plain (and_both _ _ refl t.plain);
  short = let e = length-append from (45 ∷ to) in let l = f.short in let k = t.short in omega (arith, e, l, k);
}

-- the name of a step gives the names of the cells that name it
names_once : (x y : Bool) (a b c d : List ℕ) → IsCellName a → IsCellName c → (x ≡ true → a ≡ b) → (y ≡ true → c ≡ d) → name_by x a b ≡ name_by y c d
    → (a ≡ c) × (b ≡ d)
names_once true true a b c d i j p q e = (e, sym (p refl) ∙ e ∙ q refl)
names_once true false a b c d i j p q e = absurd (not_one a c d i.dashless e)
names_once false true a b c d i j p q e = absurd (not_one c a b j.dashless (sym e))
names_once false false a b c d i j p q e = two_names a b c d i.dashless j.dashless e

module _ (n : ℕ) (g : PatternGame) (h : IsPatternGame n g) where
  name_at : ℕ → List ℕ
  name_at k = get_or g.names k []

  -- the name of a cell
  named_cell : (k : ℕ) → k < n → IsCellName (name_at k)
  unfolding name_at
  named_cell k l = cell_name (get_or g.names k []) (passes is_cell_name g.names (get_or g.names k []) (tables_right n g h).named
      (Contains-get_or g.names k [] (let e = (tables_right n g h).cell_names in omega (arith, e, l))))

  named : (t m : ℕ) → m < length (steps_of n g t) → IsName (eqb (step_at n g t m).from (step_at n g t m).to) (name_at (step_at n g t m).from)
      (name_at (step_at n g t m).to)
  named t m l =
      let s = step_at n g t m in
      let r = step_right n g h t m l in
      name_is (eqb s.from s.to) (name_at s.from) (name_at s.to) (named_cell s.from r.from) (named_cell s.to r.to)

  -- the names of two steps that are the same name the same cells
  same_cells : (t i j : ℕ) → i < length (steps_of n g t) → j < length (steps_of n g t) → step_text n g t i ≡ step_text n g t j
      → ((step_at n g t i).from ≡ (step_at n g t j).from) × ((step_at n g t i).to ≡ (step_at n g t j).to)
  unfolding step_text name_at
  same_cells t i j l k e =
      let r = step_right n g h t i l in
      let w = step_right n g h t j k in
      let s = step_at n g t i in
      let u = step_at n g t j in
      let same = names_once (eqb s.from s.to) (eqb u.from u.to) (name_at s.from) (name_at s.to) (name_at u.from) (name_at u.to) (named_cell s.from r.from)
      (named_cell u.from w.from) (λ q. ap name_at (eqb-true _ _ q)) (λ q. ap name_at (eqb-true _ _ q)) e in
      let cells = (tables_right n g h).cell_names in
      let below : (k : ℕ) → k < n → k < length g.names = λ k l. omega (arith, cells, l) in
      let apart = (tables_right n g h).names_apart in
      (cell_once g.names s.from u.from apart (below _ r.from) (below _ w.from) same.0, cell_once g.names s.to u.to apart (below _ r.to) (below _ w.to) same.1)

  -- of two moves of a board one comes first, and they are apart
  both_made : (b : List Cell) (i j : ℕ) → length b ≡ n → i < j → j < length (steps_of n g (tier_on g b))
      → fits (step_at n g (tier_on g b) i).before b ≡ true → fits (step_at n g (tier_on g b) j).before b ≡ true
      → (step_at n g (tier_on g b) i).from ≡ (step_at n g (tier_on g b) j).from → (step_at n g (tier_on g b) i).to ≡ (step_at n g (tier_on g b) j).to → ⊥
  unfolding step_at
  both_made b i j e l k f w from to =
      let steps = steps_of n g (tier_on g b) in
      let apart = later_apart n steps i j (none_in (named_again n) g.phases steps (tables_right n g h).names (phase_listed n g (tier_on g b) j k)) l k in
      not_both n (get_or steps i no_step) (get_or steps j no_step) b e apart f w from to

  -- the laws of texts
  pub pattern_readable : AreTexts (pattern_game n g) cells_text (step_text n g)
  unfolding step_text can_move name_at
  pattern_readable = record {
    text_plain = λ b l. text_plain b;
    text_fits = λ b l. let a = text_length b in let e = (legal_in n g b l).cells in let few = (tables_right n g h).few in omega (arith, a, e, few);
    text_once = λ a b l k e. text_once a b e;
    step_plain = λ b m l k. (named (tier_on g b) m k.below).plain;
    step_fits = λ b m l k. let short = (named (tier_on g b) m k.below).short in omega (arith, short);
    step_once = λ b i j l v w e.
        let cells = (legal_in n g b l).cells in
        let same = same_cells (tier_on g b) i j v.below w.below e in
        elim (cases_eq i j) [
          | inl q ↦ q
          | inr q ↦ elim (cases_lt i j) [
            | inl less ↦ absurd (both_made b i j cells less w.below v.can w.can same.0 same.1)
            | inr more ↦ absurd (both_made b j i cells (omega (arith, more, q)) v.below w.can v.can (sym same.0) (sym same.1))
          ]
        ];
  }

  -- the laws of texts, for positions and their moves
  pub pattern_shown : IsShown (pattern_rules n g) (pattern_text n g) (pattern_move_text n g)
  pattern_shown = texts_are_shown (pattern_game n g) cells_text (step_text n g) (pattern_numbered n g h) pattern_readable

-- one name, or two with `-` between them
word_by : (x : Bool) (names : List (List ℕ)) (a b : ℕ) → a < length names → b < length names
    → IsPointWord names (if x then get_or names a [] else get_or names a [] ++ 45 ∷ get_or names b [])
word_by true names a b l k = inl (Contains-get_or names a [] l)
word_by false names a b l k = inr (get_or names a [], get_or names b [], Contains-get_or names a [] l, Contains-get_or names b [] k, refl)

-- what is shown of a picture of a game
abbrev pub IsPatternPictured : ℕ → PatternGame → PictureSpec → Type 0
IsPatternPictured n g = IsPictured (pattern_rules n g) (pattern_text n g) (pattern_move_text n g)

-- the words of moves are names of cells
pattern_words : (n : ℕ) (g : PatternGame) → IsPatternGame n g → (p : Position) (m : ℕ) → (pattern_rules n g).is_legal p ≡ true
    → Contains ((pattern_rules n g).moves p) m → IsPointWord g.names (pattern_move_text n g p m)
unfolding step_text
pattern_words n g h p m l c =
    let b = board_at n g p.tier p.index in
    let tier = own_tier (board_game (pattern_game n g)) p l in
    let k = move_in (pattern_game n g) b m c in
    let s = step_at n g ((pattern_game n g).tier b) m in
    subst (λ (t : ℕ). IsPointWord g.names (step_text n g t m)) tier
    (let r = step_right n g h ((pattern_game n g).tier b) m k.below in
    let from = r.from in
    let to = r.to in
    let e = (tables_right n g h).cell_names in
    word_by (eqb s.from s.to) g.names s.from s.to (omega (arith, e, from)) (omega (arith, e, to)))

-- a picture with the names of the cells, and a board that has a slot for each
pattern_pictured : (n : ℕ) (g : PatternGame) (picture : PictureSpec) → IsPatternGame n g → is_set n picture ≡ true → picture.points ≡ g.names
    → ((points : List (List ℕ)) (text : List ℕ) → IsPointWord points text → IsMoveWord picture.style points text) → IsPatternPictured n g picture
pattern_pictured n g picture h set named word = pictured_by (pattern_rules n g) (pattern_text n g) (pattern_move_text n g) n picture set (pattern_shown n g h)
    (λ p l. (let b = board_at n g p.tier p.index in text_length b ∙ (legal_in n g b (legal_board (board_game (pattern_game n g)) p l)).cells))
    (λ p m l c. word picture.points _
    (subst (λ (ps : List (List ℕ)). IsPointWord ps (pattern_move_text n g p m)) (sym named) (pattern_words n g h p m l c)))

-- nothing is wrong with the tables of a game and with its picture
pub record IsRight (n : ℕ) (g : PatternGame) (picture : PictureSpec) : Type 0 where
  pub tables : IsPatternGame n g
  pub pictured : IsPatternPictured n g picture

-- so it is if each test computes to no faults, in the order of the tests, and the picture has the names of the cells and a slot for each
pub right : {n : ℕ} {g : PatternGame} {picture : PictureSpec} → faults Sizes n g ≡ [] → faults Cells n g ≡ [] → faults Start n g ≡ [] → faults Says n g ≡ []
    → faults Names n g ≡ [] → faults Kept n g ≡ [] → faults Numbered n g ≡ [] → faults Numbers n g ≡ [] → faults Turns n g ≡ [] → faults Images n g ≡ []
    → faults Ends n g ≡ [] → is_set n picture ≡ true → picture.points ≡ g.names
    → ((points : List (List ℕ)) (text : List ℕ) → IsPointWord points text → IsMoveWord picture.style points text) → IsRight n g picture
right sizes cells start says names kept numbered numbers turns images ends set named word =
    let h : IsPatternGame _ _ = record {
      sizes = sizes;
      cells = cells;
      start = start;
      says = says;
      names = names;
      kept = kept;
      numbered = numbered;
      numbers = numbers;
      turns = turns;
      images = images;
      ends = ends;
    } in
    record { tables = h; pictured = pattern_pictured _ _ _ h set named word }
