-- A small game whose tables are right has the laws of a game.
use Rattle.std.specs.Prelude.{◌≡◌, ◌+◌, ◌<◌, ◌≤◌, ◌&&◌, ◌∷◌, if◌then◌else◌}
use Rattle.std.specs.Str.{bytes_eq}
use Rattle.gm_pieces.specs.Common.{ℕ, zero, suc, Bool, true, false, eqb, eqb-true, eq-eqb, leb, leb-true, ltb, ltb-true, List, [], length, refl, sym, ap, ◌∙◌, subst, arith, inl, inr, Option, None, Some, Contains, filter, list_all, range_with_len, true≢false, and_left, and_right, and_both, contains_head, at_below, is_plain, cases_eq, board_game, is_undecided, steps, IsMove, IsMoveGame, IsMoveSymmetric, IsNumbered, AreTexts}
use Rattle.gm_pieces.specs.Small.{SmallGame, is_board, small_game}
use Rattle.gm_pieces.specs.SmallTables.{first_failing, first_wrong, implies, keeps, is_kept, redoes, is_redone, tells, is_apart, has_own_text, has_room, IsSmallGame}

-- a legal board is below the size
pub board_below : (g : SmallGame) (b : ℕ) → is_board g b ≡ true → b < g.size
board_below g b l = ltb-true b g.size (and_left _ _ l)

-- ---- tests that all numbers pass
unless_wrong : (x : Bool) (k : ℕ) (rest : Option ℕ) → (if x then rest else Some k) ≡ None → (x ≡ true) × (rest ≡ None)
unless_wrong true k rest e = (refl, e)
unless_wrong false k rest e = absurd (let z : ⊥ = cc in z)

passes_from : (p : ℕ → Bool) (k n : ℕ) → first_failing p k n ≡ None → (j : ℕ) → k ≤ j → j < k + n → p j ≡ true
unfolding first_failing
passes_from p k zero e j l h = absurd (omega arith)
passes_from p k (suc n) e j l h =
    let u = unless_wrong (p k) k (first_failing p (k + 1) n) e in
    elim (cases_eq k j) [
      | inl s ↦ subst (λ (i : ℕ). p i ≡ true) s u.0
      | inr d ↦ passes_from p (k + 1) n u.1 j (omega (arith, d)) (omega arith)
    ]

passes : (n : ℕ) (p : ℕ → Bool) → first_wrong n p ≡ None → (j : ℕ) → j < n → p j ≡ true
passes n p e j l = passes_from p 0 n e j (omega arith) (omega arith)

chosen : (x y : Bool) → implies x y ≡ true → x ≡ true → y ≡ true
chosen true y e f = e
chosen false y e f = absurd (true≢false (sym f))

alone : Contains {X = ℕ} (0 ∷ []) 0
alone = contains_head 0 []

same_bytes : (xs : List ℕ) → bytes_eq xs xs ≡ true
same_bytes [] = refl
same_bytes (x ∷ xs) = and_both _ _ (eq-eqb x x refl) (same_bytes xs)

module _ (g : SmallGame) (h : IsSmallGame g) where
  own : (b : ℕ) → is_board g b ≡ true → g.legal b ≡ true
  own b l = and_right (ltb b g.size) _ l

  room : (b : ℕ) → is_board g b ≡ true → (leb (length (filter (g.can_move b) (range_with_len 0 g.bound))) 128
      && leb (length (filter (g.can_have_led_here b) (range_with_len 0 g.bound))) 128) ≡ true
  room b l = chosen (g.legal b) _ (passes g.size (has_room g) h.few b (board_below g b l)) (own b l)

  kept : (b m : ℕ) → is_board g b ≡ true → IsMove (small_game g) b m → (is_board g (g.moved b m)
      && (g.can_have_led_here (g.moved b m) m && eqb (g.undo (g.moved b m) m) b)) ≡ true
  kept b m l k =
      let t = chosen (g.legal b && is_undecided (g.over b)) _ (passes g.size (keeps g) h.kept b (board_below g b l)) (and_both _ _ (own b l) (ap is_undecided k.not_over)) in
      chosen (g.can_move b m) _ (at_below g.bound (is_kept g b) t m k.below) k.can

  redone : (d m : ℕ) → is_board g d ≡ true → m < g.bound → g.can_have_led_here d m ≡ true → is_board g (g.undo d m) ≡ true → g.can_move (g.undo d m) m ≡ true
      → g.moved (g.undo d m) m ≡ d
  redone d m l k c w v =
      let t = chosen (g.legal d) _ (passes g.size (redoes g) h.redone d (board_below g d l)) (own d l) in
      eqb-true _ _ (chosen (g.can_move (g.undo d m) m) _
      (chosen (is_board g (g.undo d m)) _ (chosen (g.can_have_led_here d m) _ (at_below g.bound (is_redone g d) t m k) c) w) v)

  pub small_lawful : IsMoveGame (small_game g)
  unfolding steps
  small_lawful = record {
    name_length = h.name_length;
    name_text = h.name_text;
    start_legal = h.start;
    numbers_fit = λ t. let f = h.numbers in omega (arith, f);
    moved_legal = λ b m l k. and_left _ _ (kept b m l k);
    moved_tier = λ b m l k. inl refl;
    child_rank = λ t u c. absurd (omega (arith, c.1));
    child_tiers_ascending = λ t. tt;
    undone = λ b m l k. let u = and_right _ _ (kept b m l k) in (and_left _ _ u, eqb-true _ _ (and_right _ _ u));
    redone = λ t d m l w k e i. redone d m l i.below w k i.can;
    moves_few = λ b l. leb-true _ _ (and_left _ _ (room b l));
    befores_few = λ t d l. leb-true _ _ (and_right _ _ (room d l));
    child_tiers_few = λ t. omega arith;
  }

  pub small_numbered : IsNumbered (board_game (small_game g))
  small_numbered = record {
    tier_fits = λ b l. omega arith;
    size_fits = λ b l. let s = h.small in omega (arith, s);
    index_below = λ b l. board_below g b l;
    board_back = λ b l. refl;
    index_back = λ t i l k e. refl;
  }

  pub small_symmetric : IsMoveSymmetric (small_game g)
  small_symmetric = record {
    group = record {
      identity = (0, alone, λ b l. refl);
      closed = λ x y c d. (0, alone, λ b l. refl);
      inverse = λ x c. (0, alone, λ b l. refl);
    };
    keeps_legal = λ x b c l. l;
    keeps_over = λ x b c l. refl;
    keeps_stuck = λ x b c l. refl;
    keeps_tier = λ x b c l. refl;
    keeps_move = λ x b m c l k. (m, k, refl);
  }

  tells_at : (b : ℕ) → is_board g b ≡ true → (leb (length (g.text b)) 64 && (list_all is_plain (g.text b) && eqb (g.told (g.text b)) b)) ≡ true
  tells_at b l = chosen (g.legal b) _ (passes g.size (tells g) h.texts b (board_below g b l)) (own b l)

  pub told : (b : ℕ) → is_board g b ≡ true → g.told (g.text b) ≡ b
  told b l = eqb-true _ _ (and_right _ _ (and_right _ _ (tells_at b l)))

  named : (m : ℕ) → m < g.bound → has_own_text g m ≡ true
  named m l = passes g.bound (has_own_text g) h.moves m l

  step_once : (m n : ℕ) → m < g.bound → n < g.bound → g.step_text m ≡ g.step_text n → m ≡ n
  step_once m n l k e =
      let t = at_below g.bound (is_apart g m) (and_right _ _ (and_right _ _ (named m l))) n k in
      eqb-true m n (chosen (bytes_eq (g.step_text m) (g.step_text n)) _ t
      (subst (λ (t : List ℕ). bytes_eq (g.step_text m) t ≡ true) e (same_bytes (g.step_text m))))

  pub small_readable : AreTexts (small_game g) g.text (λ t m. g.step_text m)
  small_readable = record {
    text_plain = λ b l. and_left _ _ (and_right _ _ (tells_at b l));
    text_fits = λ b l. leb-true _ _ (and_left _ _ (tells_at b l));
    text_once = λ a b l k e. sym (told a l) ∙ ap g.told e ∙ told b k;
    step_plain = λ b m l k. and_left _ _ (and_right _ _ (named m k.below));
    step_fits = λ b m l k. leb-true _ _ (and_left _ _ (named m k.below));
    step_once = λ b m n l k i e. step_once m n k.below i.below e;
  }
