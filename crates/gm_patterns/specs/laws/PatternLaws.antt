-- Moves of a game of patterns: where they lead, how they are taken back, and moves of images. So a game whose tables are right has the laws of a game.
use Rattle.std.specs.Prelude.{◌≡◌, ◌<◌, ◌&&◌, ◌||◌, ◌==◌, nat_lt, ◌⊎◌, None, ◌≤◌}
use Rattle.gm_pieces.specs.Common.{ℕ, Bool, true, false, eqb, eqb-true, List, length, refl, sym, ap, ap₂, ◌∙◌, subst, inl, inr, cases_Bool, false_from_ne_true, Contains, list_any, all_at, any_at, and_left, and_right, and_both, Cell, Empty, cell_at, is_mine, is_theirs, number_of, permute, group_permutation, IsMove, arith, filter, range_with_len, length-range_with_len, IsNumbered, IsMoveGame, IsMoveSymmetric, board_game, steps, permuted_group}
use Rattle.std.proofs.lemmas.List.{get_or_default}
use Rattle.gm_patterns.specs.Patterns.{fits, has_some, both, image_pattern}
use Rattle.gm_patterns.specs.Steps.{cells_in, laid, stepped, taken_back}
use Rattle.gm_patterns.specs.PatternGames.{PatternGame, tier_of, tier_on, can_have, can_play, steps_of, step_at, no_step, end_by_last_move, passed, can_move, moved, can_have_led_here, undo, number_after, has_enough, tier_after, child_tiers, rank_of, pattern_game, legal}
use Rattle.gm_patterns.specs.PatternTables.{IsPatternGame, outside, pass_pattern, can_pass, is_ruled_out, avoids, is_image}
use Rattle.gm_patterns.specs.laws.TableFacts.{tables_right, step_listed, step_right, step_keeps, step_images, group, step_lands, IsLegal, can_play_on, GoesOn, image_tier, image_over, steps_few, legal_in, legal_from, goes_on, image_legal}
use Rattle.gm_patterns.specs.laws.PatternFacts.{fits_at, fits_from, lets_both, lets_outside, not_void, some_implied, same_pattern_true, fits_image, laid_length, laid_cell, laid_back, laid_fits, laid_image, IsRightStep}
use Rattle.gm_patterns.specs.laws.StepFacts.{stepped_number, step_enough, passed_length, passed_twice, passed_image, passed_tier, passed_numbers, fits_before, child_listed, ascending_children, few_children, child_rank}
use Rattle.gm_patterns.specs.declared.pattern.Pattern.{Pattern}
use Rattle.gm_patterns.specs.declared.step.Step.{Step}
use Rattle.std.proofs.lemmas.List.Sums.{length-filter, count_by-le-length}
use Rattle.gm_patterns.specs.laws.IndexFacts.{size_fits, is_placed, tier_fits, index_again}

-- ---- patterns that a step brings together
pub fits_both : (p q : Pattern) (b : List Cell) → fits p b ≡ true → fits q b ≡ true → fits (both p q) b ≡ true
fits_both p q b f h = fits_from (both p q) b (λ k l. lets_both p q k (cell_at b k) ∙ and_both _ _ (fits_at p b f k l) (fits_at q b h k l))

-- what a board has after a pattern was laid on some cells, it has elsewhere before
fits_outside : (c : ℕ) (p q : Pattern) (b : List Cell) → fits q (laid c p b) ≡ true → fits (outside c q) b ≡ true
fits_outside c p q b f = fits_from (outside c q) b (λ k l.
    let long = laid_length c p b in
    grind (arith, lets_outside c q k (cell_at b k), laid_cell c p b k l, fits_at q (laid c p b) f k (omega (arith, long, l))))

-- ---- a step that can be made
module _ (n : ℕ) (g : PatternGame) (h : IsPatternGame n g) (b : List Cell) (m : ℕ) (e : length b ≡ n) (l : m < length (steps_of n g (tier_on g b)))
    (can : fits (step_at n g (tier_on g b) m).before b ≡ true) where
  abbrev step : Step
  step = step_at n g (tier_on g b) m

  right : IsRightStep n step
  right = step_right n g h (tier_on g b) m l

  left_length : length (stepped step b) ≡ n
  left_length = laid_length (cells_in step.after) step.after b ∙ e

  -- the pieces of the board are enough for it
  enough : has_enough n step (number_of is_mine b) (number_of is_theirs b) ≡ true
  enough = step_enough n step b e right can (number_of is_mine b) (number_of is_theirs b) refl refl

  own_after : number_of is_mine (stepped step b) ≡ number_after n step is_mine (number_of is_mine b)
  own_after = stepped_number n step b e right can is_mine refl

  other_after : number_of is_theirs (stepped step b) ≡ number_after n step is_theirs (number_of is_theirs b)
  other_after = stepped_number n step b e right can is_theirs refl

  -- the tier to which it leads, and the numbers of pieces there
  tier_moved : tier_on g (moved n g b m) ≡ tier_after n g step (number_of is_mine b) (number_of is_theirs b)
  unfolding moved tier_after tier_on
  tier_moved = passed_tier n g (tables_right n g h).turn (stepped step b) left_length ∙ ap₂ (tier_of g) own_after other_after

  numbers_moved : can_have n g (number_of is_mine (moved n g b m)) (number_of is_theirs (moved n g b m)) ≡ can_pass n g
      (number_after n step is_mine (number_of is_mine b)) (number_after n step is_theirs (number_of is_theirs b))
  unfolding moved
  numbers_moved = passed_numbers n g (tables_right n g h).turn (stepped step b) left_length (can_have n g) ∙ ap₂ (can_pass n g) own_after other_after

  -- ---- legal boards
  -- no board that can be and on which the game goes on has a pattern that is ruled out
  not_ruled_out : (p : Pattern) → IsLegal n g b → GoesOn g b → fits p b ≡ true → is_ruled_out g p ≡ true → ⊥
  not_ruled_out p w u f r =
      let allowed = w.allowed in let lost = u.not_lost in let won = u.not_won in let tied = u.not_tied in
      grind (arith, r, f, allowed, lost, won, tied, some_implied g.forbidden p b, some_implied g.lost p b, some_implied g.won p b, some_implied g.tied p b)

  avoided : (q : Pattern) → IsLegal n g b → GoesOn g b → avoids n g step q ≡ true → fits q (stepped step b) ≡ true → ⊥
  avoided q w u a f =
      let s = step_at n g (tier_on g b) m in
      let c = cells_in s.after in
      let before = fits_both s.before (outside c q) b can (fits_outside c s.after q b f) in
      grind (
        arith,
        a,
        not_void n (both s.after q) (stepped s b) left_length (fits_both s.after q (stepped s b) (laid_fits n s.after b right.after e) f),
        not_void n (both s.before (outside c q)) b e before,
        not_ruled_out (both s.before (outside c q)) w u before,
      )

  moved_allowed : IsLegal n g b → GoesOn g b → has_some g.forbidden (moved n g b m) ≡ false
  unfolding moved
  moved_allowed w u = false_from_ne_true _ (λ f.
      let x = any_at (λ (p : Pattern). fits p (passed g (stepped step b))) g.forbidden f in
      let keeps = all_at (λ (p : Pattern). avoids n g step (pass_pattern g p)) g.forbidden x.0 (step_keeps n g h (tier_on g b) m l) x.1 in
      avoided (pass_pattern g x.0) w u keeps (fits_before n g (stepped step b) x.0 (tables_right n g h).turn left_length x.2))

  landed : can_play n g (number_of is_mine b) (number_of is_theirs b) ≡ true
      → (can_pass n g (number_after n step is_mine (number_of is_mine b)) (number_after n step is_theirs (number_of is_theirs b))
      && (tier_after n g step (number_of is_mine b) (number_of is_theirs b) == tier_on g b
      || nat_lt (rank_of n g (tier_after n g step (number_of is_mine b) (number_of is_theirs b))) (rank_of n g (tier_on g b)))) ≡ true
  unfolding tier_on
  landed w = step_lands n g h (number_of is_mine b) (number_of is_theirs b) step w (step_listed n g (tier_on g b) m l) enough

  moved_length : length (moved n g b m) ≡ n
  unfolding moved
  moved_length = passed_length n g (tables_right n g h).turn (stepped step b) left_length

  -- a move leads to a legal board
  pub moved_legal : IsLegal n g b → GoesOn g b → IsLegal n g (moved n g b m)
  moved_legal w u = record { cells = moved_length; numbers = numbers_moved ∙ and_left _ _ (landed (can_play_on n g b w.numbers u)); allowed = moved_allowed w u }

  -- of its tier or of a child tier
  pub moved_tier : can_play n g (number_of is_mine b) (number_of is_theirs b) ≡ true
      → (tier_on g (moved n g b m) ≡ tier_on g b) ⊎ Contains (child_tiers n g (tier_on g b)) (tier_on g (moved n g b m))
  unfolding tier_on
  moved_tier w =
      let mine = number_of is_mine b in
      let theirs = number_of is_theirs b in
      let u = tier_after n g step mine theirs in
      elim (cases_Bool (eqb u (tier_on g b))) [
        | inl same ↦ inl (tier_moved ∙ eqb-true u (tier_on g b) same)
        | inr other ↦ inr (subst (λ (v : ℕ). Contains (child_tiers n g (tier_on g b)) v) (sym tier_moved)
            (child_listed n g mine theirs step h w (step_listed n g (tier_on g b) m l) enough other))
      ]

  -- ---- made and taken back
  -- a move made and taken back leads to the same board
  pub undone : (can_have_led_here n g (tier_on g b) (moved n g b m) m ≡ true) × (undo n g (tier_on g b) (moved n g b m) m ≡ b)
  unfolding moved can_have_led_here undo
  undone =
      let s = step_at n g (tier_on g b) m in
      let twice = passed_twice n g (tables_right n g h).turn (stepped s b) left_length in (
        ap (fits s.after) twice ∙ laid_fits n s.after b right.after e,
        ap (taken_back s) twice ∙ laid_back n (cells_in s.after) s.before s.after b right.before e can,
      )

  -- ---- images
  -- a move of a board has an image among the moves of the image
  pub image_move : (p : List ℕ) → Contains g.symmetries p → end_by_last_move g b ≡ None
      → (k : ℕ) × IsMove (pattern_game n g) (permute Empty p b) k × (moved n g (permute Empty p b) k ≡ permute Empty p (moved n g b m))
  unfolding can_move moved step_at
  image_move p c over =
      let s = step_at n g (tier_on g b) m in
      let image = permute Empty p b in
      let perm = group_permutation n g.symmetries (group n g h) p c in
      let tier = image_tier n g h p b c e in
      let steps = steps_of n g (tier_on g b) in
      let x = any_at (is_image p s) steps (all_at (λ (q : List ℕ). list_any (is_image q s) steps) g.symmetries p (step_images n g h (tier_on g b) m l) c) in
      let k = x.1.0 in
      let there : step_at n g (tier_on g image) k ≡ x.0 = grind (arith, tier, get_or_default steps k no_step x.0 x.1.1, x.1.2) in
      let before : image_pattern p s.before ≡ x.0.before = same_pattern_true _ _ (and_left _ _ x.2) in
      let after : image_pattern p s.after ≡ x.0.after = same_pattern_true _ _ (and_right _ _ x.2) in (
        k,
        record {
          below = grind (arith, tier, x.1.1);
          not_over = image_over n g h p b c e ∙ over;
          can = grind (arith, there, before, fits_image n p s.before b perm e can);
        },
        grind (
          arith,
          there,
          after,
          laid_image n p s.after b perm e,
          passed_image n g (tables_right n g h).turn (stepped s b) left_length p c perm,
        ),
      )

-- a move taken back and made again leads to the same board
pub redone : (n : ℕ) (g : PatternGame) (h : IsPatternGame n g) (t m : ℕ) (d : List Cell) → length d ≡ n → m < length (steps_of n g t)
    → can_have_led_here n g t d m ≡ true → tier_on g (undo n g t d m) ≡ t → moved n g (undo n g t d m) m ≡ d
unfolding moved undo can_have_led_here
redone n g h t m d e l led tier =
    let s = step_at n g t m in
    let x = passed g d in
    let right = step_right n g h t m l in
    ap (λ (u : ℕ). passed g (stepped (step_at n g u m) (taken_back s x))) tier
    ∙ ap (passed g) (laid_back n (cells_in s.after) s.after s.before x right.after (passed_length n g (tables_right n g h).turn d e) led)
    ∙ passed_twice n g (tables_right n g h).turn d e

-- no more numbers below a bound pass a test than the bound
pass_few : (p : ℕ → Bool) (n : ℕ) → length (filter p (range_with_len 0 n)) ≤ n
pass_few p n =
    let e = length-filter p (range_with_len 0 n) in
    let l = count_by-le-length p (range_with_len 0 n) in
    let k = length-range_with_len 0 n in
    omega (arith, e, l, k)

module _ (n : ℕ) (g : PatternGame) (h : IsPatternGame n g) where
  -- the laws of moves
  pub pattern_lawful : IsMoveGame (pattern_game n g)
  unfolding steps can_move
  pattern_lawful = record {
    name_length = (tables_right n g h).name_length;
    name_text = (tables_right n g h).name_text;
    start_legal = (tables_right n g h).start;
    numbers_fit = λ t. let few = steps_few n g h t in omega (arith, few);
    moved_legal = λ b m l k. let w = legal_in n g b l in legal_from n g _ (moved_legal n g h b m w.cells k.below k.can w (goes_on g b k.not_over));
    moved_tier = λ b m l k. let w = legal_in n g b l in moved_tier n g h b m w.cells k.below k.can (can_play_on n g b w.numbers (goes_on g b k.not_over));
    child_rank = child_rank n g h;
    child_tiers_ascending = ascending_children n g;
    undone = λ b m l k. undone n g h b m (legal_in n g b l).cells k.below k.can;
    redone = λ t d m l w i e k. redone n g h t m d (legal_in n g d l).cells (subst (λ (u : ℕ). m < length (steps_of n g u)) e k.below) w e;
    moves_few = λ b l. let few = steps_few n g h (tier_on g b) in let less = pass_few (can_move n g b) (length (steps_of n g (tier_on g b))) in omega (arith, few, less);
    befores_few = λ t d l. let few = steps_few n g h t in let less = pass_few (can_have_led_here n g t d) (length (steps_of n g t)) in omega (arith, few, less);
    child_tiers_few = λ t. let few = few_children n g h t in omega (arith, few);
  }

  -- the numbering is one to one
  pub pattern_numbered : IsNumbered (board_game (pattern_game n g))
  pattern_numbered = record {
    tier_fits = tier_fits n g h;
    size_fits = λ b l. size_fits n g (tier_on g b) (tables_right n g h).few;
    index_below = λ b l. (is_placed n g h b l).below;
    board_back = λ b l. (is_placed n g h b l).back;
    index_back = λ t i l k e. index_again n g t i l;
  }

  -- the symmetries keep the rules
  pub pattern_symmetric : IsMoveSymmetric (pattern_game n g)
  unfolding can_move
  pattern_symmetric = record {
    group = permuted_group Empty n g.symmetries (legal n g) (group n g h) (λ b l. (legal_in n g b l).cells);
    keeps_legal = λ p b c l. image_legal n g h p b c (legal_in n g b l).cells l;
    keeps_over = λ p b c l. image_over n g h p b c (legal_in n g b l).cells;
    keeps_stuck = λ p b c l. refl;
    keeps_tier = λ p b c l. image_tier n g h p b c (legal_in n g b l).cells;
    keeps_move = λ p b m c l k. image_move n g h b m (legal_in n g b l).cells k.below k.can p c k.not_over;
  }
