-- What tables with which nothing is wrong say: of steps, of numbers of pieces, of legal boards, ends, and what images keep of them.
use Rattle.std.specs.Prelude.{◌≡◌, ◌≤◌, ◌∷◌, ◌+◌, ◌*◌, ◌/◌, ◌%◌, ◌<◌, ◌&&◌, ◌||◌, ◌==◌, nat_le, nat_lt, min, max, if◌then◌else◌, None}
use Rattle.gm_pieces.specs.Common.{ℕ, Bool, true, false, List, [], length, map, refl, leb, leb-true, eqb-true, and_left, and_right, flat_map, is_group_table, get_or, sym, ap, ap₂, ◌∙◌, arith, get_or_past, Contains, Contains-get_or, list_all, range_with_len, contains_range, all_at, IsGroup, group_from_table, cond-true, is_mine, is_theirs, not, not-true, eq-eqb, subst, list_any, any_at, any_from, same_tests, and_both, Cell, Empty, number_of, permute, group_permutation, image_back, image_length, image_number}
use Rattle.gm_draw.specs.Points.{are_apart}
use Rattle.gm_game.specs.Texts.{IsPaddedText}
use Rattle.gm_game.specs.declared.limits.TheConstants.{NAME}
use Rattle.gm_patterns.specs.PatternGames.{PatternGame, legal, tier_of, more, fewer, can_have, can_play, steps_of, step_at, no_step, child_tiers, number_after, has_enough, tier_after, rank_of, tier_on, boards_with, boards_before, end_by_last_move}
use Rattle.gm_patterns.specs.PatternTables.{Fault, faults, IsPatternGame, unless, wrong_steps, wrong_numbers, failing, is_cell_name, is_step, named_again, keeps_legal, are_numbered, are_right, is_turn, has_steps, has_images, can_pass, lands, come_back}
use Rattle.gm_patterns.specs.laws.PatternFacts.{both_nil, passes, none_in, IsRightStep, right_step, fits_image, same_pattern_true}
use Rattle.gm_patterns.specs.declared.step.Step.{Step}
use Rattle.std.specs.Option.{is_none}
use Rattle.gm_patterns.specs.Patterns.{fits, has_some, image_pattern, same_pattern}
use Rattle.gm_patterns.specs.declared.pattern.Pattern.{Pattern}

-- the tests that the tables pass, and what fails a test, which is nothing
pub record AreRight (n : ℕ) (g : PatternGame) : Type 0 where
  pub few : n ≤ 25
  pub name_length : length g.name ≡ NAME
  pub name_text : IsPaddedText g.name
  pub few_steps : failing (λ steps. leb (length steps) 128) g.phases ≡ []
  pub cell_names : length g.names ≡ n
  pub named : failing is_cell_name g.names ≡ []
  pub names_apart : are_apart g.names ≡ true
  pub start : legal n g g.start ≡ true
  pub steps : wrong_steps g (λ steps s. is_step n s) ≡ []
  pub names : flat_map (named_again n) g.phases ≡ []
  pub kept : wrong_steps g (λ steps s. keeps_legal n g s) ≡ []
  pub tiers : wrong_numbers n (are_numbered n g) ≡ []
  pub numbers : wrong_numbers n (are_right n g) ≡ []
  pub group : is_group_table n g.symmetries ≡ true
  pub turn : is_turn n g.symmetries g.turn ≡ true
  pub images : wrong_steps g (has_steps g.symmetries) ≡ []
  pub pattern_images : flat_map (λ ps. failing (has_images g.symmetries ps) ps) (g.forbidden ∷ g.lost ∷ g.won ∷ g.tied ∷ []) ≡ []

passed : (b : Bool) (f : Fault) → unless b f ≡ [] → b ≡ true
passed b f e = grind arith

none : {X : Type 0} (f : X → Fault) (xs : List X) → map f xs ≡ [] → xs ≡ []
none f [] e = refl
none f (x ∷ xs) e = absurd (let z : ⊥ = cc in z)

pub tables_right : (n : ℕ) (g : PatternGame) → IsPatternGame n g → AreRight n g
unfolding faults
tables_right n g h =
    let few_steps = both_nil _ _ h.sizes in
    let name = both_nil _ _ few_steps.0 in
    let named = passed _ _ name.1 in
    let apart = both_nil _ _ h.cells in
    let cells = both_nil _ _ apart.0 in
    let turns = both_nil _ _ h.turns in
    record {
      few = leb-true _ _ (passed _ _ name.0);
      name_length = eqb-true _ _ (and_left _ _ named);
      name_text = and_right _ _ named;
      few_steps = none _ _ few_steps.1;
      cell_names = eqb-true _ _ (passed _ _ cells.0);
      named = none _ _ cells.1;
      names_apart = passed _ _ apart.1;
      start = passed _ _ h.start;
      steps = none _ _ h.says;
      names = none _ _ h.names;
      kept = none _ _ h.kept;
      tiers = none _ _ h.numbered;
      numbers = none _ _ h.numbers;
      group = passed _ _ turns.0;
      turn = passed _ _ turns.1;
      images = none _ _ h.images;
      pattern_images = none _ _ h.ends;
    }

-- ---- numbers of pieces
-- there are no more pieces than cells
pub have_few : (n : ℕ) (g : PatternGame) (m t : ℕ) → can_have n g m t ≡ true → m + t ≤ n
unfolding can_have
have_few n g m t e = leb-true _ _ (and_left _ _ e)

-- the sides can have the numbers of pieces with which the game goes on
pub played_have : (n : ℕ) (g : PatternGame) (m t : ℕ) → can_play n g m t ≡ true → can_have n g m t ≡ true
unfolding can_play
played_have n g m t e = and_left _ _ e

pub played_few : (n : ℕ) (g : PatternGame) (m t : ℕ) → can_play n g m t ≡ true → m + t ≤ n
played_few n g m t e = have_few n g m t (played_have n g m t e)

-- ---- steps
listed_in : (phases : List (List Step)) (x : Bool) (p m : ℕ) → m < length (if x then get_or phases p [] else [])
    → Contains phases (if x then get_or phases p [] else [])
listed_in phases x p m l = grind (arith, l, Contains-get_or phases p [], get_or_past phases p [])

few_in : (phases : List (List Step)) (x : Bool) (p : ℕ) → failing (λ steps. leb (length steps) 128) phases ≡ []
    → length (if x then get_or phases p [] else []) ≤ 128
few_in phases x p e = grind (
  arith,
  passes (λ (steps : List Step). leb (length steps) 128) phases (get_or phases p []) e,
  Contains-get_or phases p [],
  get_or_past phases p [],
)

module _ (n : ℕ) (g : PatternGame) (t m : ℕ) (l : m < length (steps_of n g t)) where
  -- the steps of a tier are those of a phase
  pub phase_listed : Contains g.phases (steps_of n g t)
  unfolding steps_of
  phase_listed = listed_in g.phases (leb (more g t + fewer g t) n) (g.phase (more g t + fewer g t)) m l

  pub step_listed : Contains (steps_of n g t) (step_at n g t m)
  unfolding step_at
  step_listed = Contains-get_or (steps_of n g t) m no_step l

  -- if no step fails a test, the step passes
  pub step_passes : (p : List Step → Step → Bool) → wrong_steps g p ≡ [] → p (steps_of n g t) (step_at n g t m) ≡ true
  step_passes p e =
      passes (p (steps_of n g t)) (steps_of n g t) (step_at n g t m)
      (none_in (λ (steps : List Step). failing (p steps) steps) g.phases (steps_of n g t) e phase_listed) step_listed

module _ (n : ℕ) (g : PatternGame) (h : IsPatternGame n g) where
  -- the board at the start is legal
  pub start_legal : legal n g g.start ≡ true
  start_legal = (tables_right n g h).start

  pub step_right : (t m : ℕ) → m < length (steps_of n g t) → IsRightStep n (step_at n g t m)
  step_right t m l = right_step n (step_at n g t m) (step_passes n g t m l (λ steps s. is_step n s) (tables_right n g h).steps)

  pub step_keeps : (t m : ℕ) → m < length (steps_of n g t) → keeps_legal n g (step_at n g t m) ≡ true
  step_keeps t m l = step_passes n g t m l (λ steps s. keeps_legal n g s) (tables_right n g h).kept

  pub step_images : (t m : ℕ) → m < length (steps_of n g t) → has_steps g.symmetries (steps_of n g t) (step_at n g t m) ≡ true
  step_images t m l = step_passes n g t m l (has_steps g.symmetries) (tables_right n g h).images

  -- a tier has at most 128 steps
  pub steps_few : (t : ℕ) → length (steps_of n g t) ≤ 128
  unfolding steps_of
  steps_few t = few_in g.phases (leb (more g t + fewer g t) n) (g.phase (more g t + fewer g t)) (tables_right n g h).few_steps

  -- the symmetries are a group
  pub group : IsGroup n g.symmetries
  group = group_from_table n g.symmetries (tables_right n g h).group

  -- ---- the numbers of pieces after a step
  numbers_listed : (p : ℕ → ℕ → Bool) → wrong_numbers n p ≡ [] → (m t : ℕ) → can_have n g m t ≡ true → p m t ≡ true
  numbers_listed p none m t e =
      let few = have_few n g m t e in
      let cells = (tables_right n g h).few in
      let k = 100 * m + t in
      let test = passes (λ (k : ℕ). p (k / 100) (k % 100)) (range_with_len 0 (100 * n + 1)) k none (contains_range (100 * n + 1) k (omega (arith, few))) in
      let own : k / 100 ≡ m = omega (arith, few, cells) in
      let other : k % 100 ≡ t = omega (arith, few, cells) in
      sym (ap₂ p own other) ∙ test

  -- the numbers of pieces come back from the number of the tier
  pub numbers_back : (m t : ℕ) → can_have n g m t ≡ true → (more g (tier_of g m t) ≡ max m t) × (fewer g (tier_of g m t) ≡ min m t)
  numbers_back m t e =
      let test : come_back g m t ≡ true = sym (cond-true _ _ _ e) ∙ numbers_listed (are_numbered n g) (tables_right n g h).tiers m t e in
      (eqb-true _ _ (and_left _ _ test), eqb-true _ _ (and_right _ _ test))

  right_numbers : (m t : ℕ) → can_play n g m t ≡ true
      → (list_all (lands n g m t) (steps_of n g (tier_of g m t)) && nat_le (length (child_tiers n g (tier_of g m t))) 15) ≡ true
  right_numbers m t e = sym (cond-true _ _ _ e) ∙ numbers_listed (are_right n g) (tables_right n g h).numbers m t (played_have n g m t e)

  -- a step leads to numbers that the sides can have, in the same tier or in one of lower rank
  pub step_lands : (m t : ℕ) (s : Step) → can_play n g m t ≡ true → Contains (steps_of n g (tier_of g m t)) s → has_enough n s m t ≡ true
      → (can_pass n g (number_after n s is_mine m) (number_after n s is_theirs t)
      && (tier_after n g s m t == tier_of g m t || nat_lt (rank_of n g (tier_after n g s m t)) (rank_of n g (tier_of g m t)))) ≡ true
  step_lands m t s e c f = sym (cond-true _ _ _ f) ∙ all_at (lands n g m t) (steps_of n g (tier_of g m t)) s (and_left _ _ (right_numbers m t e)) c

  pub children_few : (m t : ℕ) → can_play n g m t ≡ true → length (child_tiers n g (tier_of g m t)) ≤ 15
  children_few m t e = leb-true _ _ (and_right _ _ (right_numbers m t e))

-- ---- legal boards
pub record IsLegal (n : ℕ) (g : PatternGame) (b : List Cell) : Type 0 where
  pub cells : length b ≡ n
  pub numbers : can_have n g (number_of is_mine b) (number_of is_theirs b) ≡ true
  pub allowed : has_some g.forbidden b ≡ false

-- what holds if the test is passed
pub legal_in : (n : ℕ) (g : PatternGame) (b : List Cell) → legal n g b ≡ true → IsLegal n g b
unfolding legal
legal_in n g b l =
    let r = and_right _ _ l in
    record { cells = eqb-true _ _ (and_left _ _ l); numbers = and_left _ _ r; allowed = not-true _ (and_right _ _ r) }

-- if that holds, the test is passed
pub legal_from : (n : ℕ) (g : PatternGame) (b : List Cell) → IsLegal n g b → legal n g b ≡ true
unfolding legal
legal_from n g b h = and_both _ _ (eq-eqb _ _ h.cells) (and_both _ _ h.numbers (ap not h.allowed))

-- the numbers of pieces of a board come back from its tier
pub record HasTier (n : ℕ) (g : PatternGame) (b : List Cell) : Type 0 where
  pub most : more g (tier_on g b) ≡ max (number_of is_mine b) (number_of is_theirs b)
  pub least : fewer g (tier_on g b) ≡ min (number_of is_mine b) (number_of is_theirs b)
  pub few : number_of is_mine b + number_of is_theirs b ≤ n

pub has_tier : (n : ℕ) (g : PatternGame) → IsPatternGame n g → (b : List Cell) → can_have n g (number_of is_mine b) (number_of is_theirs b) ≡ true → HasTier n g b
unfolding tier_on
has_tier n g h b e =
    let back = numbers_back n g h (number_of is_mine b) (number_of is_theirs b) e in
    record { most = back.0; least = back.1; few = have_few n g _ _ e }

-- ---- ends
-- what holds if the last move has not ended the game
pub record GoesOn (g : PatternGame) (b : List Cell) : Type 0 where
  pub not_over : g.over (number_of is_mine b) (number_of is_theirs b) ≡ None
  pub not_lost : has_some g.lost b ≡ false
  pub not_won : has_some g.won b ≡ false
  pub not_tied : has_some g.tied b ≡ false

pub goes_on : (g : PatternGame) (b : List Cell) → end_by_last_move g b ≡ None → GoesOn g b
unfolding end_by_last_move
goes_on g b e = record { not_over = grind (arith, e); not_lost = grind (arith, e); not_won = grind (arith, e); not_tied = grind (arith, e) }

-- the sides of a board on which the game goes on have numbers of pieces with which it does
pub can_play_on : (n : ℕ) (g : PatternGame) (b : List Cell) → can_have n g (number_of is_mine b) (number_of is_theirs b) ≡ true → GoesOn g b
    → can_play n g (number_of is_mine b) (number_of is_theirs b) ≡ true
unfolding can_play
can_play_on n g b w u = and_both _ _ w (ap is_none u.not_over)

-- ---- images
module _ (n : ℕ) (G : List (List ℕ)) (o : IsGroup n G) (ps : List Pattern) (t : failing (has_images G ps) ps ≡ []) where
  -- the image of a board that has one of the patterns has one
  image_has : (g : List ℕ) (b : List Cell) → Contains G g → length b ≡ n → has_some ps b ≡ true → has_some ps (permute Empty g b) ≡ true
  image_has g b c e f =
      let image = permute Empty g b in
      let x = any_at (λ (p : Pattern). fits p b) ps f in
      let kept = all_at (λ (g : List ℕ). list_any (same_pattern (image_pattern g x.0)) ps) G g (passes (has_images G ps) ps x.0 t x.1) c in
      let y = any_at (same_pattern (image_pattern g x.0)) ps kept in
      any_from (λ (p : Pattern). fits p image) ps y.0 y.1
      (subst (λ (p : Pattern). fits p image ≡ true) (same_pattern_true (image_pattern g x.0) y.0 y.2)
      (fits_image n g x.0 b (group_permutation n G o g c) e x.2))

  -- an image has one exactly if the board has
  pub image_some : (g : List ℕ) (b : List Cell) → Contains G g → length b ≡ n → has_some ps (permute Empty g b) ≡ has_some ps b
  image_some g b c e =
      let h = image_back Empty n G o g c b e in
      same_tests _ _
      (λ f. subst (λ (x : List Cell). has_some ps x ≡ true) h.2 (image_has h.0 (permute Empty g b) h.1 (image_length Empty n G o g c b) f))
      (image_has g b c e)

module _ (n : ℕ) (g : PatternGame) (h : IsPatternGame n g) (p : List ℕ) (b : List Cell) (c : Contains g.symmetries p) (e : length b ≡ n) where
  -- the images of the patterns of each of the four lists are there
  images_kept : (i : ℕ) → i < 4
      → failing (has_images g.symmetries (get_or (g.forbidden ∷ g.lost ∷ g.won ∷ g.tied ∷ []) i [])) (get_or (g.forbidden ∷ g.lost ∷ g.won ∷ g.tied ∷ []) i []) ≡ []
  images_kept i l =
      let lists = g.forbidden ∷ g.lost ∷ g.won ∷ g.tied ∷ [] in
      none_in (λ (ps : List Pattern). failing (has_images g.symmetries ps) ps) lists (get_or lists i []) (tables_right n g h).pattern_images
      (Contains-get_or lists i [] l)

  image_count : (q : Cell → Bool) → number_of q (permute Empty p b) ≡ number_of q b
  image_count q = image_number n g.symmetries (group n g h) p b c q e

  pub image_tier : tier_on g (permute Empty p b) ≡ tier_on g b
  unfolding tier_on
  image_tier = ap₂ (tier_of g) (image_count is_mine) (image_count is_theirs)

  -- boards come before an image as before the board
  pub image_before : boards_before n g (permute Empty p b) ≡ boards_before n g b
  unfolding boards_before
  image_before =
      ap₂ (λ (m t : ℕ). if nat_le t m then 0 else boards_with n g t m) (image_count is_mine) (image_count is_theirs)

  -- an image of a legal board is legal
  pub image_legal : legal n g b ≡ true → legal n g (permute Empty p b) ≡ true
  image_legal l =
      let k = legal_in n g b l in
      legal_from n g (permute Empty p b) (record {
        cells = image_length Empty n g.symmetries (group n g h) p c b;
        numbers = ap₂ (can_have n g) (image_count is_mine) (image_count is_theirs) ∙ k.numbers;
        allowed = image_some n g.symmetries (group n g h) g.forbidden (images_kept 0 (omega arith)) p b c e ∙ k.allowed;
      })

  -- the game is over on an image if it is on the board, and as it is
  pub image_over : end_by_last_move g (permute Empty p b) ≡ end_by_last_move g b
  unfolding end_by_last_move
  image_over =
      let o = group n g h in
      let kept : (ps : List Pattern) → failing (has_images g.symmetries ps) ps ≡ [] → has_some ps (permute Empty p b) ≡ has_some ps b =
      λ ps t. image_some n g.symmetries o ps t p b c e in
      grind (
        arith,
        image_count is_mine,
        image_count is_theirs,
        kept g.lost (images_kept 1 (omega arith)),
        kept g.won (images_kept 2 (omega arith)),
        kept g.tied (images_kept 3 (omega arith)),
      )
