-- Steps: the numbers of pieces after one, the board as the other player sees it, and the other tiers to which steps lead.
use Rattle.std.specs.Prelude.{◌≡◌, ◌+◌, ◌<◌, ◌≤◌, Option, None, Some, if◌then◌else◌, ◌++◌}
use Rattle.gm_pieces.specs.Common.{ℕ, Bool, true, false, List, length, replicate, refl, sym, ap, ◌∙◌, subst, arith, inl, inr, cases_Bool, cases_lt, true≢false, le-leb, length-replicate, get_or_past, range_with_len, range_below, filter_few, Cell, Empty, cell_at, is_mine, is_theirs, number_of, cells_counted, all_cells, cond, ap₂, Contains, all_at, and_left, and_right, mine_turned, turned, turned_twice, permute, permute_length, permute_turned, IsPermutationOf, same_list, same_list_true, not, eqb, leb, leb-true, [], cond-true, cond-false, Contains-append_left, Contains-append_right, filter_map}
use Rattle.gm_board.specs.laws.CellCounts.{one_if, theirs_turned}
use Rattle.std.proofs.lemmas.List.{get_or-replicate, length-map}
use Rattle.gm_patterns.specs.Patterns.{fits}
use Rattle.gm_patterns.specs.Steps.{cells_in, laid, stepped}
use Rattle.gm_patterns.specs.PatternGames.{number_after, has_enough, PatternGame, tier_by, tier_of, tier_on, swap_by, turn_by, passed, more_by, fewer_by, more, fewer, can_play, steps_of, tier_after, child_by, child_tiers, rank_of}
use Rattle.gm_patterns.specs.laws.PatternFacts.{balance, fits_at, laid_length, laid_cell, IsExact, IsRightStep, fits_image, fits_swapped, none_listed}
use Rattle.gm_patterns.specs.declared.pattern.Pattern.{Pattern}
use Rattle.gm_patterns.specs.declared.step.Step.{Step}
use Rattle.gm_board.specs.laws.Permutations.{permute_identity, below_in, permutation_from_test, permute_permute, permuted_sum}
use Rattle.gm_patterns.specs.PatternTables.{swap_pattern, turn_pattern, pass_pattern, is_turn, IsPatternGame}
use Rattle.gm_patterns.specs.declared.rules.Tiers.{Tiers}
use Rattle.gm_board.specs.laws.Lists.{filter_map_from, filter_map_to}
use Rattle.gm_game.specs.Rules.{IsAscending}
use Rattle.gm_game.proofs.Putting.{put_all_ascending, put_all_from, put_all_later}
use Rattle.std.proofs.lemmas.List.Elements.{Contains-append_cases}
use Rattle.gm_patterns.specs.laws.TableFacts.{played_have, numbers_back, step_lands, children_few}

-- a board has the pattern p, and q is laid on cells of which p says what lies there
module _ (n c : ℕ) (p q : Pattern) (b : List Cell) (t : Cell → Bool) (e : length b ≡ n) (h : IsExact n c p) (f : fits p b ≡ true) where
  -- a cell of each of four boards
  cell_balance : (x : List Cell) (k : ℕ) → length x ≡ n → k < n
      → one_if (t (cell_at (laid c q b) k)) + one_if (t (cell_at (laid c p x) k)) ≡ one_if (t (cell_at b k)) + one_if (t (cell_at (laid c q x) k))
  cell_balance x k ex l =
      let lb : k < length b = omega (arith, e, l) in
      let lx : k < length x = omega (arith, ex, l) in
      grind (arith, laid_cell c q b k lb, laid_cell c p x k lx, laid_cell c q x k lx, h.one k (cell_at b k) l, fits_at p b f k lb)

  -- how the number of cells that pass a test changes
  pub laid_number : (x : List Cell) → length x ≡ n → number_of t (laid c q b) + number_of t (laid c p x) ≡ number_of t b + number_of t (laid c q x)
  laid_number x ex =
      let i = cells_counted t (laid c q b) n (laid_length c q b ∙ e) in
      let j = cells_counted t (laid c p x) n (laid_length c p x ∙ ex) in
      let k = cells_counted t b n e in
      let l = cells_counted t (laid c q x) n (laid_length c q x ∙ ex) in
      let s = balance (λ k. t (cell_at (laid c q b) k)) (λ k. t (cell_at (laid c p x) k)) (λ k. t (cell_at b k)) (λ k. t (cell_at (laid c q x) k))
      (range_with_len 0 n) (λ k d. cell_balance x k ex (range_below n k d)) in
      omega (arith, i, j, k, l, s)

  -- no fewer cells of the board pass than of the pattern alone
  cell_enough : t Empty ≡ false → (k : ℕ) → t (cell_at (laid c p (replicate n Empty)) k) ≡ true → t (cell_at b k) ≡ true
  cell_enough none k s =
      let x = replicate n Empty in
      let ex : length x ≡ n = length-replicate n Empty in
      let long = laid_length c p x in
      elim (cases_lt k n) [
        | inl l ↦ (let lb : k < length b = omega (arith, e, l) in
            grind (arith, laid_cell c p x k (omega (arith, ex, l)), h.one k (cell_at b k) l, fits_at p b f k lb, get_or-replicate n k Empty Empty l))
        | inr l ↦ absurd (true≢false (sym s ∙ ap t (get_or_past (laid c p x) k Empty (omega (arith, long, ex, l))) ∙ none))
      ]

  pub laid_enough : t Empty ≡ false → number_of t (laid c p (replicate n Empty)) ≤ number_of t b
  laid_enough none =
      let x = replicate n Empty in
      let i = cells_counted t (laid c p x) n (laid_length c p x ∙ length-replicate n Empty) in
      let j = cells_counted t b n e in
      let l = filter_few (λ (k : ℕ). t (cell_at (laid c p x) k)) (λ (k : ℕ). t (cell_at b k)) (cell_enough none) (range_with_len 0 n) in
      omega (arith, i, j, l)

-- ---- a step
module _ (n : ℕ) (s : Step) (b : List Cell) (e : length b ≡ n) (h : IsRightStep n s) (f : fits s.before b ≡ true) where
  -- how many pieces there are after it
  pub stepped_number : (t : Cell → Bool) → t Empty ≡ false → number_of t (stepped s b) ≡ number_after n s t (number_of t b)
  stepped_number t none =
      let c = cells_in s.after in
      let x = laid_number n c s.before s.after b t e h.before f (replicate n Empty) (length-replicate n Empty) in
      let y = laid_enough n c s.before s.after b t e h.before f none in
      omega (arith, x, y)

  -- the board has the pieces that the step needs, and room for those that it brings
  pub step_enough : (m o : ℕ) → number_of is_mine b ≡ m → number_of is_theirs b ≡ o → has_enough n s m o ≡ true
  unfolding has_enough
  step_enough m o em eo =
      let c = cells_in s.after in
      let own = laid_enough n c s.before s.after b is_mine e h.before f refl in
      let other = laid_enough n c s.before s.after b is_theirs e h.before f refl in
      let a = stepped_number is_mine refl in
      let d = stepped_number is_theirs refl in
      let all = all_cells (stepped s b) in
      let long = laid_length c s.after b in
      grind (arith, own, other, a, d, all, long, e, em, eo)

-- ---- the sides exchanged
swap_length : (s : Bool) (b : List Cell) → length (swap_by s b) ≡ length b
swap_length true b = length-map b turned
swap_length false b = refl

swap_twice : (s : Bool) (b : List Cell) → swap_by s (swap_by s b) ≡ b
swap_twice true b = turned_twice b
swap_twice false b = refl

swap_image : (s : Bool) (p : List ℕ) (b : List Cell) → permute Empty p (swap_by s b) ≡ swap_by s (permute Empty p b)
swap_image true p b = permute_turned p b
swap_image false p b = refl

-- the numbers of pieces of the other player's board
numbers_by : {X : Type 0} (f : ℕ → ℕ → X) (s : Bool) (b : List Cell)
    → f (number_of is_mine (swap_by s b)) (number_of is_theirs (swap_by s b)) ≡ (if s then f (number_of is_theirs b) (number_of is_mine b) else f (number_of is_mine
    b) (number_of is_theirs b))
numbers_by f true b = ap₂ f (mine_turned b) (theirs_turned b)
numbers_by f false b = refl

-- ---- the board turned
module _ (n : ℕ) (G : List (List ℕ)) where
  pub turn_permutation : (t : List ℕ) → is_turn n G (Some t) ≡ true → IsPermutationOf n t
  turn_permutation t e = permutation_from_test n t (and_left _ _ e)

  turn_length : (o : Option (List ℕ)) (b : List Cell) → is_turn n G o ≡ true → length b ≡ n → length (turn_by o b) ≡ n
  turn_length None b e l = l
  turn_length (Some t) b e l = permute_length Empty t b ∙ (turn_permutation t e).cells

  inside : (t u : List ℕ) → IsPermutationOf n t → IsPermutationOf n u → (k : ℕ) → Contains t k → k < length u
  inside t u h i k c = subst (λ (m : ℕ). k < m) (sym i.cells) (below_in n t h k c)

  turn_twice : (o : Option (List ℕ)) (b : List Cell) → is_turn n G o ≡ true → length b ≡ n → turn_by o (turn_by o b) ≡ b
  turn_twice None b e l = refl
  turn_twice (Some t) b e l =
      let h = turn_permutation t e in
      permute_permute Empty t t b (inside t t h h)
      ∙ ap (λ (u : List ℕ). permute Empty u b) (same_list_true _ _ (and_left _ _ (and_right _ _ e)))
      ∙ permute_identity Empty n b l

  turn_image : (o : Option (List ℕ)) (p : List ℕ) (b : List Cell) → is_turn n G o ≡ true → Contains G p → IsPermutationOf n p
      → permute Empty p (turn_by o b) ≡ turn_by o (permute Empty p b)
  turn_image None p b e c h = refl
  turn_image (Some t) p b e c h =
      let i = turn_permutation t e in
      let same = all_at (λ (g : List ℕ). same_list (permute 0 t g) (permute 0 g t)) G p (and_right _ _ (and_right _ _ e)) c in
      permute_permute Empty p t b (inside p t h i)
      ∙ ap (λ (u : List ℕ). permute Empty u b) (sym (same_list_true _ _ same))
      ∙ sym (permute_permute Empty t p b (inside t p i h))

  turn_number : (o : Option (List ℕ)) (q : Cell → Bool) (b : List Cell) → is_turn n G o ≡ true → length b ≡ n → number_of q (turn_by o b) ≡ number_of q b
  unfolding number_of
  turn_number None q b e l = refl
  turn_number (Some t) q b e l = permuted_sum (λ (x : Cell). cond (q x) 1 0) Empty n t (turn_permutation t e) b l

  turn_fits : (o : Option (List ℕ)) (p : Pattern) (b : List Cell) → is_turn n G o ≡ true → length b ≡ n → fits p b ≡ true
      → fits (turn_pattern o p) (turn_by o b) ≡ true
  turn_fits None p b e l f = f
  turn_fits (Some t) p b e l f = fits_image n t p b (turn_permutation t e) l f

pub turn_swap : (o : Option (List ℕ)) (s : Bool) (b : List Cell) → turn_by o (swap_by s b) ≡ swap_by s (turn_by o b)
turn_swap None s b = refl
turn_swap (Some t) s b = swap_image s t b

either_order : (x : Tiers) (s : Bool) (m t : ℕ) → (if s then tier_by x t m else tier_by x m t) ≡ tier_by x m t
either_order x s m t = grind arith

-- ---- the board passed
module _ (n : ℕ) (g : PatternGame) (h : is_turn n g.symmetries g.turn ≡ true) (b : List Cell) (e : length b ≡ n) where
  pub passed_length : length (passed g b) ≡ n
  unfolding passed
  passed_length = turn_length n g.symmetries g.turn (swap_by g.swapped b) h (swap_length g.swapped b ∙ e)

  -- a board passed twice is as it was
  pub passed_twice : passed g (passed g b) ≡ b
  unfolding passed
  passed_twice =
      let o = g.turn in
      let s = g.swapped in
      ap (turn_by o) (sym (turn_swap o s (swap_by s b)))
      ∙ ap (λ (x : List Cell). turn_by o (turn_by o x)) (swap_twice s b)
      ∙ turn_twice n g.symmetries o b h e

  pub passed_image : (p : List ℕ) → Contains g.symmetries p → IsPermutationOf n p → permute Empty p (passed g b) ≡ passed g (permute Empty p b)
  unfolding passed
  passed_image p c i =
      turn_image n g.symmetries g.turn p (swap_by g.swapped b) h c i ∙ ap (turn_by g.turn) (swap_image g.swapped p b)

  -- a function of the numbers of pieces, on the board passed
  pub passed_numbers : {X : Type 0} (f : ℕ → ℕ → X)
      → f (number_of is_mine (passed g b)) (number_of is_theirs (passed g b)) ≡ (if g.swapped then f (number_of is_theirs b) (number_of is_mine b) else f (number_of
      is_mine b) (number_of is_theirs b))
  unfolding passed
  passed_numbers f =
      let x = swap_by g.swapped b in
      let l = swap_length g.swapped b ∙ e in
      ap₂ f (turn_number n g.symmetries g.turn is_mine x h l) (turn_number n g.symmetries g.turn is_theirs x h l) ∙ numbers_by f g.swapped b

  -- the board passed is in the same tier
  pub passed_tier : tier_on g (passed g b) ≡ tier_on g b
  unfolding tier_on
  passed_tier = passed_numbers (tier_of g) ∙ either_order g.tiers g.swapped (number_of is_mine b) (number_of is_theirs b)

  -- the pattern that a board has after it has passed
  pub passed_fits : (p : Pattern) → fits p b ≡ true → fits (pass_pattern g p) (passed g b) ≡ true
  unfolding passed
  passed_fits p f =
      turn_fits n g.symmetries g.turn (swap_pattern g.swapped p) (swap_by g.swapped b) h (swap_length g.swapped b ∙ e) (fits_swapped g.swapped p b f)

-- the pattern that a board has before it passes
pub fits_before : (n : ℕ) (g : PatternGame) (b : List Cell) (p : Pattern) → is_turn n g.symmetries g.turn ≡ true → length b ≡ n → fits p (passed g b) ≡ true
    → fits (pass_pattern g p) b ≡ true
fits_before n g b p h e f =
    subst (λ (x : List Cell). fits (pass_pattern g p) x ≡ true) (passed_twice n g h b e) (passed_fits n g h (passed g b) (passed_length n g h b e) p f)

-- the other tier to which a step leads is a child tier
pub child_listed : (n : ℕ) (g : PatternGame) (mine theirs : ℕ) (s : Step) → IsPatternGame n g → can_play n g mine theirs ≡ true
    → Contains (steps_of n g (tier_of g mine theirs)) s → has_enough n s mine theirs ≡ true → eqb (tier_after n g s mine theirs) (tier_of g mine theirs) ≡ false
    → Contains (child_tiers n g (tier_of g mine theirs)) (tier_after n g s mine theirs)
unfolding child_tiers child_by
child_listed n g mine theirs s h w c f other =
    let t = tier_of g mine theirs in
    let u = tier_after n g s mine theirs in
    let back = numbers_back n g h mine theirs (played_have n g mine theirs w) in
    let steps = steps_of n g t in
    let up = filter_map (child_by n g (more g t) (fewer g t)) steps in
    let down = filter_map (child_by n g (fewer g t) (more g t)) steps in
    let some : child_by n g mine theirs s ≡ Some u = grind (arith, w, f, other) in
    let order : leb (fewer g t) (more g t) ≡ true = le-leb _ _ (omega (arith, back.0, back.1)) in
    let there : Contains (up ++ down) u = elim (cases_lt mine theirs) [
      | inl l ↦ Contains-append_right up down u (filter_map_to (child_by n g (fewer g t) (more g t)) steps s u c (grind (arith, some, back.0, back.1, l)))
      | inr l ↦ Contains-append_left up down u (filter_map_to (child_by n g (more g t) (fewer g t)) steps s u c (grind (arith, some, back.0, back.1, l)))
    ] in
    subst (λ (xs : List ℕ). Contains xs u) (sym (cond-true _ _ _ order)) (put_all_later [] (up ++ down) u there)

-- a child tier has a lower rank
rank_below : (n : ℕ) (g : PatternGame) → IsPatternGame n g → (m t u : ℕ) → Contains (filter_map (child_by n g m t) (steps_of n g (tier_of g m t))) u
    → rank_of n g u < rank_of n g (tier_of g m t)
unfolding child_by
rank_below n g h m t u c =
    let x = filter_map_from (child_by n g m t) (steps_of n g (tier_of g m t)) u c in
    grind (arith, x.1, x.2, step_lands n g h m t x.0)

tier_again : (x : Tiers) (t : ℕ) → fewer_by x t ≤ more_by x t → (tier_by x (more_by x t) (fewer_by x t) ≡ t) × (tier_by x (fewer_by x t) (more_by x t) ≡ t)
tier_again x t l = grind arith

pub child_rank : (n : ℕ) (g : PatternGame) → IsPatternGame n g → (t u : ℕ) → Contains (child_tiers n g t) u → rank_of n g u < rank_of n g t
unfolding child_tiers
child_rank n g h t u c = elim (cases_Bool (leb (fewer g t) (more g t))) [
  | inl order ↦ (
      let same = tier_again g.tiers t (leb-true _ _ order) in
      let up = filter_map (child_by n g (more g t) (fewer g t)) (steps_of n g t) in
      let down = filter_map (child_by n g (fewer g t) (more g t)) (steps_of n g t) in
      elim (put_all_from [] (up ++ down) u (subst (λ (xs : List ℕ). Contains xs u) (cond-true _ _ _ order) c)) [
        | inl d ↦ absurd (let l = d.1 in omega (arith, l))
        | inr d ↦ elim (Contains-append_cases up down u d) [
          | inl i ↦ grind (arith, same.0, i, rank_below n g h (more g t) (fewer g t) u)
          | inr i ↦ grind (arith, same.1, i, rank_below n g h (fewer g t) (more g t) u)
        ]
      ])
  | inr order ↦ absurd (let l = (subst (λ (xs : List ℕ). Contains xs u) (cond-false _ _ _ order) c).1 in omega (arith, l))
]

pub ascending_children : (n : ℕ) (g : PatternGame) (t : ℕ) → IsAscending (child_tiers n g t)
unfolding child_tiers
ascending_children n g t = elim (cases_Bool (leb (fewer g t) (more g t))) [
  | inl e ↦ subst (λ (xs : List ℕ). IsAscending xs) (sym (cond-true _ _ _ e)) (put_all_ascending []
      (filter_map (child_by n g (more g t) (fewer g t)) (steps_of n g t) ++ filter_map (child_by n g (fewer g t) (more g t)) (steps_of n g t)) tt)
  | inr e ↦ subst (λ (xs : List ℕ). IsAscending xs) (sym (cond-false _ _ _ e)) tt
]

-- numbers of pieces with which the game does not go on lead nowhere
no_child : (n : ℕ) (g : PatternGame) (m t : ℕ) → can_play n g m t ≡ false → (steps : List Step) → filter_map (child_by n g m t) steps ≡ []
unfolding child_by
no_child n g m t e steps = none_listed (child_by n g m t) steps (λ s. grind (arith, e))

few_of_none : (n : ℕ) (g : PatternGame) (t : ℕ) → can_play n g (more g t) (fewer g t) ≡ false → can_play n g (fewer g t) (more g t) ≡ false
    → length (child_tiers n g t) ≤ 15
unfolding child_tiers
few_of_none n g t e f = grind (arith, no_child n g (more g t) (fewer g t) e (steps_of n g t), no_child n g (fewer g t) (more g t) f (steps_of n g t))

past_children : (n : ℕ) (g : PatternGame) (t : ℕ) → more g t < fewer g t → length (child_tiers n g t) ≤ 15
unfolding child_tiers
past_children n g t e = grind (arith, e)

pub few_children : (n : ℕ) (g : PatternGame) → IsPatternGame n g → (t : ℕ) → length (child_tiers n g t) ≤ 15
few_children n g h t =
    grind (arith, tier_again g.tiers t, children_few n g h (more g t) (fewer g t), children_few n g h (fewer g t) (more g t), few_of_none n g t, past_children n g t)
