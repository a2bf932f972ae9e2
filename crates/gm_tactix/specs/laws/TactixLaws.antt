-- Tac Tix has the laws of a game.
use Rattle.std.specs.Prelude.{◌≡◌, ◌-◌, ◌*◌, ◌<◌, ◌≤◌, ◌&&◌, if◌then◌else◌}
use Rattle.gm_pieces.specs.Common.{ℕ, Bool, true, false, not, eqb, List, reverse, length, get_or, None, Some, refl, sym, ap, ap₂, ◌∙◌, subst, arith, inl, inr, eqb-true, eq-eqb, ltb, ltb-true, Contains, range_with_len, cases_Bool, nat_tests, length-reverse, reverse-reverse, length-replicate, length-range_with_len, Position, Lose, Win, IsPaddedText, IsNumbered, and_both, all_from, all_at, ext_get_or, binomial, binomial_small, members, rank, unrank, rank_below, unrank_length, unrank_members, rank_unrank, unrank_rank, members_le, bit_weight, permute, permute_get, IsGroup, group_length, image_length, image_sum, square_symmetries, square_group, range_in, board_game, move_rules, IsMoveGame, IsMoveSymmetric, permuted_group}
use Rattle.gm_tactix.specs.Segments.{segment_cells}
use Rattle.gm_tactix.specs.Board.{has_counter, is_full, without, can_take, play, tactix_name, counters_index, counters_at, side_of, tactix}
use Rattle.gm_tactix.specs.laws.SegmentFacts.{for_sides, square_small, number_below, length_bounds, cells_within, segment_image, among_in, among_from}
use Rattle.gm_tactix.specs.laws.CounterFacts.{length_without, without_at, members_weight, members_reverse}
use Rattle.gm_tactix.specs.laws.MoveFacts.{range_from, range_ascending, move_in, move_from, moves_few, play_length, play_members, undone, redone, befores_few}

-- ---- numbering
module _ (s : ℕ) (low : 1 ≤ s) (high : s ≤ 5) where
  cells_few : s * s ≤ 25
  cells_few = square_small s low high

  -- an index is below the size of its tier
  pub index_below : (b : List Bool) → length b ≡ s * s → counters_index b < binomial (s * s) (members b)
  unfolding counters_index
  index_below b e = let r = rank_below (reverse b) in rw (length-reverse b, e, members_reverse b) at r

  board_back : (b : List Bool) → length b ≡ s * s → counters_at s (members b) (counters_index b) ≡ b
  unfolding counters_index counters_at
  board_back b e = let r = unrank_rank (reverse b) in ap reverse (rw (length-reverse b, e, members_reverse b) at r) ∙ reverse-reverse b

  index_back : (t i : ℕ) → i < binomial (s * s) t → counters_index (counters_at s t i) ≡ i
  unfolding counters_index counters_at
  index_back t i l = ap rank (reverse-reverse (unrank (s * s) t i)) ∙ rank_unrank (s * s) t i l

  -- the board with an index has the cells of the square
  pub board_length : (t i : ℕ) → length (counters_at s t i) ≡ s * s
  unfolding counters_at
  board_length t i = length-reverse (unrank (s * s) t i) ∙ unrank_length (s * s) t i

  -- the board with an index has as many counters as the tier says
  pub board_members : (t i : ℕ) → i < binomial (s * s) t → members (counters_at s t i) ≡ t
  unfolding counters_at
  board_members t i l = members_reverse (unrank (s * s) t i) ∙ unrank_members (s * s) t i l

  members_few : (b : List Bool) → length b ≡ s * s → members b ≤ 25
  members_few b e = let l = members_le b in omega (arith, l, e, cells_few)

  -- the numbering is one to one
  pub numbered : (misere : Bool) → IsNumbered (board_game (tactix s misere))
  numbered misere = record {
    tier_fits = λ b l. let m = members_few b (eqb-true _ _ l) in omega (arith, m);
    size_fits = λ b l. let n : s * s ≤ 32 = omega (arith, cells_few) in let m = binomial_small (s * s) (members b) n in omega (arith, m);
    index_below = λ b l. index_below b (eqb-true _ _ l);
    board_back = λ b l. board_back b (eqb-true _ _ l);
    index_back = λ t i l k e. index_back t i l;
  }

  -- ---- moves and ends
  play_tier : (b : List Bool) (m : ℕ) → can_take s b m ≡ true → Contains (range_with_len (members b - s) (members b - (members b - s))) (members (play s b m))
  play_tier b m c =
      let n = play_members s b m low c in
      let l = length_bounds s m (move_in s b m c).0 in
      range_from (members b - s) (members b - (members b - s)) (members (play s b m)) (omega (arith, n, l.0, l.1)) (omega (arith, n, l.0, l.1))

  name_text : (misere : Bool) → (length (tactix_name s misere) ≡ 16) × IsPaddedText (tactix_name s misere)
  unfolding tactix_name
  name_text true = for_sides (λ s. (length (tactix_name s true) ≡ 16) × IsPaddedText (tactix_name s true)) (refl, refl) (refl, refl) (refl, refl)
      (refl, refl) (refl, refl) s low high
  name_text false = for_sides (λ s. (length (tactix_name s false) ≡ 16) × IsPaddedText (tactix_name s false)) (refl, refl) (refl, refl) (refl, refl)
      (refl, refl) (refl, refl) s low high

  -- the game's own laws
  pub lawful : (misere : Bool) → IsMoveGame (tactix s misere)
  lawful misere = record {
    name_length = (name_text misere).0;
    name_text = (name_text misere).1;
    start_legal = eq-eqb _ _ (length-replicate (s * s) true);
    numbers_fit = λ t. omega (arith, cells_few);
    moved_legal = λ b m l h. eq-eqb _ _ (play_length s b m ∙ eqb-true _ _ l);
    moved_tier = λ b m l h. inr (play_tier b m h.can);
    child_rank = λ t u c. let r = range_in (t - s) (t - (t - s)) u c in omega (arith, r.1);
    child_tiers_ascending = λ t. range_ascending (t - s) (t - (t - s));
    undone = λ b m l h. undone s b m low h.can;
    redone = λ t d m l w k e h. redone s t d m w;
    moves_few = λ b l. moves_few s misere b low high;
    befores_few = λ t d l. befores_few s t d low high;
    child_tiers_few = λ t. let n = length-range_with_len (t - s) (t - (t - s)) in omega (arith, n);
  }

  -- ---- symmetries
  group : IsGroup (s * s) (square_symmetries s)
  group = square_group s low high

  image_members : (g : List ℕ) (b : List Bool) → Contains (square_symmetries s) g → length b ≡ s * s → members (permute false g b) ≡ members b
  image_members g b c e =
      members_weight (permute false g b) ∙ image_sum bit_weight false (s * s) (square_symmetries s) group g c b e ∙ sym (members_weight b)

  image_at : (g : List ℕ) (b : List Bool) (k : ℕ) → Contains (square_symmetries s) g → k < s * s → has_counter (permute false g b) k ≡ has_counter b
      (get_or g k 0)
  image_at g b k c l = permute_get false g b k (subst (λ (n : ℕ). k < n) (sym (group_length (s * s) (square_symmetries s) group g c)) l)

  image_move : (g : List ℕ) (b : List Bool) (m : ℕ) → Contains (square_symmetries s) g → length b ≡ s * s → can_take s b m ≡ true
      → (n : ℕ) × (can_take s (permute false g b) n ≡ true) × (play s (permute false g b) n ≡ permute false g (play s b m))
  unfolding play
  image_move g b m c e d =
      let v = move_in s b m d in
      let x = segment_image s low high g m c v.0 in
      let cs = segment_cells s m in
      let ds = segment_cells s x.0 in
      let image = permute false g b in
      let long : length image ≡ s * s = image_length false (s * s) (square_symmetries s) group g c b in
      let full : is_full image ds ≡ true =
      all_from (has_counter image) ds (λ k f.
      let l : k < s * s = cells_within s low high x.0 k x.1 f in
      let there : Contains cs (get_or g k 0) = among_in (get_or g k 0) cs (sym (x.2 k l) ∙ among_from k ds f) in
      image_at g b k c l ∙ all_at (has_counter b) cs (get_or g k 0) v.1 there) in (
        x.0,
        move_from s image x.0 x.1 full,
        ext_get_or false (without image ds) (permute false g (without b cs))
            (length_without image ds ∙ long ∙ sym (image_length false (s * s) (square_symmetries s) group g c (without b cs)))
            (λ k l. let h : k < s * s = omega (arith, length_without image ds, long) in
            without_at image ds k
            ∙ ap₂ (λ (u w : Bool). u && not w) (image_at g b k c h) (x.2 k h)
            ∙ sym (without_at b cs (get_or g k 0))
            ∙ sym (image_at g (without b cs) k c h)),
      )

  -- the turns and reflections of the square keep moves and what ends the game
  pub symmetric : (misere : Bool) → IsMoveSymmetric (tactix s misere)
  symmetric misere = record {
    group = permuted_group false (s * s) (square_symmetries s) (λ b. eqb (length b) (s * s)) group (λ b l. eqb-true _ _ l);
    keeps_legal = λ g b c l. eq-eqb _ _ (image_length false (s * s) (square_symmetries s) group g c b);
    keeps_over = λ g b c l. ap (λ (n : ℕ). if eqb n 0 then Some (if misere then Win else Lose) else None) (image_members g b c (eqb-true _ _ l));
    keeps_stuck = λ g b c l. refl;
    keeps_tier = λ g b c l. image_members g b c (eqb-true _ _ l);
    keeps_move = λ g b m c l h.
        let x = image_move g b m c (eqb-true _ _ l) h.can in
        let end_by_last_move = ap (λ (n : ℕ). if eqb n 0 then Some (if misere then Win else Lose) else None) (image_members g b c (eqb-true _ _ l)) in
        (x.0, record { below = number_below s x.0 (move_in s (permute false g b) x.0 x.1).0; not_over = end_by_last_move ∙ h.not_over; can = x.1 }, x.2);
  }

-- the side of the square is at least 1 for any N
pub side_low : (n : ℕ) → 1 ≤ side_of n
unfolding side_of
side_low n = grind (arith, nat_tests)

-- the side of the square is at most 5 for any N
pub side_high : (n : ℕ) → side_of n ≤ 5
unfolding side_of
side_high n = grind (arith, nat_tests)

-- ---- positions
-- every index below the size is that of a board of the tier
pub legal_below : (s : ℕ) (misere : Bool) (p : Position) → 1 ≤ s → s ≤ 5 → (move_rules (tactix s misere)).is_legal p ≡ ltb p.index (binomial (s * s) p.tier)
legal_below s misere p low high =
    elim (cases_Bool (ltb p.index (binomial (s * s) p.tier))) [
      | inl e ↦ (
          let l = ltb-true _ _ e in
          and_both _ _ e (and_both _ _ (eq-eqb _ _ (board_length s low high p.tier p.index)) (eq-eqb _ _ (board_members s low high p.tier p.index l))) ∙ sym e)
      | inr e ↦ rw e refl
    ]
