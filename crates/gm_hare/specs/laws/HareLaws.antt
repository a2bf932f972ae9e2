-- Hare and Hounds has the laws of a game.
use Rattle.std.specs.Prelude.{◌≡◌, ◌+◌, ◌*◌, ◌<◌, ◌≤◌, ◌&&◌, ◌||◌, if◌then◌else◌, ◌∷◌, ◌⊎◌}
use Rattle.gm_pieces.specs.Common.{ℕ, Bool, true, false, eqb, eqb-true, leb, leb-true, ltb, ltb-true, List, [], reverse, length, get_or, None, Some, refl, sym, ap, ◌∙◌, subst, arith, inl, inr, Contains, cond_both, nat_tests, Lose, Win, at, IsAscending, position_of, IsNumbered, lone_in, or_cases, any_at, list_any, binomial, members, rank, count_ones, range_with_len, and_left, and_right, filter_few, steps, mask_of, tests_of, at_below, agree, agree_same, board_game, IsMove, IsMoveGame, IsMoveSymmetric}
use Rattle.std.specs.Int.Count.{ones, ones_in}
use Rattle.gm_board.specs.Masks.{mask_rank}
use Rattle.gm_hare.specs.declared.hunt.Hunt.{Hunt}
use Rattle.gm_hare.specs.Board.{column, columns_from, hunt_tier, has_escaped, legal, end_by_last_move, can_move, play, can_have_led_here, mirrored, hunt_index, hunt_board, hare_and_hounds}
use Rattle.gm_hare.specs.laws.BoardFacts.{each_list, each, same, same_hunt}
use Rattle.gm_hare.specs.laws.MoveFacts.{is_step, steps_few, move_joined, led_joined, image_step, kept, redone}

-- ---- the hounds of the code
-- 1 if a hound is on a point, else 0
unfoldable pub one : List Bool → ℕ → ℕ
one xs k = if get_or xs k false then 1 else 0

-- the mask of the hounds
abbrev mask_by : List Bool → ℕ
mask_by xs = one xs 0 + 2 * one xs 1 + 4 * one xs 2 + 8 * one xs 3 + 16 * one xs 4 + 32 * one xs 5 + 64 * one xs 6 + 128 * one xs 7 + 256 * one xs 8 + 512 * one xs 9
    + 1024 * one xs 10

pub mask_is : (xs : List Bool) → length xs ≡ 11 → mask_by xs ≡ mask_of (reverse xs)
unfolding one
mask_is xs l = eqb-true _ _ (each_list 11 (λ xs. eqb (mask_by xs) (mask_of (reverse xs))) refl xs l)

-- how many hounds, by the mask
pub ones_are : (xs : List Bool) → length xs ≡ 11 → count_ones (mask_of (reverse xs)) ≡ members xs
unfolding ones ones_in
ones_are xs l = eqb-true _ _ (each_list 11 (λ xs. eqb (count_ones (mask_of (reverse xs))) (members xs)) refl xs l)

-- the sum of the columns
abbrev columns_by : List Bool → ℕ
columns_by xs = one xs 1 + one xs 2 + one xs 3 + 2 * (one xs 4 + one xs 5 + one xs 6) + 3 * (one xs 7 + one xs 8 + one xs 9) + 4 * one xs 10

pub tier_is : (xs : List Bool) → length xs ≡ 11 → columns_by xs ≡ columns_from 0 xs
unfolding column one
tier_is xs l = eqb-true _ _ (each_list 11 (λ xs. eqb (columns_by xs) (columns_from 0 xs)) refl xs l)

-- ---- numbering
-- three hounds are on eleven points in 165 ways
pub ways : binomial 11 3 ≡ 165
unfolding binomial
ways = refl

abbrev is_ranked : Hunt → Bool
is_ranked b = eqb (mask_rank (mask_of (reverse b.hounds))) (rank (reverse b.hounds)) && ltb (rank (reverse b.hounds)) 165

-- the rank of the hounds, by their mask
pub ranked : (b : Hunt) → legal b ≡ true → (mask_rank (mask_of (reverse b.hounds)) ≡ rank (reverse b.hounds)) × (rank (reverse b.hounds) < 165)
unfolding legal binomial mask_rank tests_of
ranked b l = let t = each is_ranked refl b l in (eqb-true _ _ (and_left _ _ t), ltb-true _ _ (and_right _ _ t))

abbrev is_numbered : Hunt → Bool
is_numbered b = leb (hunt_tier b) 10 && (ltb (hunt_index b) (hare_and_hounds.size (hunt_tier b)) && same (hunt_board (hunt_index b)) b)

numbering : (b : Hunt) → legal b ≡ true → is_numbered b ≡ true
unfolding legal column binomial hunt_index hunt_board
numbering b l = each is_numbered refl b l

-- a tier has 3630 indexes, or none
size : (t : ℕ) → hare_and_hounds.size t ≤ 3630
size t = grind (arith, nat_tests)

index_back : (i : ℕ) → i < 3630 → hunt_index (hunt_board i) ≡ i
unfolding binomial hunt_index hunt_board
index_back i l = eqb-true _ _ (at_below 3630 (λ i. eqb (hunt_index (hunt_board i)) i) refl i l)

-- the numbering is one to one
pub numbered : IsNumbered (board_game hare_and_hounds)
numbered = record {
  tier_fits = λ b l. let t = leb-true _ _ (and_left (leb (hunt_tier b) 10) _ (numbering b l)) in omega (arith, t);
  size_fits = λ b l. let s = size (hunt_tier b) in omega (arith, s);
  index_below = λ b l. ltb-true _ _ (and_left _ _ (and_right (leb (hunt_tier b) 10) _ (numbering b l)));
  board_back = λ b l. same_hunt _ b (and_right _ _ (and_right (leb (hunt_tier b) 10) _ (numbering b l)));
  index_back = λ t i l k e. let s = size t in index_back i (omega (arith, s, l));
}

-- the start has tier 2 and index 21
pub start_position : position_of (board_game hare_and_hounds) hare_and_hounds.start ≡ at 2 21
unfolding hunt_index column binomial
start_position = refl

-- ---- moves
-- the tier stays, or is a child
tier_in : (t u : ℕ) (us : List ℕ) → (eqb u t || list_any (eqb u) us) ≡ true → (u ≡ t) ⊎ Contains us u
tier_in t u us e = elim (or_cases _ _ e) [
  | inl f ↦ inl (eqb-true u t f)
  | inr f ↦ (let x = any_at (eqb u) us f in inr (subst (Contains us) (sym (eqb-true u x.0 x.2)) x.1))
]

rank_less : (t u : ℕ) → (leb 2 t && leb t 9) ≡ true → t + 1 ≡ u → hare_and_hounds.tier_rank u < hare_and_hounds.tier_rank t
rank_less t u e f = grind (arith, nat_tests)

-- the game's own laws
pub lawful : IsMoveGame hare_and_hounds
unfolding steps legal
lawful = record {
  name_length = refl;
  name_text = refl;
  start_legal = refl;
  numbers_fit = λ t. omega arith;
  moved_legal = λ b m l h. and_left (legal (play b m)) _ (and_left _ _ (kept b m l h.below h.can));
  moved_tier = λ b m l h. tier_in (hunt_tier b) (hunt_tier (play b m)) _ (and_right (legal (play b m)) _ (and_left _ _ (kept b m l h.below h.can)));
  child_rank = λ t u c. let h = lone_in (leb 2 t && leb t 9) (t + 1) u c in rank_less t u h.0 h.1;
  child_tiers_ascending = λ t. cond_both (leb 2 t && leb t 9) ((t + 1) ∷ []) [] IsAscending (λ e. tt) (λ e. tt);
  undone = λ b m l h. let k = and_left _ _ (and_right _ _ (kept b m l h.below h.can)) in (and_left _ _ k, same_hunt _ b (and_right _ _ k));
  redone = λ t d m l w k e h. same_hunt _ d (redone d m l h.below w);
  moves_few = λ b l. let n = filter_few (can_move b) is_step (move_joined b) (range_with_len 0 176) in omega (arith, n, steps_few);
  befores_few = λ t d l. let n = filter_few (can_have_led_here d) is_step (led_joined d) (range_with_len 0 176) in omega (arith, n, steps_few);
  child_tiers_few = λ t. cond_both (leb 2 t && leb t 9) ((t + 1) ∷ []) [] (λ (xs : List ℕ). length xs ≤ 16) (λ e. omega arith) (λ e. omega arith);
}

-- ---- top and bottom exchanged
abbrev pub image : Bool → Hunt → Hunt
image exchanged b = if exchanged then mirrored b else b

-- what an image keeps
record IsImage (g : Bool) (b : Hunt) : Type 0 where
  pub legal : legal (image g b) ≡ true
  pub tier : hunt_tier (image g b) ≡ hunt_tier b
  pub over : end_by_last_move (image g b) ≡ end_by_last_move b
  pub twice : image g (image g b) ≡ b

abbrev is_mirrored : Hunt → Bool
is_mirrored b = (legal (mirrored b) && eqb (hunt_tier (mirrored b)) (hunt_tier b))
    && (agree (has_escaped (mirrored b)) (has_escaped b) && same (mirrored (mirrored b)) b)

image_of : (g : Bool) (b : Hunt) → legal b ≡ true → IsImage g b
unfolding legal column has_escaped end_by_last_move
image_of false b l = record { legal = l; tier = refl; over = refl; twice = refl }
image_of true b l =
    let t = each is_mirrored refl b l in
    let u = and_left _ _ t in
    let v = and_right _ _ t in
    record {
      legal = and_left _ _ u;
      tier = eqb-true _ _ (and_right _ _ u);
      over = ap (λ (x : Bool). if x then Some (if b.hounds_move then Lose else Win) else None) (agree_same _ _ (and_left _ _ v));
      twice = same_hunt _ b (and_right _ _ v);
    }

pub mirrored_is_legal : (b : Hunt) → legal b ≡ true → legal (mirrored b) ≡ true
mirrored_is_legal b l = (image_of true b l).legal

-- a move of a board has an image among the moves of the image
image_moves : (g : Bool) (b : Hunt) (m : ℕ) → legal b ≡ true → IsMove hare_and_hounds b m
    → (n : ℕ) × IsMove hare_and_hounds (image g b) n × (play (image g b) n ≡ image g (play b m))
image_moves false b m l h = (m, h, refl)
image_moves true b m l h =
    let k = and_right _ _ (and_right _ _ (kept b m l h.below h.can)) in
    let e = and_right _ _ k in
    let over = (image_of true b l).over in
    (image_step m, record { below = ltb-true _ _ (and_left _ _ k); not_over = over ∙ h.not_over; can = and_left _ _ e }, same_hunt _ _ (and_right _ _ e))

both : (g : Bool) → Contains (false ∷ true ∷ []) g
both false = (0, omega arith, refl)
both true = (1, omega arith, refl)

product : (g h : Bool) → (k : Bool) × Contains (false ∷ true ∷ []) k × ((b : Hunt) → legal b ≡ true → image g (image h b) ≡ image k b)
product false h = (h, both h, λ b l. refl)
product true false = (true, both true, λ b l. refl)
product true true = (false, both false, λ b l. (image_of true b l).twice)

pub symmetric : IsMoveSymmetric hare_and_hounds
symmetric = record {
  group = record {
    identity = (false, both false, λ b l. refl);
    closed = λ g h c d. product g h;
    inverse = λ g c. (g, both g, λ b l. (image_of g b l).twice);
  };
  keeps_legal = λ g b c l. (image_of g b l).legal;
  keeps_over = λ g b c l. (image_of g b l).over;
  keeps_stuck = λ g b c l. refl;
  keeps_tier = λ g b c l. (image_of g b l).tier;
  keeps_move = λ g b m c l h. image_moves g b m l h;
}
