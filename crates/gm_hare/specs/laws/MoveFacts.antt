-- Moves along edges and moves of boards: facts that are computed.
use Rattle.std.specs.Prelude.{◌≡◌, ◌<◌, ◌≤◌, ◌&&◌, ◌||◌, if◌then◌else◌}
use Rattle.gm_pieces.specs.Common.{ℕ, Bool, true, false, not, eqb, eqb-true, leb, leb-true, ltb, ltb-true, List, length, get_or, set, refl, arith, filter, list_all, list_any, range_with_len, and_left, and_right, is_plain, IsPlain, same_list, has_cell, contains_range, filter_to, all_at, at_below, agree, agree_same, step_number, from_point, to_point}
use Rattle.gm_pieces.specs.SmallTables.{implies}
use Rattle.gm_hare.specs.declared.hunt.Hunt.{Hunt}
use Rattle.gm_hare.specs.declared.points.TheConstants.{EDGES, AHEAD}
use Rattle.gm_hare.specs.Board.{column, are_joined, is_ahead, has_hound, is_free, hunt_tier, legal, can_move, play, can_have_led_here, undo, mirror_point, mirrored, hare_and_hounds}
use Rattle.gm_hare.specs.Texts.{point_name, step_text}
use Rattle.gm_hare.specs.laws.BoardFacts.{chosen, hunt, of_boards, each, same}

-- ---- moves along edges
-- whether a number is that of a move along an edge
abbrev pub is_step : ℕ → Bool
is_step m = are_joined (from_point m) (to_point m)

-- whether a move of a side goes along an edge, and not back if it is a hound's
abbrev pub leads : Bool → ℕ → Bool
leads hounds m = is_step m && (not hounds || is_ahead (from_point m) (to_point m))

abbrev steps_along : List ℕ
steps_along = filter is_step (range_with_len 0 176)

-- there are 44 moves along edges
pub steps_few : length steps_along ≤ 128
unfolding are_joined from_point to_point
steps_few = omega arith

-- a test that passes at all of them passes at each
each_step : (p : ℕ → Bool) → list_all p steps_along ≡ true → (m : ℕ) → m < 176 → is_step m ≡ true → p m ≡ true
each_step p e m l s = all_at p steps_along m e (filter_to is_step (range_with_len 0 176) m (contains_range 176 m l) s)

pub ends : (m : ℕ) → m < 176 → is_step m ≡ true → (from_point m < 11) × (to_point m < 11)
unfolding are_joined from_point to_point
ends m l s = let t = each_step (λ m. ltb (from_point m) 11 && ltb (to_point m) 11) refl m l s in (ltb-true _ _ (and_left _ _ t), ltb-true _ _ (and_right _ _ t))

-- the tables have the moves of a side
pub hound_leads : (m : ℕ) → m < 176 → has_cell (get_or AHEAD (from_point m) 0) (to_point m) ≡ leads true m
unfolding are_joined is_ahead column from_point to_point
hound_leads m l = agree_same _ _ (at_below 176 (λ m. agree (has_cell (get_or AHEAD (from_point m) 0) (to_point m)) (leads true m)) refl m l)

pub hare_leads : (m : ℕ) → m < 176 → has_cell (get_or EDGES (from_point m) 0) (to_point m) ≡ leads false m
unfolding are_joined from_point to_point
hare_leads m l = agree_same _ _ (at_below 176 (λ m. agree (has_cell (get_or EDGES (from_point m) 0) (to_point m)) (leads false m)) refl m l)

-- the number of the move with a text
pub step_told : List ℕ → ℕ
step_told t = get_or (filter (λ m. same_list (step_text m) t) steps_along) 0 0

-- the text of a move is short and plain, and says the move
pub step_texts : (m : ℕ) → m < 176 → is_step m ≡ true → (length (step_text m) ≤ 5) × IsPlain (step_text m) × (step_told (step_text m) ≡ m)
unfolding are_joined from_point to_point step_text point_name step_told
step_texts m l s =
    let t = each_step (λ m. leb (length (step_text m)) 5 && (list_all is_plain (step_text m) && eqb (step_told (step_text m)) m)) refl m l s in
    let u = and_right _ _ t in
    (leb-true _ _ (and_left _ _ t), and_left _ _ u, eqb-true _ _ (and_right _ _ u))

-- ---- men that go
-- whether a side has a man on a, and c is empty
abbrev pub goes : Bool → Hunt → ℕ → ℕ → Bool
goes hounds b a c = (if hounds then has_hound b a else eqb a b.hare) && is_free b c

-- the board after it
abbrev pub went : Bool → Hunt → ℕ → ℕ → Hunt
went hounds b a c = hunt (not b.hounds_move) (if hounds then set (set b.hounds a false) c true else b.hounds) (if hounds then b.hare else c)

-- moves and moves back are along edges
pub move_joined : (b : Hunt) (m : ℕ) → can_move b m ≡ true → is_step m ≡ true
unfolding can_move
move_joined b m e = and_left _ _ e

pub led_joined : (d : Hunt) (m : ℕ) → can_have_led_here d m ≡ true → is_step m ≡ true
unfolding can_have_led_here
led_joined d m e = and_left _ _ e

-- ---- moves of boards
-- the number of the move with top and bottom exchanged
abbrev pub image_step : ℕ → ℕ
image_step m = step_number (mirror_point (from_point m)) (mirror_point (to_point m))

-- a test that passes at each legal board for the moves along edges that pass another one
each_move : (q p : Hunt → ℕ → Bool) → of_boards (λ b. list_all (λ m. implies (q b m) (p b m)) steps_along) ≡ true
    → (b : Hunt) (m : ℕ) → legal b ≡ true → m < 176 → is_step m ≡ true → q b m ≡ true → p b m ≡ true
each_move q p e b m l k s =
    let t = each (λ b. list_all (λ m. implies (q b m) (p b m)) steps_along) e b l in chosen (q b m) (p b m) (each_step (λ m. implies (q b m) (p b m)) t m k s)

-- the board after a move, d, is legal, of the same tier or a child tier
abbrev pub is_child : Hunt → Hunt → Bool
is_child b d = legal d && (eqb (hunt_tier d) (hunt_tier b) || list_any (eqb (hunt_tier d)) (hare_and_hounds.child_tiers (hunt_tier b)))

-- the image of the move that leads from b to d leads to d's image
abbrev pub is_imaged : Hunt → Hunt → ℕ → Bool
is_imaged b d n = ltb n 176 && (can_move (mirrored b) n && same (play (mirrored b) n) (mirrored d))

-- both, and the move taken back leads to b
abbrev pub is_kept : Hunt → Hunt → ℕ → Bool
is_kept b d m = is_child b d && ((can_have_led_here d m && same (undo d m) b) && is_imaged b d (image_step m))

pub kept : (b : Hunt) (m : ℕ) → legal b ≡ true → m < 176 → can_move b m ≡ true → is_kept b (play b m) m ≡ true
unfolding legal can_move play can_have_led_here undo from_point to_point are_joined is_ahead column
kept b m l k e = each_move can_move (λ b m. is_kept b (play b m) m) refl b m l k (move_joined b m e) e

-- a move taken back and made again leads to the same board
pub redone : (d : Hunt) (m : ℕ) → legal d ≡ true → m < 176 → can_have_led_here d m ≡ true → same (play (undo d m) m) d ≡ true
unfolding legal play can_have_led_here undo from_point to_point are_joined is_ahead column
redone d m l k e = each_move can_have_led_here (λ d m. same (play (undo d m) m) d) refl d m l k (led_joined d m e) e
