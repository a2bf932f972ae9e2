-- The endings' own laws of moves: a move preserves legality and can be taken back, and the lists are short.
use Rattle.std.specs.Prelude.{◌≡◌, ◌<◌, ◌≤◌, ◌∷◌, ◌⊎◌, if◌then◌else◌}
use Rattle.gm_pieces.specs.Common.{ℕ, Bool, true, false, eqb, eqb-true, List, [], length, refl, sym, ◌∙◌, subst, arith, inl, inr, cond_both, lone_in, Contains, None, Some, IsAscending, IsPaddedText, IsMoveGame, steps}
use Rattle.gm_game.specs.declared.position.End.TheVariants.{Tie}
use Rattle.gm_squares.specs.Squares.{goes_on_board, beside}
use Rattle.gm_squares.specs.declared.men.Men.{Men}
use Rattle.gm_squares.specs.Chess.{legal, moved, end_by_last_move, tier, child_tiers, chess_name, start, ending, king_attacks, piece_attacks, in_check, ray, reaches}
use Rattle.gm_squares.specs.laws.MenFacts.{legal_in, move_in, moved_legal, apart_foe, undone, redone}
use Rattle.gm_squares.specs.laws.TriedMoves.{moves_few, befores_few}

-- ---- tiers
-- if the game is not over, there are three men
none_if : {X : Type 0} (t : Bool) (x : X) → (if t then Some x else None) ≡ None → t ≡ false
none_if true x e = absurd (let z : ⊥ = cc in z)
none_if false x e = refl

pub three_men : (b : Men) → end_by_last_move b ≡ None → eqb b.piece 64 ≡ false
unfolding end_by_last_move
three_men b e = none_if (eqb b.piece 64) Tie e

tier_cases : (b : Men) → (tier b ≡ 0) ⊎ (tier b ≡ 1)
unfolding tier
tier_cases b = cond_both (eqb b.piece 64) 0 1 (λ (t : ℕ). (t ≡ 0) ⊎ (t ≡ 1)) (λ e. inl refl) (λ e. inr refl)

tier_three : (b : Men) → eqb b.piece 64 ≡ false → tier b ≡ 1
unfolding tier
tier_three b e = rw e refl

below_one : Contains (child_tiers 1) 0
unfolding child_tiers
below_one = (0, omega arith, refl)

moved_tier : (b d : Men) → eqb b.piece 64 ≡ false → (tier d ≡ tier b) ⊎ Contains (child_tiers (tier b)) (tier d)
moved_tier b d e = elim (tier_cases d) [
  | inl z ↦ inr (subst (λ (t : ℕ). Contains (child_tiers t) (tier d)) (sym (tier_three b e)) (subst (λ (u : ℕ). Contains (child_tiers 1) u) (sym z) below_one))
  | inr o ↦ inl (o ∙ sym (tier_three b e))
]

child_rank : (t u : ℕ) → Contains (child_tiers t) u → u < t
unfolding child_tiers
child_rank t u c = let h = lone_in (eqb t 1) 0 u c in let e = eqb-true t 1 h.0 in let f = h.1 in omega (arith, e, f)

-- ---- the laws
name_text : (q : Bool) → (length (chess_name q) ≡ 16) × IsPaddedText (chess_name q)
name_text true = (refl, refl)
name_text false = (refl, refl)

start_legal : (q : Bool) → legal q start ≡ true
unfolding legal king_attacks in_check piece_attacks ray reaches goes_on_board beside
start_legal true = refl
start_legal false = refl

pub lawful : (q : Bool) → IsMoveGame (ending q)
unfolding steps child_tiers
lawful q = record {
  name_length = (name_text q).0;
  name_text = (name_text q).1;
  start_legal = start_legal q;
  numbers_fit = λ t. omega arith;
  moved_legal = λ b m l h. moved_legal q b m (legal_in q b l) (three_men b h.not_over) (move_in q b m h.can);
  moved_tier = λ b m l h. moved_tier b (moved b m) (three_men b h.not_over);
  child_rank = child_rank;
  child_tiers_ascending = λ t. cond_both (eqb t 1) (0 ∷ []) [] IsAscending (λ e. tt) (λ e. tt);
  undone = λ b m l h. undone _ _ _ b m (three_men b h.not_over) (move_in q b m h.can);
  redone = λ t d m l w k e h. redone d m (apart_foe q d (legal_in q d l)) w;
  moves_few = λ b l. moves_few q b l;
  befores_few = λ t d l. befores_few q d l;
  child_tiers_few = λ t. cond_both (eqb t 1) (0 ∷ []) [] (λ (xs : List ℕ). length xs ≤ 16) (λ e. omega arith) (λ e. omega arith);
}
