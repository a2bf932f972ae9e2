-- The numbering of boards of king and pawn against king is one to one, since that of the men is.
use Rattle.std.specs.Prelude.{◌≡◌, ◌<◌, ◌≤◌}
use Rattle.gm_pieces.specs.Common.{ℕ, true, false, eqb, eqb-true, ltb, lt-ltb, refl, sym, ap, ◌∙◌, arith, cases_Bool, inl, inr, subst, IsNumbered, board_game}
use Rattle.gm_squares.specs.declared.men.Men.{Men}
use Rattle.gm_squares.specs.declared.pawns.PawnBoard.{PawnBoard}
use Rattle.gm_squares.specs.Chess.{tier as men_tier, index as men_index, board as men_board, size as men_size}
use Rattle.gm_squares.specs.Kpk.{legal, tier, index, board, size, kpk}
use Rattle.gm_squares.specs.laws.MenNumbering.{HasIndex, sizes, index_below as men_below, board_back as men_back, index_back as men_index_back}
use Rattle.gm_squares.specs.laws.PawnFacts.{placed_with, off_with, white_with, man_back, tier_small, same_boards}

-- ---- the tiers with a man are numbered as that of three men, and the bare kings as the bare kings
men_tier_is : (t : ℕ) (b : Men) → eqb b.piece 64 ≡ eqb t 0 → (i : ℕ) → men_board t i ≡ men_board (men_tier b) i
unfolding men_board men_tier
men_tier_is t b e i = elim (cases_Bool (eqb t 0)) [ inl f ↦ rw (e, f) refl | inr f ↦ rw (e, f) refl ]

size_is : (t : ℕ) (b : Men) → t < 6 → eqb b.piece 64 ≡ eqb t 0 → size t ≡ men_size (men_tier b)
unfolding size men_size men_tier
size_is t b l e = elim (cases_Bool (eqb t 0)) [ inl f ↦ rw (e, f) refl | inr f ↦ rw (e, f, lt-ltb t 6 l) refl ]

size_with : (t : ℕ) → eqb t 0 ≡ false → size t ≤ 524288
unfolding size
size_with t e = elim (cases_Bool (ltb t 6)) [ inl f ↦ rw (e, f) (omega arith) | inr f ↦ rw (e, f) (omega arith) ]

size_bare : (t : ℕ) → eqb t 0 ≡ true → size t ≡ 4096
unfolding size
size_bare t e = rw e refl

board_with : (t i : ℕ) → eqb t 0 ≡ false → men_board t i ≡ men_board 1 i
unfolding men_board
board_with t i e = rw e refl

has_index : (b : PawnBoard) → legal b ≡ true → HasIndex b.men
has_index b l =
    let h = placed_with b.kind b.men l in
    record { king = h.king; foe = h.foe; piece = h.most; bare = λ e. white_with b l (eqb-true (tier b) 0 (sym (off_with b.kind b.men l) ∙ e)) }

size_most : (t : ℕ) → size t ≤ 524288
size_most t = elim (cases_Bool (eqb t 0)) [ inl e ↦ (let s = size_bare t e in omega (arith, s)) | inr e ↦ size_with t e ]

index_back : (t i : ℕ) → i < size t → men_index (men_board t i) ≡ i
index_back t i l = elim (cases_Bool (eqb t 0)) [
  | inl e ↦ (
      let s = size_bare t e in
      let z = sizes.0 in
      ap (λ (t : ℕ). men_index (men_board t i)) (eqb-true t 0 e) ∙ men_index_back 0 i (omega (arith, l, s, z)))
  | inr e ↦ (
      let s = size_with t e in
      let z = sizes.1 in
      ap men_index (board_with t i e) ∙ men_index_back 1 i (omega (arith, l, s, z)))
]

pub numbered : IsNumbered (board_game kpk)
numbered = record {
  tier_fits = λ b l. let t = tier_small b.kind in omega (arith, t);
  size_fits = λ b l. let s = size_most (tier b) in omega (arith, s);
  index_below = λ b l.
      subst (λ (n : ℕ). index b < n) (sym (size_is (tier b) b.men (tier_small b.kind) (off_with b.kind b.men l))) (men_below b.men (has_index b l));
  board_back = λ b l.
      same_boards (board (tier b) (index b)) b (man_back b.kind)
      (men_tier_is (tier b) b.men (off_with b.kind b.men l) (index b) ∙ men_back b.men (has_index b l));
  index_back = λ t i l k e. index_back t i l;
}
