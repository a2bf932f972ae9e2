-- The numbering of boards is one to one.
use Rattle.std.specs.Prelude.{◌≡◌, ◌+◌, ◌<◌, ◌≤◌, ◌*◌, ◌/◌, ◌%◌}
use Rattle.gm_pieces.specs.Common.{ℕ, zero, suc, Bool, true, false, eqb, eqb-true, nat_tests, refl, sym, ap, ap₂, ◌∙◌, arith, cases_Bool, cond_both, inl, inr, IsNumbered, board_game}
use Rattle.gm_squares.specs.declared.men.Men.{Men}
use Rattle.gm_squares.specs.Chess.{turn_of, tier, index, board, size, legal, ending}
use Rattle.gm_squares.specs.laws.MenFacts.{legal_in, piece_most, same_men}

-- ---- bare kings, and three men
abbrev bare_index : Men → ℕ
bare_index b = 64 * b.king + b.foe

abbrev armed_index : Men → ℕ
armed_index b = ((turn_of b.white_moves * 64 + b.king) * 64 + b.piece) * 64 + b.foe

abbrev bare_board : ℕ → Men
bare_board i = record { white_moves = true; king = i / 64 % 64; piece = 64; foe = i % 64 }

abbrev armed_board : ℕ → Men
armed_board i = record { white_moves = eqb (i / 262144) 0; king = i / 4096 % 64; piece = i / 64 % 64; foe = i % 64 }

pub bare_is : (b : Men) → eqb b.piece 64 ≡ true → (tier b ≡ 0) × (index b ≡ bare_index b)
unfolding tier index
bare_is b e = rw e (refl, refl)

pub armed_is : (b : Men) → eqb b.piece 64 ≡ false → (tier b ≡ 1) × (index b ≡ armed_index b)
unfolding tier index
armed_is b e = rw e (refl, refl)

pub sizes : (size 0 ≡ 4096) × (size 1 ≡ 524288) × (board 0 ≡ bare_board) × (board 1 ≡ armed_board)
unfolding size board
sizes = (refl, refl, refl, refl)

turn_small : (x : Bool) → turn_of x ≤ 1
turn_small true = omega arith
turn_small false = omega arith

turn_test : (x : Bool) → eqb (turn_of x) 0 ≡ x
turn_test true = refl
turn_test false = refl

turn_back : (n : ℕ) → n < 2 → turn_of (eqb n 0) ≡ n
turn_back n l = grind (arith, nat_tests)

tier_small : (b : Men) → tier b ≤ 1
unfolding tier
tier_small b = cond_both (eqb b.piece 64) 0 1 (λ (t : ℕ). t ≤ 1) (λ e. omega arith) (λ e. omega arith)

size_past : (t : ℕ) → 2 ≤ t → size t ≡ 0
unfolding size
size_past t l = grind (arith, nat_tests, l)

pub size_most : (t : ℕ) → size t ≤ 524288
size_most zero = let s = sizes.0 in omega (arith, s)
size_most (suc zero) = let s = sizes.1 in omega (arith, s)
size_most (suc (suc t)) = let s = size_past (suc (suc t)) (omega arith) in omega (arith, s)

-- what the numbering needs of a board
pub record HasIndex (b : Men) : Type 0 where
  pub king : b.king < 64
  pub foe : b.foe < 64
  pub piece : b.piece ≤ 64
  pub bare : eqb b.piece 64 ≡ true → b.white_moves ≡ true

has_index : (q : Bool) (b : Men) → legal q b ≡ true → HasIndex b
has_index q b l = let h = legal_in q b l in record { king = h.king; foe = h.foe; piece = piece_most q b l; bare = h.bare }

not_64 : (p : ℕ) → p ≤ 64 → eqb p 64 ≡ false → p < 64
not_64 p l e = grind (arith, nat_tests, l, e)

pub index_below : (b : Men) → HasIndex b → index b < size (tier b)
index_below b h = elim (cases_Bool (eqb b.piece 64)) [
  | inl e ↦ (
      let t = bare_is b e in
      let s = ap size t.0 ∙ sizes.0 in
      let k = h.king in let f = h.foe in
      omega (arith, s, t.1, k, f))
  | inr e ↦ (
      let t = armed_is b e in
      let s = ap size t.0 ∙ sizes.1 in
      let k = h.king in let f = h.foe in
      let p = not_64 b.piece h.piece e in
      let w = turn_small b.white_moves in
      omega (arith, s, t.1, k, f, p, w))
]

pub board_back : (b : Men) → HasIndex b → board (tier b) (index b) ≡ b
board_back b h = elim (cases_Bool (eqb b.piece 64)) [
  | inl e ↦ (
      let t = bare_is b e in
      let i = bare_index b in
      let k = h.king in let f = h.foe in
      ap₂ board t.0 t.1 ∙ ap (λ (g : ℕ → Men). g i) sizes.2
      ∙ same_men (bare_board i) b (sym (h.bare e)) (omega (arith, k, f)) (sym (eqb-true _ _ e)) (omega (arith, f)))
  | inr e ↦ (
      let t = armed_is b e in
      let i = armed_index b in
      let k = h.king in let f = h.foe in
      let p = not_64 b.piece h.piece e in
      let w = turn_small b.white_moves in
      let turn : i / 262144 ≡ turn_of b.white_moves = omega (arith, k, f, p) in
      ap₂ board t.0 t.1 ∙ ap (λ (g : ℕ → Men). g i) sizes.3
      ∙ same_men (armed_board i) b (ap (λ (n : ℕ). eqb n 0) turn ∙ turn_test b.white_moves) (omega (arith, k, f, p)) (omega (arith, f, p)) (omega (arith, f)))
]

armed_piece : (i : ℕ) → eqb (i / 64 % 64) 64 ≡ false
armed_piece i = grind (arith, nat_tests)

pub index_back : (t i : ℕ) → i < size t → index (board t i) ≡ i
index_back zero i l =
    let s = sizes.0 in
    ap (λ (g : ℕ → Men). index (g i)) sizes.2 ∙ (bare_is (bare_board i) refl).1 ∙ omega (arith, l, s)
index_back (suc zero) i l =
    let s = sizes.1 in
    let turn = turn_back (i / 262144) (omega (arith, l, s)) in
    ap (λ (g : ℕ → Men). index (g i)) sizes.3 ∙ (armed_is (armed_board i) (armed_piece i)).1 ∙ omega (arith, l, s, turn)
index_back (suc (suc t)) i l = absurd (let s = size_past (suc (suc t)) (omega arith) in omega (arith, l, s))

pub numbered : (q : Bool) → IsNumbered (board_game (ending q))
numbered q = record {
  tier_fits = λ b l. let t = tier_small b in omega (arith, t);
  size_fits = λ b l. let s = size_most (tier b) in omega (arith, s);
  index_below = λ b l. index_below b (has_index q b l);
  board_back = λ b l. board_back b (has_index q b l);
  index_back = λ t i l k e. index_back t i l;
}
