-- What follows from the definitions of specs/BoardMasks.antt.
use Rattle.std.specs.Prelude.{bit_and, ◌↔◌}
use Rattle.std.specs.Int.{bit_at}
use Rattle.std.specs.List.{Contains, list_all, list_any}
use Rattle.std.proofs.lemmas.Bool.{cases_eq}
use Rattle.std.proofs.lemmas.List.{ext_get_or, get_or-map, length-map}
use Rattle.std.proofs.lemmas.Nat.Bits.{bit_at-lt, bit_at-zero, bit_at_and, bit_at_or, bit_at-pow_same, bit_at-pow_other, same_from_bits}
use Rattle.gm_board.specs.declared.cell.Cell.{Cell}
use Rattle.gm_board.specs.declared.cell.Cell.TheVariants.{Empty}
use Rattle.gm_board.specs.Masks.{has_cell}
use Rattle.gm_board.specs.Pieces.{cell_by, AreApart}
use Rattle.gm_board.specs.Images.{board_of}
use Rattle.gm_board.specs.BoardMasks.{turned, pattern_mask}
use Rattle.std.proofs.Common.{◌≡◌, ◌≢◌, ℕ, ◌^◌, ◌<◌, min, max, Bool, true, false, ◌||◌, eqb, eqb-true, eq-eqb, List, [], ◌∷◌, map, get_or, set, refl, sym, ap, ap₂, ◌∙◌, subst, arith, inl, inr, length-set, get_or-set_same, get_or-set_other}
use Rattle.gm_board.specs.laws.Lists.{contains_head, contains_later, contains_cases, all_from}
use Rattle.gm_board.specs.laws.Masks.{bit_cases}
use Rattle.gm_board.specs.laws.Patterns.{same_tests}
use Rattle.gm_board.specs.laws.Permutations.{all_at}
use Rattle.gm_board.specs.laws.Images.{board_length, board_get}
use Rattle.gm_board.specs.laws.NextCells.{cell_one}

-- masks that differ on one cell stand for boards that differ there
pub board_change : (n a b c d k : ℕ) (v : Cell) → k < n → ((i : ℕ) → i ≢ k → bit_at c i ≡ bit_at a i) → ((i : ℕ) → i ≢ k → bit_at d i ≡ bit_at b i)
    → cell_by (has_cell c k) (has_cell d k) ≡ v → board_of n c d ≡ set (board_of n a b) k v
board_change n a b c d k v l same_mine same_theirs here =
    ext_get_or Empty (board_of n c d) (set (board_of n a b) k v)
    (board_length n c d ∙ sym (length-set (board_of n a b) k v ∙ board_length n a b))
    (λ i m. let j : i < n = omega (arith, board_length n c d) in
    board_get n c d i j ∙
    elim (cases_eq i k) [
      | inl e ↦ ap (λ (x : ℕ). cell_by (has_cell c x) (has_cell d x)) e
          ∙ here
          ∙ sym (get_or-set_same (board_of n a b) k v Empty (omega (arith, board_length n a b)))
          ∙ ap (λ (x : ℕ). get_or (set (board_of n a b) k v) x Empty) (sym e)
      | inr q ↦ ap₂ (λ (x y : ℕ). cell_by (eqb x 1) (eqb y 1)) (same_mine i q) (same_theirs i q)
          ∙ sym (board_get n a b i j)
          ∙ sym (get_or-set_other (board_of n a b) k i v Empty q)
    ])

turned_by : (a b : Bool) → (a ≡ true → b ≡ false) → cell_by b a ≡ turned (cell_by a b)
turned_by true true h = absurd (let z : ⊥ = cc (h refl) in z)
turned_by true false h = refl
turned_by false true h = refl
turned_by false false h = refl

-- the masks with the sides exchanged stand for the board as the other side sees it
pub board_turned : (n mine theirs : ℕ) → AreApart n mine theirs → board_of n theirs mine ≡ map turned (board_of n mine theirs)
board_turned n mine theirs h =
    ext_get_or Empty (board_of n theirs mine) (map turned (board_of n mine theirs))
    (board_length n theirs mine ∙ sym (length-map (board_of n mine theirs) turned ∙ board_length n mine theirs))
    (λ i m. let j : i < n = omega (arith, board_length n theirs mine) in
    board_get n theirs mine i j
    ∙ turned_by (has_cell mine i) (has_cell theirs i) (h i j)
    ∙ ap turned (sym (board_get n mine theirs i j))
    ∙ sym (get_or-map turned (board_of n mine theirs) i Empty Empty (omega (arith, board_length n mine theirs))))

pattern_has : (l : List ℕ) (k : ℕ) → Contains l k → bit_at (pattern_mask l) k ≡ 1
pattern_has [] k c = absurd (omega (arith, c.1))
pattern_has (j ∷ l) k c =
    bit_at_or (2 ^ j) (pattern_mask l) k ∙
    elim (contains_cases j l k c) [
      | inl e ↦ (let w : bit_at (2 ^ j) k ≡ 1 = ap (bit_at (2 ^ j)) (sym e) ∙ bit_at-pow_same j in let v = bit_at-lt (pattern_mask l) k in
          let z : max (bit_at (2 ^ j) k) (bit_at (pattern_mask l) k) ≡ 1 = omega (arith, w, v) in z)
      | inr d ↦ (let w = pattern_has l k d in let v = bit_at-lt (2 ^ j) k in
          let z : max (bit_at (2 ^ j) k) (bit_at (pattern_mask l) k) ≡ 1 = omega (arith, w, v) in z)
    ]

pattern_only : (l : List ℕ) (k : ℕ) → bit_at (pattern_mask l) k ≡ 1 → Contains l k
pattern_only [] k e = absurd (omega (arith, bit_at-zero k, e))
pattern_only (j ∷ l) k e = elim (cases_eq k j) [
  | inl q ↦ subst (λ (x : ℕ). Contains (j ∷ l) x) (sym q) (contains_head j l)
  | inr q ↦ contains_later j l k (pattern_only l k
      (let w = bit_at-pow_other j k q in let o = bit_at_or (2 ^ j) (pattern_mask l) k in let z : bit_at (pattern_mask l) k ≡ 1 = omega (arith, w, o, e) in z))
]

test_one : (m k : ℕ) → has_cell m k ≡ true → bit_at m k ≡ 1
test_one m k e = eqb-true (bit_at m k) 1 e

-- a mask has all bits of a pattern's mask exactly if it has all cells of the pattern
pub pattern_filled : (m : ℕ) (l : List ℕ) → (bit_and m (pattern_mask l) ≡ pattern_mask l) ↔ (list_all (has_cell m) l ≡ true)
pattern_filled m l = (
  (λ e. all_from (has_cell m) l (λ k c.
      let p = pattern_has l k c in
      let q = bit_at_and m (pattern_mask l) k in
      let r = ap (λ (v : ℕ). bit_at v k) e in
      let s = bit_at-lt m k in
      cell_one m k (let z : bit_at m k ≡ 1 = omega (arith, p, q, r, s) in z))),
  (λ h. same_from_bits (bit_and m (pattern_mask l)) (pattern_mask l) (λ i.
      bit_at_and m (pattern_mask l) i ∙
      elim (bit_cases (bit_at (pattern_mask l) i) (bit_at-lt (pattern_mask l) i)) [
        | inl e ↦ (let z : min (bit_at m i) (bit_at (pattern_mask l) i) ≡ bit_at (pattern_mask l) i = omega (arith, e) in z)
        | inr e ↦ (let w = test_one m i (all_at (has_cell m) l i h (pattern_only l i e)) in
            let z : min (bit_at m i) (bit_at (pattern_mask l) i) ≡ bit_at (pattern_mask l) i = omega (arith, e, w) in z)
      ])),
)

-- the test in the code tells whether a mask has all cells of a pattern
same_pattern : (m : ℕ) (l : List ℕ) → eqb (bit_and m (pattern_mask l)) (pattern_mask l) ≡ list_all (has_cell m) l
same_pattern m l = let h = pattern_filled m l in same_tests _ _ (λ e. h.0 (eqb-true _ _ e)) (λ e. eq-eqb _ _ (h.1 e))

-- the test in the code, for a mask that is known to be a pattern's
pub filled_by : (m w : ℕ) (l : List ℕ) → pattern_mask l ≡ w → eqb (bit_and m w) w ≡ list_all (has_cell m) l
filled_by m w l e = subst (λ (v : ℕ). eqb (bit_and m v) v ≡ list_all (has_cell m) l) e (same_pattern m l)

any_mask : (m : ℕ) (ls : List (List ℕ)) → list_any (λ mask. eqb (bit_and m mask) mask) (map pattern_mask ls) ≡ list_any (λ line. list_all (has_cell m) line) ls
any_mask m [] = refl
any_mask m (l ∷ ls) = ap₂ (λ (x y : Bool). x || y) (same_pattern m l) (any_mask m ls)

-- one of the masks is filled exactly if one of their patterns is
pub some_filled : (m : ℕ) (ws : List ℕ) (ls : List (List ℕ)) → map pattern_mask ls ≡ ws → list_any (λ mask. eqb (bit_and m mask) mask) ws ≡ list_any
    (λ line. list_all (has_cell m) line) ls
some_filled m ws ls e = subst (λ (vs : List ℕ). list_any (λ mask. eqb (bit_and m mask) mask) vs ≡ list_any (λ line. list_all (has_cell m) line) ls) e
    (any_mask m ls)
