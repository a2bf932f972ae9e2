-- The indexes of boards: one to one on the legal boards of a tier.
use Rattle.std.specs.Prelude.{◌≡◌, ◌+◌, ◌-◌, ◌*◌, ◌^◌, ◌<◌, ◌≤◌, ◌⊎◌, ◌∷◌, if◌then◌else◌}
use Rattle.gm_pieces.specs.Common.{ℕ, zero, suc, min, fold, true, leb, List, [], map, refl, sym, ap, ◌∙◌, subst, arith, inl, inr, cond-true, pow_pos, pow_mono, binomial_zero, pascal, Cell, Empty, is_mine, is_theirs, number_of, permute, board_index, board_numbered, least_index_under, index_below, board_back, index_back, board_game, least_index}
use Rattle.gm_pieces.specs.laws.NumberFacts.{board_numbers}
use Rattle.gm_pieces.specs.laws.MaskFacts.{same_map}
use Rattle.gm_board.specs.Arrangements.{arrangements}
use Rattle.gm_board.specs.Binomials.{binomial}
use Rattle.gm_board.specs.laws.Binomials.{binomial_none}
use Rattle.std.proofs.Common.{pow-suc}
use Rattle.std.proofs.lemmas.Nat.{mul-lt}
use Rattle.std.proofs.lemmas.Simd.{map-map}
use Rattle.gm_patterns.specs.PatternGames.{PatternGame, tier_by, more, fewer, tier_on, can_have, legal, boards_with, boards_before, size_of, index_on, board_at, pattern_game}
use Rattle.gm_patterns.specs.PatternTables.{IsPatternGame}
use Rattle.gm_patterns.specs.laws.TableFacts.{tables_right, have_few, legal_in, has_tier, image_before}
use Rattle.gm_patterns.specs.declared.rules.Tiers.{Tiers}

-- ---- bounds
binomial_most : (n k : ℕ) → binomial n k ≤ 2 ^ n
binomial_most zero zero = omega (arith, binomial_zero 0)
binomial_most zero (suc k) = omega (arith, binomial_none k)
binomial_most (suc n) zero = omega (arith, binomial_zero (suc n), pow_pos (suc n))
binomial_most (suc n) (suc k) = omega (arith, pascal n k, binomial_most n k, binomial_most n (suc k), pow-suc 2 n)

pub arrangements_small : (n m t : ℕ) → n ≤ 25 → arrangements n m t < 2 ^ 63
unfolding arrangements
arrangements_small n m t few =
    let a = binomial_most n m in
    let b = binomial_most (n - m) t in
    let p : 2 ^ n ≤ 2 ^ 25 = pow_mono few in
    let rest : n - m ≤ 25 = omega (arith, few) in
    let q : 2 ^ (n - m) ≤ 2 ^ 25 = pow_mono rest in
    let s = mul-lt (binomial n m) (binomial (n - m) t) (2 ^ 26) (2 ^ 26) (omega (arith, a, p)) (omega (arith, b, q)) in
    omega (arith, s)

tier_small : (x : Tiers) (m t : ℕ) → tier_by x m t ≤ 101 * (m + t)
tier_small x m t = grind arith

module _ (n : ℕ) (g : PatternGame) where
  -- ---- how many boards there are
  pub boards_some : (m t : ℕ) → can_have n g m t ≡ true → boards_with n g m t ≡ arrangements n m t
  unfolding boards_with
  boards_some m t e = cond-true _ _ _ e

  pub boards_fit : (m t : ℕ) → n ≤ 25 → boards_with n g m t < 2 ^ 63
  unfolding boards_with
  boards_fit m t few = grind (arith, arrangements_small n m t few)

  -- an index below their number is that of an arrangement
  pub index_fits : (m t i : ℕ) → i < boards_with n g m t → (can_have n g m t ≡ true) × (i < arrangements n m t)
  unfolding boards_with
  index_fits m t i l = grind arith

  -- the boards of a tier: those on which the mover has no fewer pieces, and the others
  abbrev pub first : ℕ → ℕ
  first t = boards_with n g (more g t) (fewer g t)

  abbrev pub rest : ℕ → ℕ
  rest t = boards_with n g (fewer g t) (more g t)

  pub size_fits : (t : ℕ) → n ≤ 25 → size_of n g t < 2 ^ 64
  unfolding size_of
  size_fits t few = grind (arith, boards_fit (more g t) (fewer g t) few, boards_fit (fewer g t) (more g t) few)

  -- an index of a tier is one of the first boards, or one of the others
  pub index_cases : (t i : ℕ) → i < size_of n g t → (fewer g t ≤ more g t) × ((i < first t) ⊎ ((first t ≤ i) × (i - first t < rest t) × (fewer g t < more g t)))
  unfolding size_of
  index_cases t i l = grind arith

  -- there are no more pieces in a tier that has indexes than cells
  pub size_few : (t i : ℕ) → i < size_of n g t → more g t + fewer g t ≤ n
  unfolding size_of boards_with
  size_few t i l = grind (arith, have_few n g (more g t) (fewer g t), have_few n g (fewer g t) (more g t))

  pub first_fits : (t i : ℕ) → i < boards_with n g (more g t) (fewer g t) → i < arrangements n (more g t) (fewer g t)
  first_fits t i l = (index_fits (more g t) (fewer g t) i l).1

  pub rest_fits : (t i : ℕ) → i < size_of n g t → boards_with n g (more g t) (fewer g t) ≤ i → i - boards_with n g (more g t) (fewer g t) < arrangements n (fewer g t)
      (more g t)
  unfolding size_of
  rest_fits t i l k = grind (arith, index_fits (fewer g t) (more g t) (i - first t))

  -- ---- the board of an index
  -- the index of the board that has these numbers of pieces and this index among them
  index_of : (m o j : ℕ) → j < arrangements n m o → index_on n g (board_numbered n m o j) ≡ (if leb o m then 0 else boards_with n g o m) + j
  unfolding index_on boards_before
  index_of m o j l = let has = board_numbers n m o j l in grind (arith, has.own, has.other, index_back n m o j l)

  -- the index of the board of an index
  pub index_again : (t i : ℕ) → i < size_of n g t → index_on n g (board_at n g t i) ≡ i
  unfolding board_at
  index_again t i l =
      let cases = index_cases t i l in
      elim cases.1 [
        | inl f ↦ grind (arith, cases.0, f, index_of (more g t) (fewer g t) i (first_fits t i f))
        | inr f ↦ grind (arith, f, index_of (fewer g t) (more g t) (i - first t) (rest_fits t i l f.0))
      ]

  -- ---- the index of a board
  pub before_fits : (b : List Cell) → n ≤ 25 → boards_before n g b < 2 ^ 63
  unfolding boards_before
  before_fits b few = grind (arith, boards_fit (number_of is_theirs b) (number_of is_mine b) few)

-- ---- least indexes
least_more : (k x : ℕ) (xs : List ℕ) → fold min (k + x) (map (λ (y : ℕ). k + y) xs) ≡ k + fold min x xs
least_more k x [] = refl
least_more k x (y ∷ ys) =
    ap (λ (v : ℕ). fold min v (map (λ (y : ℕ). k + y) ys)) (let z : min (k + x) (k + y) ≡ k + min x y = omega arith in z) ∙ least_more k (min x y) ys

least_most : (x : ℕ) (xs : List ℕ) → fold min x xs ≤ x
least_most x [] = omega arith
least_most x (y ∷ ys) = let l = least_most (min x y) ys in omega (arith, l)

module _ (n : ℕ) (g : PatternGame) (h : IsPatternGame n g) where
  -- ---- legal boards
  own_index : (b : List Cell) → legal n g b ≡ true → board_index b < boards_with n g (number_of is_mine b) (number_of is_theirs b)
  own_index b l =
      let w = legal_in n g b l in
      subst (λ (k : ℕ). board_index b < k) (sym (boards_some n g _ _ w.numbers)) (index_below n _ _ b (record { cells = w.cells; own = refl; other = refl }))

  pub index_small : (b : List Cell) → legal n g b ≡ true → boards_before n g b + board_index b < 2 ^ 64
  index_small b l =
      let own = own_index b l in
      let a = boards_fit n g (number_of is_mine b) (number_of is_theirs b) (tables_right n g h).few in
      let c = before_fits n g b (tables_right n g h).few in
      omega (arith, own, a, c)

  -- the index of a legal board is one of its tier, and its board is the one of this index
  pub record IsPlaced (b : List Cell) : Type 0 where
    pub below : index_on n g b < size_of n g (tier_on g b)
    pub back : board_at n g (tier_on g b) (index_on n g b) ≡ b

  pub is_placed : (b : List Cell) → legal n g b ≡ true → IsPlaced b
  unfolding index_on board_at size_of boards_before
  is_placed b l =
      let w = legal_in n g b l in
      let tier = has_tier n g h b w.numbers in
      let most = tier.most in
      let least = tier.least in
      let own = own_index b l in
      let back = board_back n (number_of is_mine b) (number_of is_theirs b) b (record { cells = w.cells; own = refl; other = refl }) in
      record { below = grind (arith, most, least, own); back = grind (arith, most, least, own, back) }

  pub tier_fits : (b : List Cell) → legal n g b ≡ true → tier_on g b < 2 ^ 64
  unfolding tier_on
  tier_fits b l =
      let t = have_few n g _ _ (legal_in n g b l).numbers in
      let small = tier_small g.tiers (number_of is_mine b) (number_of is_theirs b) in
      let few = (tables_right n g h).few in
      omega (arith, t, small, few)

  -- ---- the least index
  -- it is the least among the boards with the same numbers of pieces, after those that come before them
  pub least_is : (b : List Cell) → legal n g b ≡ true → least_index (board_game (pattern_game n g)) b ≡ boards_before n g b + least_index_under g.symmetries b
  unfolding index_on
  least_is b l =
      let k = boards_before n g b in
      let image : List ℕ → List Cell = λ p. permute Empty p b in
      let cells = (legal_in n g b l).cells in
      ap (fold min (k + board_index b))
      (map-map (index_on n g) image g.symmetries
      ∙ same_map (λ (p : List ℕ). index_on n g (image p)) (λ (p : List ℕ). k + board_index (image p)) g.symmetries
      (λ p c. ap (λ (v : ℕ). v + board_index (image p)) (image_before n g h p b c cells))
      ∙ sym (map-map (λ (y : ℕ). k + y) (λ (p : List ℕ). board_index (image p)) g.symmetries))
      ∙ ap (λ (xs : List ℕ). fold min (k + board_index b) (map (λ (y : ℕ). k + y) xs)) (sym (map-map board_index image g.symmetries))
      ∙ least_more k (board_index b) (map board_index (map image g.symmetries))

  pub least_small : (b : List Cell) → legal n g b ≡ true → boards_before n g b + least_index_under g.symmetries b < 2 ^ 64
  least_small b l =
      let small = index_small b l in
      let most = least_most (board_index b) (map board_index (map (λ (p : List ℕ). permute Empty p b) g.symmetries)) in
      omega (arith, small, most)
