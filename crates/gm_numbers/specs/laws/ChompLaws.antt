-- Chomp has the laws of a game. What holds of each bar is computed.
use Rattle.std.specs.Prelude.{◌≡◌, ◌⊎◌, ◌+◌, ◌*◌, ◌/◌, ◌%◌, ◌<◌, ◌≤◌, ◌&&◌, ◌==◌, ◌∷◌, ◌^◌, nat_le}
use Rattle.gm_game.proofs.PlainTexts.{plain_in}
use Rattle.gm_pieces.specs.Common.{ℕ, zero, suc, Bool, true, false, length-range_with_len, eqb, eqb-true, eq-eqb, leb, leb-true, ltb, ltb-true, lt-ltb, List, [], length, refl, sym, ap, ap₂, ◌∙◌, subst, arith, inl, inr, Contains, list_all, range_with_len, true≢false, and_left, and_right, and_both, contains_head, at_below, cases_lt, cond_both, cond-true, range_below, contains_range, IsAscending, is_plain, board_game, steps, IsMove, IsMoveGame, IsMoveSymmetric, IsNumbered, AreTexts, IsShown, texts_are_shown}
use Rattle.gm_pieces.specs.inner.Tried.{one, AreCandidates}
use Rattle.gm_pieces.specs.SmallTables.{implies}
use Rattle.gm_pieces.specs.laws.TriedFacts.{one_run, tried_few}
use Rattle.gm_numbers.specs.Chomp.{chomp, chomp_rules, chomp_text, chomp_move, weight, row_of, legal, has_square, left_of, bitten, can_move, moved, can_have_led_here, undo, size_at, child_tiers_of, board_text, number_in, step_text}
use Rattle.gm_numbers.specs.laws.Counts.{count, none_in, blocks}

-- ---- what computing shows of each bar
-- a bite leaves a legal bar, whose first row is no longer
abbrev pub bites_well : ℕ → ℕ → Bool
bites_well b k = implies (has_square b k) (legal (bitten b k) && nat_le (bitten b k / 512) (b / 512))

-- bites at other squares leave other bars
abbrev pub bites_apart : ℕ → ℕ → ℕ → Bool
bites_apart b j k = implies (has_square b k) (implies (bitten b j == bitten b k) (j == k))

abbrev pub bar_is_right : ℕ → Bool
bar_is_right b = implies (legal b) (list_all (bites_well b) (range_with_len 0 28)
    && list_all (λ j. implies (has_square b j) (list_all (bites_apart b j) (range_with_len 0 28))) (range_with_len 0 28))

-- the text of a bar is short and plain, and tells the bar
abbrev pub text_is_right : ℕ → Bool
text_is_right b = implies (legal b) (nat_le (length (board_text b)) 64 && (list_all is_plain (board_text b) && number_in (board_text b) == b))

all_bars : list_all bar_is_right (range_with_len 0 4096) ≡ true
unfolding weight row_of legal has_square left_of bitten
all_bars = refl

all_texts : list_all text_is_right (range_with_len 0 4096) ≡ true
unfolding weight row_of legal board_text number_in
all_texts = refl

-- no tier has more than 128 bars
few_bars : list_all (λ t. nat_le (count (λ r. legal (512 * t + r)) 512) 128) (range_with_len 0 8) ≡ true
unfolding weight row_of legal
few_bars = refl

start_legal : legal 4095 ≡ true
unfolding weight row_of legal
start_legal = refl

-- ---- bars
chosen : (x y : Bool) → implies x y ≡ true → x ≡ true → y ≡ true
chosen true y e f = e
chosen false y e f = absurd (true≢false (sym f))

pub bar_below : (b : ℕ) → legal b ≡ true → b < 4096
unfolding legal
bar_below b l = ltb-true b 4096 (and_left _ _ l)

right_bar : (b : ℕ) → legal b ≡ true → (list_all (bites_well b) (range_with_len 0 28)
    && list_all (λ j. implies (has_square b j) (list_all (bites_apart b j) (range_with_len 0 28))) (range_with_len 0 28)) ≡ true
right_bar b l = chosen (legal b) _ (at_below 4096 bar_is_right all_bars b (bar_below b l)) l

well : (b k : ℕ) → legal b ≡ true → k < 28 → has_square b k ≡ true → (legal (bitten b k) ≡ true) × (bitten b k / 512 ≤ b / 512)
well b k l i h =
    let t = chosen (has_square b k) _ (at_below 28 (bites_well b) (and_left _ _ (right_bar b l)) k i) h in
    (and_left _ _ t, leb-true _ _ (and_right _ _ t))

apart : (b j k : ℕ) → legal b ≡ true → j < 28 → k < 28 → has_square b j ≡ true → has_square b k ≡ true → bitten b j ≡ bitten b k → j ≡ k
apart b j k l i m h g e =
    let t = chosen (has_square b j) _ (at_below 28 (λ (j : ℕ). implies (has_square b j) (list_all (bites_apart b j) (range_with_len 0 28)))
    (and_right _ _ (right_bar b l)) j i) h in
    let u = chosen (has_square b k) _ (at_below 28 (bites_apart b j) t k m) g in
    eqb-true j k (chosen (eqb (bitten b j) (bitten b k)) _ u (eq-eqb _ _ e))

right_text : (b : ℕ) → legal b ≡ true → (leb (length (board_text b)) 64 && (list_all is_plain (board_text b) && eqb (number_in (board_text b)) b)) ≡ true
right_text b l = chosen (legal b) _ (at_below 4096 text_is_right all_texts b (bar_below b l)) l

-- the text of a bar tells the bar
pub told : (b : ℕ) → legal b ≡ true → number_in (board_text b) ≡ b
told b l = eqb-true _ _ (and_right _ _ (and_right _ _ (right_text b l)))

-- ---- numbers of moves
pub record IsBite (b m : ℕ) : Type 0 where
  pub rest : m / 28 ≡ b % 512
  pub square : has_square b (m % 28) ≡ true

bite_in : (b m : ℕ) → can_move b m ≡ true → IsBite b m
unfolding can_move
bite_in b m e = record { rest = eqb-true _ _ (and_left _ _ e); square = and_right _ _ e }

-- the numbers of a bar's moves have its lower rows
pub tried : (b : ℕ) → AreCandidates (can_move b) 14336 (one (record { first = 28 * (b % 512); step = 1; count = 28 }))
tried b =
    one_run (can_move b) 14336 (record { first = 28 * (b % 512); step = 1; count = 28 }) (omega arith) (λ j k h e. omega (arith, h)) (λ k h. omega (arith, h))
    (λ m h e. let r = (bite_in b m e).rest in (m % 28, omega arith, (let z : 28 * (b % 512) + 1 * (m % 28) ≡ m = omega (arith, r) in z)))

pub record WasBite (t d m : ℕ) : Type 0 where
  pub tier : t < 8
  pub legal_bar : legal (undo t m) ≡ true
  pub square : has_square (undo t m) (m % 28) ≡ true
  pub is : bitten (undo t m) (m % 28) ≡ d

pub was_in : (t d m : ℕ) → can_have_led_here t d m ≡ true → WasBite t d m
unfolding can_have_led_here
was_in t d m e =
    let a = and_right _ _ e in
    let b = and_right _ _ a in
    record { tier = ltb-true t 8 (and_left _ _ e); legal_bar = and_left _ _ a; square = and_left _ _ b; is = eqb-true _ _ (and_right _ _ b) }

was_from : (t d m : ℕ) → WasBite t d m → can_have_led_here t d m ≡ true
unfolding can_have_led_here
was_from t d m w = and_both _ _ (lt-ltb t 8 w.tier) (and_both _ _ w.legal_bar (and_both _ _ w.square (eq-eqb _ _ w.is)))

-- a tier for which a move can be taken back is small
pub tier_before : (t d m : ℕ) → can_have_led_here t d m ≡ true → t < 8
tier_before t d m e = (was_in t d m e).tier

-- the bar of a move's tier and number
same_bar : (b m : ℕ) → can_move b m ≡ true → undo (b / 512) m ≡ b
same_bar b m e = let r = (bite_in b m e).rest in omega (arith, r)

-- a bar has at most 28 moves
moves_few : (b : ℕ) → count (can_move b) 14336 ≤ 128
moves_few b = let n : count (can_move b) 14336 ≤ 28 = tried_few (can_move b) 14336 _ (tried b) in omega (arith, n)

-- ---- at most 128 moves lead to a bar from a tier
in_block : (r i : ℕ) → i < 28 → ((28 * r + i) / 28 ≡ r) × ((28 * r + i) % 28 ≡ i)
in_block r i l = (omega (arith, l), omega (arith, l))

not_true : (x : Bool) → (x ≡ true → ⊥) → x ≡ false
not_true true h = absurd (h refl)
not_true false h = refl

befores_few : (t d : ℕ) → count (can_have_led_here t d) 14336 ≤ 128
befores_few t d =
    let bars = λ (r : ℕ). legal (512 * t + r) in
    let out : (r : ℕ) → bars r ≡ false → (i : ℕ) → i < 28 → can_have_led_here t d (28 * r + i) ≡ false = λ r e i l.
    not_true _ (λ c. true≢false (sym (was_in t d (28 * r + i) c).legal_bar ∙ ap (λ (x : ℕ). legal (512 * t + x)) (in_block r i l).0 ∙ e)) in
    let n : count (can_have_led_here t d) 14336 ≤ count bars 512 = blocks (can_have_led_here t d) bars 28 512 out (lone t d) in
    elim (cases_lt t 8) [
      | inl l ↦ let few = leb-true _ _ (at_below 8 (λ (t : ℕ). leb (count (λ r. legal (512 * t + r)) 512) 128) few_bars t l) in omega (arith, n, few)
      | inr l ↦
          let none : count bars 512 ≡ 0 = none_in bars 0 512 (λ r k. not_true _ (λ e. let z = bar_below (512 * t + (0 + r)) e in omega (arith, z, l))) in
          omega (arith, n, none)
    ]
  where
    lone : (t d r i j : ℕ) → i < 28 → j < 28 → can_have_led_here t d (28 * r + i) ≡ true → can_have_led_here t d (28 * r + j) ≡ true → i ≡ j
    lone t d r i j l k e f =
        let a = was_in t d (28 * r + i) e in
        let b = was_in t d (28 * r + j) f in
        let x = in_block r i l in
        let y = in_block r j k in
        let bar = λ (n : ℕ). 512 * t + n in
        let bar_i : undo t (28 * r + i) ≡ 512 * t + r = ap bar x.0 in
        let bar_j : undo t (28 * r + j) ≡ 512 * t + r = ap bar y.0 in
        apart (512 * t + r) i j (sym (ap legal bar_i) ∙ a.legal_bar) l k
        (sym (ap₂ has_square bar_i x.1) ∙ a.square) (sym (ap₂ has_square bar_j y.1) ∙ b.square)
        (sym (ap₂ bitten bar_i x.1) ∙ a.is ∙ sym b.is ∙ ap₂ bitten bar_j y.1)

-- ---- the laws
range_ascending : (a n : ℕ) → IsAscending (range_with_len a n)
range_ascending a zero = tt
range_ascending a (suc zero) = tt
range_ascending a (suc (suc n)) = (omega arith, range_ascending (a + 1) (suc n))

-- a tier with a board is small
pub tier_small : (t i : ℕ) → i < size_at t → t < 8
unfolding size_at
tier_small t i = cond_both (ltb t 8) 512 0 (λ z. i < z → t < 8) (λ e l. ltb-true t 8 e) (λ e l. absurd (omega (arith, l)))

pub index_small : (t i : ℕ) → i < size_at t → i < 512
unfolding size_at
index_small t i = cond_both (ltb t 8) 512 0 (λ z. i < z → i < 512) (λ e l. l) (λ e l. absurd (omega (arith, l)))

module _ (b m : ℕ) (l : legal b ≡ true) (k : IsMove chomp b m) where
  bitten_well : (legal (moved b m) ≡ true) × (moved b m / 512 ≤ b / 512)
  unfolding moved
  bitten_well = well b (m % 28) l (omega arith) (bite_in b m k.can).square

  pub lands_in : (moved b m / 512 ≡ b / 512) ⊎ Contains (child_tiers_of (b / 512)) (moved b m / 512)
  unfolding child_tiers_of
  lands_in =
      let below = bar_below b l in
      let low = bitten_well.1 in
      elim (cases_lt (moved b m / 512) (b / 512)) [
        | inl i ↦ inr (subst (λ (ts : List ℕ). Contains ts (moved b m / 512)) (sym (cond-true _ _ _ (lt-ltb (b / 512) 8 (omega (arith, below)))))
            (contains_range (b / 512) (moved b m / 512) i))
        | inr i ↦ inl (omega (arith, i, low))
      ]

  pub taken_back : can_have_led_here (b / 512) (moved b m) m ≡ true
  unfolding moved
  taken_back =
      let below = bar_below b l in
      let same = same_bar b m k.can in
      was_from (b / 512) (bitten b (m % 28)) m (record {
        tier = omega (arith, below);
        legal_bar = ap legal same ∙ l;
        square = ap (λ (x : ℕ). has_square x (m % 28)) same ∙ (bite_in b m k.can).square;
        is = ap (λ (x : ℕ). bitten x (m % 28)) same;
      })

pub lawful : IsMoveGame chomp
unfolding steps child_tiers_of moved
lawful = record {
  name_length = refl;
  name_text = refl;
  start_legal = start_legal;
  numbers_fit = λ t. omega arith;
  moved_legal = λ b m l k. (bitten_well b m l k).0;
  moved_tier = λ b m l k. lands_in b m l k;
  child_rank = λ t u c. cond_both (ltb t 8) (range_with_len 0 t) [] (λ (ts : List ℕ). Contains ts u → u < t)
      (λ e c. range_below t u c) (λ e c. absurd (omega (arith, c.1))) c;
  child_tiers_ascending = λ t. cond_both (ltb t 8) (range_with_len 0 t) [] IsAscending (λ e. range_ascending 0 t) (λ e. tt);
  undone = λ b m l k. (taken_back b m l k, same_bar b m k.can);
  redone = λ t d m l w k e i. (was_in t d m w).is;
  moves_few = λ b l. moves_few b;
  befores_few = λ t d l. befores_few t d;
  child_tiers_few = λ t. cond_both (ltb t 8) (range_with_len 0 t) [] (λ (ts : List ℕ). length ts ≤ 16)
      (λ e. let a = ltb-true t 8 e in let n = length-range_with_len 0 t in omega (arith, a, n)) (λ e. omega arith);
}

pub numbered : IsNumbered (board_game chomp)
unfolding size_at
numbered = record {
  tier_fits = λ b l. let n = bar_below b l in omega (arith, n);
  size_fits = λ b l. cond_both (ltb (b / 512) 8) 512 0 (λ n. n < 2 ^ 64) (λ e. omega arith) (λ e. omega arith);
  index_below = λ b l. let n = bar_below b l in subst (λ n. b % 512 < n) (sym (cond-true _ _ _ (lt-ltb (b / 512) 8 (omega (arith, n))))) (omega arith);
  board_back = λ b l. omega arith;
  index_back = λ t i l k e. let s = index_small t i l in omega (arith, s);
}

lone_symmetry : Contains {X = ℕ} (0 ∷ []) 0
lone_symmetry = contains_head 0 []

pub symmetric : IsMoveSymmetric chomp
symmetric = record {
  group = record {
    identity = (0, lone_symmetry, λ b l. refl);
    closed = λ x y c d. (0, lone_symmetry, λ b l. refl);
    inverse = λ x c. (0, lone_symmetry, λ b l. refl);
  };
  keeps_legal = λ x b c l. l;
  keeps_over = λ x b c l. refl;
  keeps_stuck = λ x b c l. refl;
  keeps_tier = λ x b c l. refl;
  keeps_move = λ x b m c l k. (m, k, refl);
}

same_pair : (a b c d : ℕ) → (48 + a) ∷ 45 ∷ (48 + b) ∷ [] ≡ (48 + c) ∷ 45 ∷ (48 + d) ∷ [] → (a ≡ c) × (b ≡ d)
same_pair a b c d e =
    let x : 48 + a ≡ 48 + c = cc in
    let y : 48 + b ≡ 48 + d = cc in
    (omega (arith, x), omega (arith, y))

pub readable : AreTexts chomp board_text (λ t m. step_text m)
unfolding step_text
readable = record {
  text_plain = λ b l. and_left _ _ (and_right _ _ (right_text b l));
  text_fits = λ b l. leb-true _ _ (and_left _ _ (right_text b l));
  text_once = λ a b l k e. sym (told a l) ∙ ap number_in e ∙ told b k;
  step_plain = λ b m l k. and_both _ _ (plain_in (48 + (m % 28 / 7 + 1)) (omega arith) (omega arith))
      (and_both _ _ refl (and_both _ _ (plain_in (48 + (m % 28 % 7 + 1)) (omega arith) (omega arith)) refl));
  step_fits = λ b m l k. omega arith;
  step_once = λ b m n l k i e.
      let z = same_pair (m % 28 / 7 + 1) (m % 28 % 7 + 1) (n % 28 / 7 + 1) (n % 28 % 7 + 1) e in
      let x = (bite_in b m k.can).rest in
      let y = (bite_in b n i.can).rest in
      let p = z.0 in
      let q = z.1 in
      omega (arith, x, y, p, q);
}

pub shown : IsShown chomp_rules chomp_text chomp_move
shown = texts_are_shown chomp board_text (λ t m. step_text m) numbered readable
