-- Numbers that are tested one by one, as marks; and the marks of a queen's or a rook's moves, which are those of the endings with one.
use Rattle.std.specs.Prelude.{◌≡◌, ◌≢◌, ◌⊎◌, ◌+◌, ◌-◌, ◌*◌, ◌%◌, ◌^◌, ◌<◌, ◌≤◌, ◌&&◌, ◌||◌, ◌++◌, if◌then◌else◌}
use Rattle.std.specs.List.{range_with_len}
use Rattle.std.proofs.lemmas.Bool.{le-ltb}
use Rattle.std.proofs.lemmas.List.Elements.{Contains-append_left, Contains-append_right}
use Rattle.std.proofs.lemmas.Nat.{or_lt, one_shl}
use Rattle.std.proofs.lemmas.Nat.Bits.{bit_at_set_same, bit_at_set_other}
use Rattle.std.proofs.Math.Pow.{pow-lt}
use Rattle.std.specs.Int.{w64}
use Rattle.gm_board.specs.laws.Filters.{filter_few}
use Rattle.gm_pieces.specs.Common.{ℕ, Bool, true, false, not, eqb, eqb-true, eq-eqb, leb, ltb, lt-ltb, nat_tests, [], Option, None, Some, refl, sym, ap, ap₂, ◌∙◌, subst, arith, inl, inr, cases_Bool, cases_eq, cases_lt, and_left, and_right, and_false, or_cases, bit_or, bit_at-zero, has_cell}
use Rattle.gm_pieces.specs.MoveGames.{is_undecided}
use Rattle.gm_pieces.specs.declared.candidates.Run.{Run}
use Rattle.gm_pieces.specs.declared.marks.MarkedRun.{MarkedRun}
use Rattle.gm_pieces.specs.declared.marks.Marks.{Marks}
use Rattle.gm_pieces.specs.inner.Marking.{numbers, marked, AreMarks, leads_here}
use Rattle.gm_pieces.specs.inner.Tried.{one, run_at, number_at, AreCandidates}
use Rattle.gm_pieces.specs.laws.RunFacts.{IsRun, part_marks, join_parts, run_part, run_has, no_marks}
use Rattle.gm_squares.specs.declared.men.Men.{Men}
use Rattle.gm_squares.specs.declared.pawns.WhiteMan.{WhiteMan}
use Rattle.gm_squares.specs.declared.pawns.WhiteMan.TheVariants.{Taken, Queen, Rook}
use Rattle.gm_squares.specs.declared.pawns.PawnBoard.{PawnBoard}
use Rattle.gm_squares.specs.Chess.{ending, man, tier as men_tier, legal as men_legal, can_move as men_can_move, end_by_last_move as men_end, can_have_led_here as men_led, undo as men_undo}
use Rattle.gm_squares.specs.Kpk.{kpk, legal, legal_with, can_move, can_move_with, tier_with, man_at_tier, tier, can_have_led_here, undo, end_with, move_number_bound}
use Rattle.gm_squares.specs.laws.PawnFacts.{same_kind}
use Rattle.gm_squares.specs.laws.PawnAfter.{no_piece}
use Rattle.gm_squares.specs.laws.PawnTried.{bound_most, none_earlier}

-- ---- tests
-- the moves of a board, and those that led to it from one of a tier
abbrev pub passes : Option ℕ → PawnBoard → ℕ → Bool
passes None b m = can_move b m
passes (Some t) d m = leads_here kpk t d m

abbrev pub bound_of : Option ℕ → PawnBoard → ℕ
bound_of None b = move_number_bound (tier b)
bound_of (Some t) b = move_number_bound t

pub bound_small : (t : Option ℕ) (b : PawnBoard) → bound_of t b ≤ 28672
bound_small None b = bound_most (tier b)
bound_small (Some t) b = bound_most t

-- ---- the mask of the places below n whose numbers pass
abbrev pub IsTested : (ℕ → Bool) → Run → ℕ → ℕ → Type 0
IsTested p r n marks = (k : ℕ) → has_cell marks k ≡ (ltb k n && p (run_at r k))

pub tested_start : (p : ℕ → Bool) (r : Run) → IsTested p r 0 0
tested_start p r k = ap (λ (v : ℕ). eqb v 1) (bit_at-zero k) ∙ sym (ap (λ (x : Bool). x && p (run_at r k)) (le-ltb k 0 (omega arith)))

same_out : (x : Bool) (k n : ℕ) → (k ≡ n → x ≡ false) → (ltb k n && x) ≡ (ltb k (n + 1) && x)
same_out x k n h = grind (arith, nat_tests)

same_in : (x : Bool) (k n : ℕ) → k ≢ n → (ltb k n && x) ≡ (ltb k (n + 1) && x)
same_in x k n q = grind (arith, nat_tests)

pub tested_out : (p : ℕ → Bool) (r : Run) (n marks : ℕ) → IsTested p r n marks → p (run_at r n) ≡ false → IsTested p r (n + 1) marks
tested_out p r n marks h e k = h k ∙ same_out (p (run_at r k)) k n (λ q. ap (λ (j : ℕ). p (run_at r j)) q ∙ e)

pub tested_in : (p : ℕ → Bool) (r : Run) (n marks : ℕ) → n < 64 → IsTested p r n marks → p (run_at r n) ≡ true → IsTested p r (n + 1) (bit_or marks (1 * 2 ^ n % 2 ^ 64))
tested_in p r n marks l h e k = elim (cases_eq k n) [
  | inl q ↦ ap (has_cell (bit_or marks (1 * 2 ^ n % 2 ^ 64))) q
      ∙ eq-eqb _ _ (bit_at_set_same w64 marks n l)
      ∙ sym (ap₂ (λ (x y : Bool). x && y) (lt-ltb k (n + 1) (omega (arith, q))) (ap (λ (j : ℕ). p (run_at r j)) q ∙ e))
  | inr q ↦ ap (λ (v : ℕ). eqb v 1) (bit_at_set_other w64 marks n l k q) ∙ h k ∙ same_in (p (run_at r k)) k n q
]

pub tested_within : (n k marks : ℕ) → marks < 2 ^ n → n ≤ 64 → k < n → bit_or marks (1 * 2 ^ k % 2 ^ 64) < 2 ^ n
tested_within n k marks l s h = or_lt n marks (1 * 2 ^ k % 2 ^ 64) l (subst (λ (v : ℕ). v < 2 ^ n) (sym (one_shl k 64 (omega (arith, s, h)))) (pow-lt h))

-- the mask of all places is that of a run
pub is_tested_run : (p : ℕ → Bool) (r : Run) (m : MarkedRun) → m.first ≡ r.first → m.step ≡ r.step → m.marks < 2 ^ r.count → IsTested p r r.count m.marks
    → IsRun m p r.first r.step r.count
is_tested_run p r m e f l h = record {
  is_first = e;
  is_step = f;
  fits = l;
  has = λ k j. h k ∙ ap (λ (x : Bool). x && p (run_at r k)) (lt-ltb k r.count j);
}

-- ---- runs that are tried are marks
module _ (p q : ℕ → Bool) (n : ℕ) (only : (m : ℕ) → p m ≡ true → q m ≡ true) where
  pub one_tested : (r : Run) (c : Marks) (m : MarkedRun) → AreCandidates q n (one r) → 0 < r.step → r.count ≤ 64 → marked c ≡ numbers m
      → IsRun m p r.first r.step r.count → AreMarks p n c
  one_tested r c m s step few is h =
      let at = λ (k : ℕ) (l : k < r.count). (let e : number_at (one r) k ≡ run_at r k = rw (lt-ltb k r.count l) refl in e) in
      part_marks p n (λ m. m) 0 n c (numbers m) is
      (run_part m p r.first r.step r.count n (λ m. m) 0 n h step
      (λ k l. (let b = s.below k (omega (arith, l)) in let e = at k l in (omega (arith, b, e), omega arith, omega (arith, b, e)))))
      (λ v j e.
      let (k, l, f) = s.complete v j (only v e) in
      let b : k < r.count = omega (arith, l) in
      let g = at k b in
      run_has m p r.first r.step r.count v k h b few (omega (arith, f, g)) e)

  pub two_tested : (u v : Run) (c : Marks) (low high : MarkedRun) → AreCandidates q n (record { low = u; high = v }) → 0 < u.step → 0 < v.step → u.count ≤ 64 → v.count ≤ 64
      → 0 < v.count → marked c ≡ numbers low ++ numbers high → IsRun low p u.first u.step u.count → IsRun high p v.first v.step v.count → AreMarks p n c
  two_tested u v c low high s su sv fu fv some is h i =
      let cut = run_at v 0 in
      let at_low = λ (k : ℕ) (l : k < u.count). (let e : number_at (record { low = u; high = v }) k ≡ run_at u k = rw (lt-ltb k u.count l) refl in e) in
      let at_high = λ (k : ℕ) (l : u.count ≤ k). (let e : number_at (record { low = u; high = v }) k ≡ run_at v (k - u.count) = high_at k l in e) in
      let first = at_high u.count (omega arith) in
      let zero_is : run_at v (u.count - u.count) ≡ cut = ap (run_at v) (let z : u.count - u.count ≡ 0 = omega arith in z) in
      let cut_low = λ (k : ℕ) (l : k < u.count). (
      let a = s.ascending k u.count l (omega (arith, some)) in
      let e = at_low k l in
      let g : run_at u k < cut = omega (arith, a, e, first, zero_is) in g) in
      let high_is = λ (k : ℕ) (l : k < v.count). (
      let e = at_high (u.count + k) (omega arith) in
      let f : run_at v (u.count + k - u.count) ≡ run_at v k = ap (run_at v) (let z : u.count + k - u.count ≡ k = omega arith in z) in
      let b = s.below (u.count + k) (omega (arith, l)) in
      let g : run_at v k < n = omega (arith, b, e, f) in g) in
      let top = high_is 0 some in
      part_marks p n (λ m. m) 0 n c (numbers low ++ numbers high) is
      (join_parts p n (λ m. m) 0 cut n (numbers low) (numbers high) (omega arith) (omega (arith, top))
      (run_part low p u.first u.step u.count n (λ m. m) 0 cut h su (λ k l. (let g = cut_low k l in (omega (arith, g, top), omega arith, g))))
      (run_part high p v.first v.step v.count n (λ m. m) cut n i sv (λ k l. (let g = high_is k l in (g, omega arith, g)))))
      (λ m j e.
      let (k, l, f) = s.complete m j (only m e) in
      elim (cases_lt k u.count) [
        | inl b ↦ Contains-append_left (numbers low) (numbers high) m
            (let g = at_low k b in run_has low p u.first u.step u.count m k h b fu (omega (arith, f, g)) e)
        | inr b ↦ Contains-append_right (numbers low) (numbers high) m
            (let g = at_high k b in run_has high p v.first v.step v.count m (k - u.count) i (omega (arith, l, b)) fv (omega (arith, f, g)) e)
      ])
    where
      high_at : (k : ℕ) → u.count ≤ k → number_at (record { low = u; high = v }) k ≡ run_at v (k - u.count)
      high_at k l = let e : ltb k u.count ≡ false = grind (arith, nat_tests, l) in rw e refl

  -- the same for runs that are equal to these
  pub one_made : (r s : Run) (c : Marks) (m : MarkedRun) → s ≡ r → AreCandidates q n (one r) → 0 < r.step → r.count ≤ 64 → marked c ≡ numbers m
      → IsRun m p s.first s.step s.count → AreMarks p n c
  one_made r s c m e t step few is h = one_tested r c m t step few is (subst (λ (r : Run). IsRun m p r.first r.step r.count) e h)

  pub two_made : (u v s t : Run) (c : Marks) (low high : MarkedRun) → s ≡ u → t ≡ v → AreCandidates q n (record { low = u; high = v }) → 0 < u.step → 0 < v.step
      → u.count ≤ 64 → v.count ≤ 64 → 0 < v.count → marked c ≡ numbers low ++ numbers high → IsRun low p s.first s.step s.count
      → IsRun high p t.first t.step t.count → AreMarks p n c
  two_made u v s t c low high e f tried su sv fu fv some is h i =
      two_tested u v c low high tried su sv fu fv some is (subst (λ (r : Run). IsRun low p r.first r.step r.count) e h)
      (subst (λ (r : Run). IsRun high p r.first r.step r.count) f i)

-- numbers that are tried are below the bound
pub one_below : (q : ℕ → Bool) (n : ℕ) (r s : Run) → s ≡ r → AreCandidates q n (one r) → (k : ℕ) → k < s.count → run_at s k < n
one_below q n r s e t =
    subst (λ (s : Run). (k : ℕ) → k < s.count → run_at s k < n) (sym e)
    (λ k l. (let b = t.below k (omega (arith, l)) in let f : number_at (one r) k ≡ run_at r k = rw (lt-ltb k r.count l) refl in omega (arith, b, f)))

pub low_below : (q : ℕ → Bool) (n : ℕ) (u v s : Run) → s ≡ u → AreCandidates q n (record { low = u; high = v }) → (k : ℕ) → k < s.count → run_at s k < n
low_below q n u v s e t =
    subst (λ (s : Run). (k : ℕ) → k < s.count → run_at s k < n) (sym e)
    (λ k l. (
    let b = t.below k (omega (arith, l)) in
    let f : number_at (record { low = u; high = v }) k ≡ run_at u k = rw (lt-ltb k u.count l) refl in
    omega (arith, b, f)))

pub high_below : (q : ℕ → Bool) (n : ℕ) (u v s : Run) → s ≡ v → AreCandidates q n (record { low = u; high = v }) → (k : ℕ) → k < s.count → run_at s k < n
high_below q n u v s e t =
    subst (λ (s : Run). (k : ℕ) → k < s.count → run_at s k < n) (sym e)
    (λ k l. (
    let b = t.below (u.count + k) (omega (arith, l)) in
    let off : ltb (u.count + k) u.count ≡ false = le-ltb (u.count + k) u.count (omega arith) in
    let f : number_at (record { low = u; high = v }) (u.count + k) ≡ run_at v (u.count + k - u.count) = rw off refl in
    let g : run_at v (u.count + k - u.count) ≡ run_at v k = ap (run_at v) (let z : u.count + k - u.count ≡ k = omega arith in z) in
    omega (arith, b, f, g)))

-- a move that led to a board can have led to it
pub led_only : (t : ℕ) (d : PawnBoard) (m : ℕ) → leads_here kpk t d m ≡ true → can_have_led_here t d m ≡ true
led_only t d m e = and_left _ _ e

-- a board of another tier whose man is no pawn that has become another
pub none_led : (t : ℕ) (d : PawnBoard) (c : Marks) → legal d ≡ true → d.men.white_moves ≡ false → t ≢ 5 → tier d ≢ t → marked c ≡ []
    → AreMarks (leads_here kpk t d) (move_number_bound t) c
none_led t d c l w n s is =
    no_marks (leads_here kpk t d) (move_number_bound t) c is
    (λ m j e. (let (k, b, f) = (none_earlier t d l w n s).complete m j (led_only t d m e) in omega (arith, b)))

-- ---- a queen or a rook
-- tests that agree have the same marks
pub same_marks : (p q : ℕ → Bool) (n : ℕ) (c : Marks) → ((m : ℕ) → p m ≡ q m) → AreMarks p n c → AreMarks q n c
same_marks p q n c same h =
    let up = filter_few p q (λ m e. sym (same m) ∙ e) (range_with_len 0 n) in
    let down = filter_few q p (λ m e. same m ∙ e) (range_with_len 0 n) in
    let once = h.once in
    record {
      exact = λ m. (λ i. (let x = (h.exact m).0 i in (x.0, sym (same m) ∙ x.1)), λ x. (h.exact m).1 (x.0, same m ∙ x.1));
      once = omega (arith, once, up, down);
    }

queen_bound : (move_number_bound (tier_with Queen) ≡ 12288) × (move_number_bound (tier_with Rook) ≡ 12288) × (move_number_bound 1 ≡ 12288) × (move_number_bound 2 ≡ 12288)
unfolding move_number_bound tier_with
queen_bound = (refl, refl, refl, refl)

open_with : (k : WhiteMan) (b : Men) (q : Bool) (c : Marks) → ((m : ℕ) → men_can_move q b m ≡ can_move_with k b m) → move_number_bound (tier_with k) ≡ 12288
    → AreMarks (men_can_move q b) 12288 c → AreMarks (can_move_with k b) (move_number_bound (tier_with k)) c
open_with k b q c same n h =
    subst (λ (n : ℕ). AreMarks (can_move_with k b) n c) (sym n) (same_marks (men_can_move q b) (can_move_with k b) 12288 c same h)

queen_can : (b : Men) (m : ℕ) → men_can_move true b m ≡ can_move_with Queen b m
unfolding can_move_with
queen_can b m = refl

rook_can : (b : Men) (m : ℕ) → men_can_move false b m ≡ can_move_with Rook b m
unfolding can_move_with
rook_can b m = refl

pub queen_open : (b : PawnBoard) (c : Marks) → b.kind ≡ Queen → AreMarks (men_can_move true b.men) 12288 c → AreMarks (can_move b) (move_number_bound (tier b)) c
queen_open b c e h =
    subst (λ (k : WhiteMan). AreMarks (can_move_with k b.men) (move_number_bound (tier_with k)) c) (sym e) (open_with Queen b.men true c (queen_can b.men) queen_bound.0 h)

pub rook_open : (b : PawnBoard) (c : Marks) → b.kind ≡ Rook → AreMarks (men_can_move false b.men) 12288 c → AreMarks (can_move b) (move_number_bound (tier b)) c
rook_open b c e h =
    subst (λ (k : WhiteMan). AreMarks (can_move_with k b.men) (move_number_bound (tier_with k)) c) (sym e) (open_with Rook b.men false c (rook_can b.men) queen_bound.1 h)

-- a queen's or rook's board, or that of bare kings, is legal in the ending
legal_as : (q : Bool) (k : WhiteMan) (b : Men) → legal_with k b ≡ true → (k ≡ Taken) ⊎ (k ≡ (if q then Queen else Rook)) → men_legal q b ≡ true
unfolding legal_with
legal_as q k b l o = elim o [
  | inl e ↦ (let h : legal_with Taken b ≡ true = ap (λ (k : WhiteMan). legal_with k b) (sym e) ∙ l in no_piece false q b (and_left _ _ h) (and_right (eqb b.piece 64) _ h))
  | inr e ↦ own q (ap (λ (k : WhiteMan). legal_with k b) (sym e) ∙ l)
]
  where
    own : (q : Bool) → legal_with (if q then Queen else Rook) b ≡ true → men_legal q b ≡ true
    own true h = and_right (not (eqb b.piece 64)) _ h
    own false h = and_right (not (eqb b.piece 64)) _ h

-- ---- moves back
kinds : (q : Bool) → (tier_with (if q then Queen else Rook) ≡ (if q then 1 else 2)) × (man_at_tier (if q then 1 else 2) ≡ (if q then Queen else Rook))
unfolding tier_with man_at_tier
kinds true = (refl, refl)
kinds false = (refl, refl)

-- the tests of a move back
ends : (q : Bool) (x : Men) (m : ℕ)
    → (men_legal q x && (eqb (men_tier x) 1 && (is_undecided (men_end x) && men_can_move q x m)))
    ≡ (legal_with (if q then Queen else Rook) x && (eqb (tier_with (if q then Queen else Rook)) (if q then 1 else 2)
    && (is_undecided (end_with (if q then Queen else Rook)) && can_move_with (if q then Queen else Rook) x m)))
unfolding legal_with tier_with end_with can_move_with men_tier men_end
ends true x m = elim (cases_Bool (eqb x.piece 64)) [ inl e ↦ rw e (and_false (men_legal true x)) | inr e ↦ rw e refl ]
ends false x m = elim (cases_Bool (eqb x.piece 64)) [ inl e ↦ rw e (and_false (men_legal false x)) | inr e ↦ rw e refl ]

not_later : (d : Men) (m : ℕ) → leb 3 (man m) ≡ true → men_led d m ≡ false
unfolding men_led
not_later d m e = elim (cases_Bool d.white_moves) [
  | inl w ↦ rw (w, other (man m) 2 e (omega arith)) refl
  | inr w ↦ rw (w, other (man m) 0 e (omega arith), other (man m) 1 e (omega arith)) refl
]
  where
    other : (k n : ℕ) → leb 3 k ≡ true → n < 3 → eqb k n ≡ false
    other k n e l = grind (arith, nat_tests, e, l)

-- the tests of a move back into the tier of a queen or a rook are those of the ending
led_as : (q : Bool) (d : PawnBoard) (m : ℕ) → (tier d ≡ 0) ⊎ (tier d ≡ (if q then 1 else 2)) → leads_here (ending q) 1 d.men m ≡ leads_here kpk (if q then 1 else 2) d m
unfolding can_have_led_here undo
led_as q d m o = elim (cases_Bool (leb 3 (man m))) [
  | inl e ↦ rw (not_later d.men m e, e, not_five q) refl
  | inr e ↦ rw (e, stays) (
      ap (λ (x : Bool). men_led d.men m && x) (ends q (men_undo d.men m) m)
      ∙ ap (λ (k : WhiteMan). men_led d.men m && (legal_with k (men_undo d.men m) && (eqb (tier_with k) (if q then 1 else 2)
      && (is_undecided (end_with k) && can_move_with k (men_undo d.men m) m)))) (sym ((kinds q).1)))
]
  where
    not_five : (r : Bool) → eqb (if r then 1 else 2) 5 ≡ false
    not_five true = refl
    not_five false = refl

    or_true : (x : Bool) → (x || true) ≡ true
    or_true true = refl
    or_true false = refl

    stays : (eqb (tier d) 0 || eqb (tier d) (if q then 1 else 2)) ≡ true
    stays = elim o [
      | inl z ↦ ap (λ (x : Bool). x || eqb (tier d) (if q then 1 else 2)) (eq-eqb (tier d) 0 z)
      | inr z ↦ ap (λ (x : Bool). eqb (tier d) 0 || x) (eq-eqb (tier d) (if q then 1 else 2) z) ∙ or_true (eqb (tier d) 0)
    ]

-- the bound of the two tiers
bound_as : (q : Bool) → move_number_bound (if q then 1 else 2) ≡ 12288
bound_as true = queen_bound.2
bound_as false = queen_bound.3

pub led_marks : (q : Bool) (d : PawnBoard) (c : Marks) → (tier d ≡ 0) ⊎ (tier d ≡ (if q then 1 else 2)) → AreMarks (leads_here (ending q) 1 d.men) 12288 c
    → AreMarks (leads_here kpk (if q then 1 else 2) d) (move_number_bound (if q then 1 else 2)) c
led_marks q d c o h =
    subst (λ (n : ℕ). AreMarks (leads_here kpk (if q then 1 else 2) d) n c) (sym (bound_as q))
    (same_marks (leads_here (ending q) 1 d.men) (leads_here kpk (if q then 1 else 2) d) 12288 c (λ m. led_as q d m o) h)

-- the kind by the tier
kind_at : (q : Bool) (d : PawnBoard) → (tier d ≡ 0) ⊎ (tier d ≡ (if q then 1 else 2)) → (d.kind ≡ Taken) ⊎ (d.kind ≡ (if q then Queen else Rook))
unfolding tier_with
kind_at q d o = elim o [
  | inl z ↦ inl (same_kind d.kind Taken z)
  | inr z ↦ inr (same_kind d.kind (if q then Queen else Rook) (z ∙ sym (kinds q).0))
]

pub legal_at : (q : Bool) (d : PawnBoard) → legal d ≡ true → (tier d ≡ 0) ⊎ (tier d ≡ (if q then 1 else 2)) → men_legal q d.men ≡ true
legal_at q d l o = legal_as q d.kind d.men l (kind_at q d o)

-- with a queen or a rook, for the open moves
pub queen_legal : (b : PawnBoard) → legal b ≡ true → b.kind ≡ Queen → men_legal true b.men ≡ true
queen_legal b l e = legal_as true b.kind b.men l (inr e)

pub rook_legal : (b : PawnBoard) → legal b ≡ true → b.kind ≡ Rook → men_legal false b.men ≡ true
rook_legal b l e = legal_as false b.kind b.men l (inr e)

-- the man was there before, or it has been taken
pub stayed_in : (d : PawnBoard) (t : ℕ) → (eqb (tier d) 0 || eqb (tier d) t) ≡ true → (tier d ≡ 0) ⊎ (tier d ≡ t)
stayed_in d t e = elim (or_cases (eqb (tier d) 0) (eqb (tier d) t) e) [ inl z ↦ inl (eqb-true (tier d) 0 z) | inr z ↦ inr (eqb-true (tier d) t z) ]
