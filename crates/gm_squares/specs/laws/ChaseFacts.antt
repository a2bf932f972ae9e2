-- Legal boards; a man that goes keeps a board legal, and can go back.
use Rattle.std.specs.Prelude.{◌≡◌, ◌≢◌, ◌^◌, ◌<◌, ◌&&◌}
use Rattle.gm_pieces.specs.Common.{ℕ, Bool, true, false, not, eqb, eqb-true, eq-eqb, ltb-true, lt-ltb, refl, sym, ap, ap₂, ◌∙◌, arith, not-true, true≢false, ne_eqb, and_left, and_right, and_both, count_ones, has_cell, bit_at}
use Rattle.std.proofs.lemmas.Nat.Bits.{bit_at-lt}
use Rattle.gm_board.specs.laws.MaskChanges.{no_bit}
use Rattle.gm_board.specs.laws.NextCells.{cell_one, cell_none}
use Rattle.gm_squares.specs.declared.chase.Chase.{Chase}
use Rattle.gm_squares.specs.FoxHounds.{legal, can_go, gone, toggled}
use Rattle.gm_squares.specs.laws.MaskFacts.{toggled_here, toggled_other, toggled_within, toggled_twice, taken, added}

-- ---- legal boards
pub record IsLegal (b : Chase) : Type 0 where
  pub within : b.hounds < 2 ^ 32
  pub four : count_ones b.hounds ≡ 4
  pub fox : b.fox < 32
  pub apart : has_cell b.hounds b.fox ≡ false

pub legal_in : (b : Chase) → legal b ≡ true → IsLegal b
unfolding legal
legal_in b l =
    let r = and_right _ _ l in
    let s = and_right _ _ r in
    record { within = ltb-true _ _ (and_left _ _ l); four = eqb-true _ _ (and_left _ _ r); fox = ltb-true _ _ (and_left _ _ s); apart = not-true _ (and_right _ _ s) }

pub legal_from : (b : Chase) → IsLegal b → legal b ≡ true
unfolding legal
legal_from b h = and_both _ _ (lt-ltb _ _ h.within) (and_both _ _ (eq-eqb _ _ h.four) (and_both _ _ (lt-ltb _ _ h.fox) (ap not h.apart)))

pub fox_below : (b : Chase) → legal b ≡ true → b.fox < 32
fox_below b l = (legal_in b l).fox

pub same_chase : (b d : Chase) → b.hounds_move ≡ d.hounds_move → b.hounds ≡ d.hounds → b.fox ≡ d.fox → b ≡ d
same_chase b d e f g =
    ap (λ (t : Bool). the_chase t b.hounds b.fox) e ∙ ap₂ (λ (h k : ℕ). the_chase d.hounds_move h k) f g
  where
    the_chase : Bool → ℕ → ℕ → Chase
    the_chase t h f = record { hounds_move = t; hounds = h; fox = f }

-- ---- a man goes
pub not_not : (t : Bool) → not (not t) ≡ t
not_not true = refl
not_not false = refl

-- the board that a man leaves by going from a to c is legal, and there it can go back
pub record IsGone (t : Bool) (b : Chase) (a c : ℕ) : Type 0 where
  pub legal : IsLegal (gone t b a c)
  pub can : can_go t (gone t b a c) c a ≡ true
  pub back : gone t (gone t b a c) c a ≡ b

pub goes : (t : Bool) (b : Chase) (a c : ℕ) → IsLegal b → a < 32 → c < 32 → can_go t b a c ≡ true → IsGone t b a c
unfolding can_go
goes true b a c h la lc e =
    let x = b.hounds in
    let y = toggled x a in
    let free = and_right (has_cell x a) (not (has_cell x c) && not (eqb c b.fox)) e in
    let has : bit_at x a ≡ 1 = eqb-true (bit_at x a) 1 (and_left (has_cell x a) (not (has_cell x c) && not (eqb c b.fox)) e) in
    let off : bit_at x c ≡ 0 = no_bit (bit_at x c) (bit_at-lt x c) (not-true (has_cell x c) (and_left (not (has_cell x c)) (not (eqb c b.fox)) free)) in
    let fox : bit_at x b.fox ≡ 0 = no_bit (bit_at x b.fox) (bit_at-lt x b.fox) h.apart in
    let ca : c ≢ a = (λ q. let z = ap (bit_at x) q in omega (arith, z, has, off)) in
    let fa : b.fox ≢ a = (λ q. let z = ap (bit_at x) q in omega (arith, z, has, fox)) in
    let fc : b.fox ≢ c = (λ q. true≢false (sym (eq-eqb c b.fox (sym q)) ∙ not-true (eqb c b.fox) (and_right (not (has_cell x c)) (not (eqb c b.fox)) free))) in
    let within = toggled_within x a h.within la in
    let still = toggled_other x a c ca ∙ off in
    record {
      legal = record {
        within = toggled_within y c within lc;
        four = (let n = taken x a h.within la has in let k = added y c within lc still in let f = h.four in omega (arith, n, k, f));
        fox = h.fox;
        apart = cell_none (toggled y c) b.fox (toggled_other y c b.fox fc ∙ toggled_other x a b.fox fa ∙ fox);
      };
      can = and_both _ _ (cell_one (toggled y c) c (let n = toggled_here y c in omega (arith, n, still)))
          (and_both _ _ (ap not (cell_none (toggled y c) a (toggled_other y c a (λ q. ca (sym q)) ∙ (let n = toggled_here x a in omega (arith, n, has)))))
          (ap not (ne_eqb a b.fox (λ q. fa (sym q)))));
      back = same_chase (gone true (gone true b a c) c a) b (not_not b.hounds_move) (ap (λ (v : ℕ). toggled v a) (toggled_twice y c) ∙ toggled_twice x a) refl;
    }
goes false b a c h la lc e =
    let free = and_right _ _ e in
    let here : a ≡ b.fox = eqb-true _ _ (and_left _ _ e) in
    record {
      legal = record { within = h.within; four = h.four; fox = lc; apart = not-true _ (and_left _ _ free) };
      can = and_both _ _ (eq-eqb c c refl) (and_both _ _ (ap not (ap (has_cell b.hounds) here ∙ h.apart))
          (ap not (ne_eqb a c (λ q. true≢false (sym (eq-eqb c b.fox (sym q ∙ here)) ∙ not-true _ (and_right _ _ free))))));
      back = same_chase (gone false (gone false b a c) c a) b (not_not b.hounds_move) refl here;
    }
