-- What reading a number says of positions.
use Rattle.gm_toys.proofs.Lower.{◌≡◌, ◌↔◌, ℕ, Some, refl, sym, arith, decimal, at, same_position}
use Rattle.std.proofs.Common.{◌≤◌, List, Option, true, subst, ap, ◌∙◌}
use Rattle.gm_game.specs.declared.position.Position.{Position}
use Rattle.gm_game.specs.Rules.{Rules}
use Rattle.gm_toys.specs.Subtraction.{subtraction}
use Rattle.gm_toys.specs.laws.SubtractionLaws.{legal_in, legal_from}

-- the number up to the last with this text has been read
abbrev pub IsReadTo : ℕ → List ℕ → Option ℕ → Type 0
IsReadTo last text read = (n : ℕ) → (read ≡ Some n) ↔ ((n ≤ last) × (decimal n ≡ text))

-- it is that of the position with this text, if each number up to the last is that of one legal position
pub position_read : (r : Rules) (f : Position → ℕ) (at_number : ℕ → Position) (last : ℕ) (text : List ℕ) (read : Option ℕ) (i : ℕ) → IsReadTo last text read
    → read ≡ Some i → ((k : ℕ) → k ≤ last → (r.is_legal (at_number k) ≡ true) × (f (at_number k) ≡ k))
    → ((p : Position) → r.is_legal p ≡ true → (f p ≤ last) × (at_number (f p) ≡ p))
    → (p : Position) → (Some (at_number i) ≡ Some p) ↔ ((r.is_legal p ≡ true) × (decimal (f p) ≡ text))
position_read r f at_number last text read i exact is into from p =
    let (le, same) = (exact i).0 is in
    let (legal, own) = into i le in (
      λ e. (let s : at_number i ≡ p = cc in subst (λ (q : Position). (r.is_legal q ≡ true) × (decimal (f q) ≡ text)) s (legal, ap decimal own ∙ same)),
      λ (l, t). (let (within, back) = from p l in
          let k : read ≡ Some (f p) = (exact (f p)).1 (within, t) in
          let e : i ≡ f p = cc in
          ap Some (ap at_number e ∙ back)),
    )

-- in a subtraction game, that of its one tier
pub number_read : (name : List ℕ) (most n last : ℕ) (text : List ℕ) (read : Option ℕ) (i : ℕ) → last ≡ n → IsReadTo last text read → read ≡ Some i
    → (p : Position) → (Some (at 0 i) ≡ Some p) ↔ (((subtraction name most n).is_legal p ≡ true) × (decimal p.index ≡ text))
number_read name most n last text read i same exact is =
    position_read (subtraction name most n) (λ p. p.index) (at 0) last text read i exact is
    (λ k l. (legal_from name most n 0 k refl (omega arith), refl))
    (λ q l. let (t, le) = legal_in name most n q l in (omega arith, same_position (at 0 q.index) q (sym t) refl))
