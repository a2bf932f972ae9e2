use Rattle.gm_toys.proofs.Lower.{◌≡◌, ◌↔◌, ℕ, Some, sym, arith, decimal, range_in}
use Rattle.std.proofs.Common.{◌<◌, ◌∙◌, List, Option, ap, min}
use Rattle.std.specs.List.{Contains}
use Rattle.gm_toys.specs.Subtraction.{moves_down}
use Rattle.gm_toys.specs.laws.SubtractionLaws.{range_from}
use Rattle.gm_toys.proofs.Reading.{IsReadTo}
use Rattle.gm_toys.proofs.subtraction.read_step.Goals as goal

-- the move with a text is the number with that text, if this is not 0
step_read : (text : List ℕ) (read : Option ℕ) (last most i m : ℕ) → IsReadTo last text read → last ≡ min i most
    → (Contains (moves_down most i) m × (decimal m ≡ text)) ↔ ((read ≡ Some m) × (0 < m))
step_read text read last most i m exact e = (
  λ (k, s). (let (low, high) = range_in 1 (min most i) m k in ((exact m).1 (omega arith, s), omega arith)),
  λ (is, some). (let (le, same) = (exact m).0 is in (range_from 1 (min most i) m (omega arith) (omega arith), same)),
)

pub overflow_cast-result : goal.overflow_cast-result
overflow_cast-result c =
    let (le, same) = (c.read_number.ensures c.in-Some.taken).0 c.in-Some.is in
    let most = c.from.ensures in
    let last = c.min.ensures in omega arith

pub returns-in-Some : goal.returns-in-Some
returns-in-Some c m =
    let h = step_read _ _ _ _ _ m c.read_number.ensures (c.min.ensures ∙ ap (min c.args.index) c.from.ensures) in
    let is = c.in-Some.is in
    let some = c.if-taken-gt0.true in (λ e. h.1 (is ∙ e, (let same : c.in-Some.taken ≡ m = cc in omega arith)), λ k. sym is ∙ (h.0 k).0)

pub returns-in_default : goal.returns-in_default
returns-in_default c m =
    let h = step_read _ _ _ _ _ m c.read_number.ensures (c.min.ensures ∙ ap (min c.args.index) c.from.ensures) in
    let is = c.in-Some.is in
    let none = c.if-taken-gt0.false in (
      λ e. absurd (cc),
      λ k. (let (read, some) = h.0 k in let same : c.in-Some.taken ≡ m = cc in absurd (omega arith)),
    )

pub returns-in_default-2 : goal.returns-in_default-2
returns-in_default-2 c m =
    let h = step_read _ _ _ _ _ m c.read_number.ensures (c.min.ensures ∙ ap (min c.args.index) c.from.ensures) in
    let none = c.in_default.is in (λ e. absurd (cc), λ k. (let (read, some) = h.0 k in absurd (cc)))
