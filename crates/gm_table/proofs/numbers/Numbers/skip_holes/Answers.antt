use Rattle.gm_table.specs.declared.number.TheConstants.{STEP}
use Rattle.gm_table.proofs.Lower.{◌≡◌, ◌<◌, List, ℕ, slice_get, IfSome, map, sym, ap, ◌∙◌, subst, wide}
use Rattle.gm_table.specs.Numbers.{listed}
use Rattle.gm_table.proofs.HoleLemmas.{wide_holes}
use Rattle.gm_table.proofs.numbers.Numbers.skip_holes.Goals as goal

pub returns-in-Short-clause-holes : goal.returns-in-Short-clause-holes
returns-in-Short-clause-holes c k low high =
    let is : map wide c.as_slice.result.now ≡ c.args.self.now = ap (map wide) c.as_slice.ensures.value ∙ ap listed (sym c.in-Short.is) ∙ c.self.view_is in
    subst (λ (numbers : List ℕ). IfSome (slice_get numbers k) (λ number. number < STEP)) is
    (wide_holes c.as_slice.result.now k (c.next_record.ensures.holes k low high))
