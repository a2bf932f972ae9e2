use Rattle.gamesman.proofs.Lower.{◌≡◌, ℕ, Some, arith, inl, inr, subst}
use Rattle.std.specs.List.{slice_get}
use Rattle.std.proofs.lemmas.Option.{slice_get_within}
use Rattle.gamesman.proofs.Sheeted.{below}
use Rattle.gamesman.proofs.list.place_among.Goals as goal

pub loop-k-init : goal.loop-k-init
loop-k-init c j less there = absurd (omega (arith, less))

pub loop-k-preserved : goal.loop-k-preserved
loop-k-preserved c j less there = elim (below j c.loop-k.k less) [
  | inl early ↦ c.loop-k.invariant j early there
  | inr one ↦ c.is_at.ensures.other c.if-is_at.false (subst (λ (n : ℕ). slice_get c.args.games.now n ≡ Some c.args.game) one there)
]

pub returns-clause-new : goal.returns-clause-new
returns-clause-new c is j there =
    let games = c.args.games.now in
    c.loop-k.invariant j (omega (arith, c.loop-k-test.false, c.loop-k.auto.k-end, slice_get_within games j c.args.game there)) there
