use Rattle.gm_counters.proofs.Lower.{◌≡◌, ◌+◌, ◌-◌, ◌++◌, [], ◌∷◌, ℕ, List, Option, None, length, replicate, ap, subst, ◌∙◌, arith, length-replicate, Solved, Hole, ShardState, StatusIs, AreFinal}
use Rattle.std.proofs.lemmas.List.{append_assoc}
use Rattle.gm_counters.specs.inner.Closing.{record_of_status}
use Rattle.std.proofs.Common.{length-append}
use Rattle.gm_counters.proofs.FinishLemmas.{final_append, final_holes, final_one}
use Rattle.gm_counters.proofs.ordered.OrderedShard.push_next.Goals as goal

pub returns-clause-ok : goal.returns-clause-ok
returns-clause-ok g c =
    let r = g.G.Game.rules in
    let s = c.args.self.now in
    let next = c.skip_holes-next in
    let low = next.ensures.low in
    let high = next.ensures.high in
    let hi = c.range-lo.ensures.hi in
    let apart = c.if-next-hi.false in
    let (status, known, number) = c.final_number.ensures in
    let count = next.result - c.args.index in
    let holes : List (Option Solved) = replicate count None in
    let one : List (Option Solved) = record_of_status status ∷ [] in
    let many : length holes ≡ count = length-replicate count None in
    let long : length (holes ++ one) ≡ length holes + 1 = length-append holes one in
    let place : next.result ≡ c.args.index + length holes = omega arith in (
      holes ++ one,
      c.in_ok-push_number.ensures.ok ∙ ap (λ (o : Option Solved). c.push_none.new.self ++ o ∷ []) number
          ∙ ap (λ (l : List (Option Solved)). l ++ one) c.in_ok-push_none.ensures.ok ∙ append_assoc c.args.records.now holes one,
      omega arith,
      final_append r s c.args.index holes one (final_holes r s c.args.index count
          (λ i a b. subst (λ (u : ShardState). StatusIs r u i Hole) c.self.view_is (next.ensures.holes i a (omega arith))))
          (subst (λ (i : ℕ). AreFinal r s i one) place (final_one r s next.result status known)),
    )
