use Rattle.gm_tiers.proofs.Lower.{◌≡◌, ◌<◌, ◌≤◌, ◌-◌, ◌∙◌, Ok, length, arith, ⊎_elim, ap, sym, cases_lt, TIERS, goes_through}
use Rattle.std.proofs.Common.{true≢false}
use Rattle.gm_tiers.proofs.StepLemmas.{passed_on}
use Rattle.gm_tiers.proofs.AnswerLemmas.{place_more, place_ends, past_all}
use Rattle.gm_tiers.proofs.search.search.Goals as goal

pub returns-in-None : goal.returns-in-None
returns-in-None g c =
    let keys = c.loop-next.found.keys in
    let all : length keys ≤ c.loop-next.next = ⊎_elim (λ (h : c.loop-next.next < length keys). absurd (true≢false (sym (c.in-None.ensures.found.1 h))))
    (λ (h : length keys ≤ c.loop-next.next). h) (cases_lt c.loop-next.next (length keys)) in
    c.loop-next.invariant ∙ past_all g.G.Game.rules keys (TIERS - c.loop-next.next) c.loop-next.next all

pub loop-next-preserved : goal.loop-next-preserved
loop-next-preserved g c = place_more g.G.Game.rules c.args.first TIERS c.loop-next.next c.in-Some.tier.now c.loop-next.found.keys
    c.find_children.new.found.keys (omega arith) c.loop-next.invariant (sym c.in-Some.ensures.key) c.in_ok-find_children-in-Some.ensures

pub returns-in_err-find_children-in-Some : goal.returns-in_err-find_children-in-Some
returns-in_err-find_children-in-Some g c = passed_on c.from_residual-in_err-find_children-in-Some.result c.find_children.result
    c.in_err-find_children-in-Some.field-0.0 _ _ _ _ c.from_residual-in_err-find_children-in-Some.ensures.1 c.in_err-find_children-in-Some.was
    c.find_children.ensures
    (place_ends g.G.Game.rules c.args.first TIERS c.loop-next.next c.in-Some.tier.now c.loop-next.found.keys c.in_err-find_children-in-Some.field-0.0
    (omega arith) c.loop-next.invariant (sym c.in-Some.ensures.key))

pub returns : goal.returns
returns g c =
    let none : TIERS - c.loop-next.next ≡ 0 = omega arith in
    c.loop-next.invariant ∙ ap (λ n. goes_through g.G.Game.rules n c.loop-next.next (Ok c.loop-next.found.keys)) none
