use Rattle.gamesman.proofs.Lower.{ℕ, suc, List, take, drop, get_or, refl, sym, subst, ◌∙◌, take_more, take_all, Contains-get_or, err_from_is_err_and}
use Rattle.gm_tierdb.specs.StoreTexts.{store_view}
use Rattle.gamesman.proofs.Checks.{IsToldTo, state_before, cut_before, told_none, told_next, told_all, cut_at, split_at}
use Rattle.gamesman.proofs.check.check_tiers.Goals as goal

pub loop-tier-init : goal.loop-tier-init
loop-tier-init g c = record {
  told = told_none g.G.Game.rules (store_view g.S.Store.READS (g.S.Store.texts c.args.store.now)) c.args.json (g.O.Write.contents c.args.output.now) c.args.tables.now
      c.requires.none;
  same = λ reads t. refl;
  count = refl;
}

pub print_state-requires-clause-small : goal.print_state-requires-clause-small
print_state-requires-clause-small g c = λ κs lives.
    let tiers = c.args.tiers.now in
    let k = c.loop-tier.tier-index in
    c.requires.small (get_or tiers k 0) (Contains-get_or tiers k 0 c.loop-tier-test.true)

pub loop-tier-preserved : goal.loop-tier-preserved
loop-tier-preserved g c =
    let r = g.G.Game.rules in
    let tiers = c.args.tiers.now in
    let k = c.loop-tier.tier-index in
    let start = g.O.Write.contents c.args.output.now in
    let old = g.O.Write.contents c.loop-tier.output in
    let new = g.O.Write.contents c.print_state.new.output in
    let e = c.in_ok-state.ensures in
    let b = g.S.Store.READS in
    let texts = g.S.Store.texts c.args.store.now in
    let i = c.loop-tier.invariant in
    let found = state_before r c.loop-tier.tables b texts (g.S.Store.texts c.loop-tier.store) (get_or tiers k 0) c.in_ok-state.state i.same e.found in
    record {
      told = subst (λ (ts : List ℕ). IsToldTo r (store_view b texts) c.args.json ts start new c.print_state.new.tables c.status_after-status.result)
          (sym (take_more tiers k 0 c.loop-tier-test.true))
          (rw c.status_after-status.ensures (told_next r (store_view b texts) c.args.json c.loop-tier.tables (take k tiers) (get_or tiers k 0) c.loop-tier.status start old new
          c.print_state.ensures.tables i.told c.print_state.new.tables c.in_ok-state.state found e.told e.held));
      same = λ reads t. c.print_state.ensures.same reads t ∙ i.same reads t;
      count = e.count ∙ i.count;
    }

pub returns-in_err-state : goal.returns-in_err-state
returns-in_err-state g c =
    let r = g.G.Game.rules in
    let tiers = c.args.tiers.now in
    let k = c.loop-tier.tier-index in
    let start = g.O.Write.contents c.args.output.now in
    let old = g.O.Write.contents c.loop-tier.output in
    let new = g.O.Write.contents c.print_state.new.output in
    let q = err_from_is_err_and c.from_residual.result c.from_residual.ensures.1 in
    let b = g.S.Store.READS in
    let texts = g.S.Store.texts c.args.store.now in
    let i = c.loop-tier.invariant in
    let cut = cut_before r c.loop-tier.tables c.args.json b texts (g.S.Store.texts c.loop-tier.store) (get_or tiers k 0) old new c.in_err-state.field-0.0 i.same
    c.in_err-state.ensures.cut in
    rw (q.1, q.2) (cut_at r (store_view b texts) c.args.json c.loop-tier.tables (take k tiers) (get_or tiers k 0) c.loop-tier.status start old new
    c.print_state.ensures.tables i.told tiers (drop (suc k) tiers) c.in_err-state.field-0.0 (split_at tiers k c.loop-tier-test.true) cut)

pub returns : goal.returns
returns g c =
    let r = g.G.Game.rules in
    let tiers = c.args.tiers.now in
    let start = g.O.Write.contents c.args.output.now in
    let end = g.O.Write.contents c.loop-tier.output in
    let store = store_view g.S.Store.READS (g.S.Store.texts c.args.store.now) in
    told_all r store c.args.json tiers start end c.loop-tier.tables c.loop-tier.status
    (subst (λ (ts : List ℕ). IsToldTo r store c.args.json ts start end c.loop-tier.tables c.loop-tier.status) (take_all c.loop-tier.tier-index tiers c.loop-tier-test.false)
    c.loop-tier.invariant.told)
