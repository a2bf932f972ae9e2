use Rattle.gm_engine.proofs.Lower.{rules, ◌≡◌, ◌≤◌, ◌++◌, ◌+◌, take, drop, length, slice_index_or, subst, sym, arith, IsTrueTier, AreTrueTiers, room}
use Rattle.gm_engine.proofs.Trueness.{one_more_at, cut_more, first_of, none_left}
use Rattle.gm_engine.proofs.Ordering.{have_more, disordered}
use Rattle.gm_engine.proofs.Refused.{unchecked}
use Rattle.gm_engine.proofs.engine.check_tiers.Goals as goal

pub loop-tier-preserved : goal.loop-tier-preserved
loop-tier-preserved g c =
    let r = g.G.Game.rules in
    let ts = c.args.tiers.now in
    let k = c.loop-tier.tier-index in
    let rest = c.loop-tier.rest.now in
    let (closed, have, (known, true_, is), later) = c.loop-tier.invariant in
    let back : c.split_at.result.1.now ≡ drop (room r c.args.width (slice_index_or ts k 0)) rest = search rules in (
      c.in_ok-check_tier.ensures.closed,
      have_more c.loop-tier.tables c.check_tier.new.tables ts k c.loop-tier-test.true have c.in_ok-check_tier.ensures.held,
      (
        known ++ c.split_at.result.0.now,
        one_more_at r c.args.width ts k known c.split_at.result.0.now c.loop-tier-test.true true_ c.in_ok-check_tier.ensures.known,
        cut_more c.args.records.now known rest c.split_at.result.0.now c.split_at.result.1.now _ is c.split_at.ensures.front c.split_at.ensures.back,
      ),
      λ all. subst (AreTrueTiers r c.args.width (drop (k + 1) ts)) (sym back) (first_of r c.args.width ts k rest c.loop-tier-test.true (later all)).1,
    )

pub returns-in_err-check_tier-clause-refused : goal.returns-in_err-check_tier-clause-refused
returns-in_err-check_tier-clause-refused g c =
    let r = g.G.Game.rules in
    let ts = c.args.tiers.now in
    let k = c.loop-tier.tier-index in
    let rest = c.loop-tier.rest.now in
    let (closed, have, known, later) = c.loop-tier.invariant in
    let front : c.split_at.result.0.now ≡ take (room r c.args.width (slice_index_or ts k 0)) rest = search rules in
    let is : AreTrueTiers r c.args.width ts c.args.records.now → IsTrueTier r c.args.width (slice_index_or ts k 0) c.split_at.result.0.now =
    λ all. subst (IsTrueTier r c.args.width (slice_index_or ts k 0)) (sym front) (first_of r c.args.width ts k rest c.loop-tier-test.true (later all)).0 in
    let order = disordered r c.loop-tier.tables ts k c.loop-tier-test.true have in
    let why = unchecked r c.args.width ts c.args.records.now c.loop-tier.tables (slice_index_or ts k 0) c.split_at.result.0.now is order c.in_err-check_tier.field-0.0
    c.in_err-check_tier.ensures.refused in
    search rules

pub returns-clause-refused : goal.returns-clause-refused
returns-clause-refused g c all =
    let (closed, have, known, later) = c.loop-tier.invariant in
    let test = c.loop-tier-test.false in
    let past : length c.args.tiers.now ≤ c.loop-tier.tier-index = omega arith in
    let empty = none_left g.G.Game.rules c.args.width c.args.tiers.now c.loop-tier.tier-index c.loop-tier.rest.now past (later all) in
    let none : ⊥ = search rules in
    none
