use Rattle.gm_immediate.proofs.Lower.{ℕ, ◌+◌, sym, subst, arith, AreThere, IsDeliveryIn}
use Rattle.gm_table.specs.Tables.{value_in}
use Rattle.gm_table.specs.inner.Shorts.{is_decided}
use Rattle.gm_immediate.specs.inner.Gathered.{AreOnce}
use Rattle.gm_immediate.proofs.Deliveries.{deliveries_inner}
use Rattle.gm_immediate.proofs.Values.{gathered_sum, stays, value_true, decides, too_far, number_few}
use Rattle.gm_immediate.proofs.position.settle_inner.Goals as goal

pub returns-in_default-clause-stop : goal.returns-in_default-clause-stop
returns-in_default-clause-stop g c =
    let are = subst (AreOnce g.G.Game.rules c.args.p) (sym c.as_slice.ensures.value) c.list_children.ensures in
    let (q, child, same) = stays g.G.Game.rules g.met.G.Game.lawful c.args.cache.now c.args.p c.as_slice.result.now c.requires.inner.legal c.requires.held
    c.requires.own are.exact c.in_default.ensures.none in
    record { index = c.args.p.index; child = q; is_parent = (c.requires.inner, child); stays = same }

pub returns-in_default-value-clause-stop : goal.returns-in_default-value-clause-stop
returns-in_default-value-clause-stop g c =
    let r = g.G.Game.rules in
    let cs = c.as_slice.result.now in
    let are = subst (AreOnce r c.args.p) (sym c.as_slice.ensures.value) c.list_children.ensures in
    let all = gathered_sum r g.met.G.Game.lawful c.args.cache.now c.sum.ensures.tables c.args.p cs c.in-Some.seen c.in-Some.number c.requires.inner.legal
    are.exact c.in-Some.ensures.sum in
    too_far r g.met.G.Game.lawful c.args.cache.now.tables c.args.p cs c.requires.inner are.exact c.in-Some.seen c.in-Some.number all
    c.in_default-value.ensures.none

pub returns-clause-value : goal.returns-clause-value
returns-clause-value g c =
    let r = g.G.Game.rules in
    let cs = c.as_slice.result.now in
    let are = subst (AreOnce r c.args.p) (sym c.as_slice.ensures.value) c.list_children.ensures in
    let all = gathered_sum r g.met.G.Game.lawful c.args.cache.now c.sum.ensures.tables c.args.p cs c.in-Some.seen c.in-Some.number c.requires.inner.legal
    are.exact c.in-Some.ensures.sum in
    value_true r g.met.G.Game.lawful c.args.cache.now.tables c.args.p cs c.requires.inner are.exact c.in-Some.seen c.in-Some.number all
    c.in-Some-value.solved c.in-Some-value.ensures.value

pub returns-clause-number : goal.returns-clause-number
returns-clause-number g c =
    let r = g.G.Game.rules in
    let cs = c.as_slice.result.now in
    let p = c.args.p in
    let are = subst (AreOnce r p) (sym c.as_slice.ensures.value) c.list_children.ensures in
    let all = gathered_sum r g.met.G.Game.lawful c.args.cache.now c.sum.ensures.tables p cs c.in-Some.seen c.in-Some.number c.requires.inner.legal are.exact
    c.in-Some.ensures.sum in
    subst (λ (n : ℕ). AreThere n (IsDeliveryIn r p.tier p.index (p.index + 1))) (sym all.decided)
    (deliveries_inner r p cs (λ d. is_decided (value_in r c.args.cache.now.tables d)) c.requires.inner are
    (decides r g.met.G.Game.lawful c.args.cache.now.tables p cs c.requires.inner are.exact c.in-Some.seen c.in-Some.number all))

pub returns-clause-few : goal.returns-clause-few
returns-clause-few g c =
    let r = g.G.Game.rules in
    let cs = c.as_slice.result.now in
    let are = subst (AreOnce r c.args.p) (sym c.as_slice.ensures.value) c.list_children.ensures in
    let all = gathered_sum r g.met.G.Game.lawful c.args.cache.now c.sum.ensures.tables c.args.p cs c.in-Some.seen c.in-Some.number c.requires.inner.legal
    are.exact c.in-Some.ensures.sum in
    let a = number_few r c.args.cache.now.tables cs c.in-Some.seen c.in-Some.number all in
    omega (arith, a, c.as_slice.ensures.fits)
