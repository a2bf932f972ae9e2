use Rattle.gamesman.proofs.Lower.{◌+◌, get_or, inr, take_more, take_all, Contains-get_or, err_from_is_err_and, game_spec, first_of, IsUnsearched}
use Rattle.gamesman.proofs.Telling.{memory_unbuilt}
use Rattle.gamesman.proofs.Finds.{so_far_none, next_told, end_told, full_told, failed_told}
use Rattle.gamesman.proofs.found.Search.write_by_tier.Goals as goal

pub loop-tier-init : goal.loop-tier-init
loop-tier-init g c =
    let spec = game_spec g.G.Game.rules g.G.Shown.shown g.G.Shown.move_shown g.G.Pictured.picture in
    so_far_none spec c.args.self.now.asked c.args.form c.args.limit c.requires.lines c.requires.first _

pub write_tier-requires : goal.write_tier-requires
write_tier-requires g c = Contains-get_or c.args.self.now.known.tiers.now c.loop-tier.tier-index 0 c.loop-tier-test.true

pub returns-in_err-many : goal.returns-in_err-many
returns-in_err-many g c =
    let spec = game_spec g.G.Game.rules g.G.Shown.shown g.G.Shown.move_shown g.G.Pictured.picture in
    let r = g.G.Game.rules in
    let asked = c.args.self.now.asked in
    let tiers = c.args.self.now.known.tiers.now in
    let k = c.loop-tier.tier-index in
    let q = err_from_is_err_and c.from_residual.result c.from_residual.ensures.1 in
    rw (q.1, q.2) (failed_told spec asked c.args.form c.args.limit c.requires.lines c.requires.first (IsUnsearched r asked.tier) tiers c.requires.tiers _ _ k (get_or tiers k 0)
    c.loop-tier.left _ c.loop-tier.invariant
    (take_more tiers k 0 c.loop-tier-test.true) (λ fault is. inr (memory_unbuilt r (first_of r asked.tier) fault is)) c.in_err-many.field-0.0
    c.in_err-many.ensures.told c.in_err-many.ensures.fault)

pub loop-tier-preserved : goal.loop-tier-preserved
loop-tier-preserved g c =
    let spec = game_spec g.G.Game.rules g.G.Shown.shown g.G.Shown.move_shown g.G.Pictured.picture in
    let tiers = c.args.self.now.known.tiers.now in
    let k = c.loop-tier.tier-index in
    let before = g.O.Write.contents c.args.output.now in
    let now = g.O.Write.contents c.loop-tier.output in
    let after = g.O.Write.contents c.write_tier.new.output in
    next_told spec c.args.self.now.asked c.args.form c.args.limit c.requires.lines c.requires.first tiers k (get_or tiers k 0) c.in_ok-many.many c.saturating_sub-left.result c.loop-tier.left
    before now after
    (take_more tiers k 0 c.loop-tier-test.true) c.loop-tier.invariant c.in_ok-many.ensures.told c.saturating_sub-left.ensures

pub returns-then-left-eq0 : goal.returns-then-left-eq0
returns-then-left-eq0 g c =
    let spec = game_spec g.G.Game.rules g.G.Shown.shown g.G.Shown.move_shown g.G.Pictured.picture in
    let asked = c.args.self.now.asked in
    let tiers = c.args.self.now.known.tiers.now in
    let k = c.loop-tier.tier-index in
    let before = g.O.Write.contents c.args.output.now in
    let now = g.O.Write.contents c.loop-tier.output in
    let after = g.O.Write.contents c.write_tier.new.output in
    let left = c.saturating_sub-left.result in
    let more = next_told spec asked c.args.form c.args.limit c.requires.lines c.requires.first tiers k (get_or tiers k 0) c.in_ok-many.many left c.loop-tier.left before now after
    (take_more tiers k 0 c.loop-tier-test.true) c.loop-tier.invariant c.in_ok-many.ensures.told c.saturating_sub-left.ensures in
    full_told spec asked c.args.form c.args.limit c.requires.lines c.requires.first (IsUnsearched g.G.Game.rules asked.tier) tiers c.requires.tiers before after (k + 1) left more
    c.if-left-eq0.true

pub returns : goal.returns
returns g c =
    let spec = game_spec g.G.Game.rules g.G.Shown.shown g.G.Shown.move_shown g.G.Pictured.picture in
    let asked = c.args.self.now.asked in
    let tiers = c.args.self.now.known.tiers.now in
    let k = c.loop-tier.tier-index in
    end_told spec asked c.args.form c.args.limit c.requires.lines c.requires.first (IsUnsearched g.G.Game.rules asked.tier) tiers c.requires.tiers _ _ k c.loop-tier.left
    (take_all k tiers c.loop-tier-test.false) c.loop-tier.invariant
