use Rattle.gm_solver.proofs.Lower.{◌≡◌, sym, arith, pairs_in, IsWhole}
use Rattle.gm_shard.proofs.CloseLemmas.{closes_reached}
use Rattle.gm_locks.proofs.RoundLemmas.{of_level, round_all}
use Rattle.gm_solver.proofs.DeskLemmas.{round_whole}
use Rattle.gm_solver.proofs.pass.PassDesk.into_whole.Given.{Over}
use Rattle.gm_solver.proofs.pass.PassDesk.into_whole.Goals.{After-number-exact}
use Rattle.gm_solver.proofs.pass.PassDesk.into_whole.Goals as goal

-- the shard has as many pairs as the count, and so it is whole
whole : (g : Over) (c : After-number-exact g) → (c.args.expected.now.number ≡ pairs_in c.shard.inside.shard) × IsWhole g.G.Game.rules c.shard.inside.shard
whole g c =
    let count = c.shard.invariant.2.count in
    let all = c.audit.ensures.whole c.pass.invariant.0 in
    let amount = c.pass.view_is in
    let full = c.requires.full in
    let same : c.args.expected.now.number ≡ pairs_in c.shard.inside.shard = omega arith in (
      same,
      round_whole g.G.Game.rules g.met.G.Game.lawful g.L.ShardLedger.spot c.shard.inside.shard c.shard.invariant.0 c.range-good.ensures.good
          c.args.expected.now c.number-exact.ensures.exact c.requires.is_for same,
    )

pub returns : goal.returns
returns g c =
    let (same, is) = whole g (goal.at.returns g c).After-number-exact in
    let notes = g.L.LevelLedger.notes in
    let inv = c.shard.invariant in
    let here = of_level g.G.Game.rules g.met.G.Game.lawful g.L.ShardLedger.spot notes inv.1 in
    let all = round_all g.G.Game.rules g.met.G.Game.lawful g.L.ShardLedger.spot notes here g.L.LevelLedger.base c.shard.inside.shard
    c.shard.inside.book.total inv.0 is inv.2 in
    let audited = c.audit.ensures.whole c.pass.invariant.0 in
    let amount = c.pass.view_is in
    record {
      spot = inv.0;
      number = sym same;
      whole = is;
      closes = λ t answer h. closes_reached g.G.Game.rules c.args.expected.now c.shard.inside.shard t answer h (omega arith);
      all = omega arith;
    }
