use Rattle.gm_frontier.proofs.Lower.{◌≡◌, ℕ, length, refl, arith, div_ceil}
use Rattle.gm_frontier.specs.inner.Tallies.{AreAllTallies}
use Rattle.gm_frontier.proofs.AllTallies.{none_first, one_more, all_first, all_count}
use Rattle.gm_frontier.proofs.level.Level.tallies.Goals as goal

pub loop-piece-init : goal.loop-piece-init
loop-piece-init g c = none_first c.args.self.now c.args.n c.args.width 0 c.new-tallies.result.items refl c.new-tallies.ensures.items

pub loop-piece-preserved : goal.loop-piece-preserved
loop-piece-preserved g c =
    one_more g.G.Game.rules c.args.self.now c.args.n c.args.width c.loop-piece.piece c.loop-piece.tallies.items c.push.new.self.items c.in_ok-tally.field-0
    c.loop-piece.invariant c.in_ok-tally.ensures c.in_ok-push.ensures.items

pub returns-clause-all : goal.returns-clause-all
returns-clause-all g c =
    let whole : c.loop-piece.piece ≡ div_ceil (length c.args.self.now.notes) c.args.n =
    (let end = c.loop-piece-test.false in let count = c.pieces-piece-end.ensures.count in omega arith) in
    all_first c.args.self.now c.args.n c.args.width c.loop-piece.piece c.loop-piece.tallies.items whole c.loop-piece.invariant

pub returns-clause-tiles : goal.returns-clause-tiles
returns-clause-tiles g c lo hi tile =
    let whole : c.loop-piece.piece ≡ div_ceil (length c.args.self.now.notes) c.args.n =
    (let end = c.loop-piece-test.false in let count = c.pieces-piece-end.ensures.count in omega arith) in
    let all = all_first c.args.self.now c.args.n c.args.width c.loop-piece.piece c.loop-piece.tallies.items whole c.loop-piece.invariant in
    all_count g.G.Game.rules c.args.self.now c.args.n c.args.width lo hi c.loop-piece.tallies.items c.requires.piece_size all tile
