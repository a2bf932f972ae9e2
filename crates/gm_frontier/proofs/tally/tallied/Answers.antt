use Rattle.gm_frontier.proofs.Lower.{◌+◌, sym, ap, ◌∙◌, arith, List, get_or, sum_by, take_all, TallyData, IsTally}
use Rattle.gm_frontier.proofs.PieceLemmas.{all_more, all_taken}
use Rattle.gm_frontier.proofs.SumLemmas.{sum_more}
use Rattle.gm_frontier.proofs.TalliedLemmas.{tile_of, so_far, finished, none_into, none_first, first_in, none_tallied}
use Rattle.gm_frontier.proofs.tally.tallied.Goals as goal

pub returns-then-hi-lo : goal.returns-then-hi-lo
returns-then-hi-lo g c = sym (none_into g.G.Game.rules c.args.level.now.place.tier c.args.lo c.args.hi c.if-hi-lo.true c.args.level.now.notes)

pub returns-in_default : goal.returns-in_default
returns-in_default g c =
    sym (none_tallied g.G.Game.rules g.met.G.Game.lawful c.args.level.now c.place-place.ensures.level c.place-place.ensures.small c.args.lo c.args.hi
    c.args.tallies.now c.requires (none_first c.args.tallies.now c.in_default.ensures.value))

pub overflow_add-number : goal.overflow_add-number
overflow_add-number g c =
    let tallies = c.args.tallies.now in
    let i = c.loop-tally.tally-index in
    let t = c.tally-item.result in
    let k = c.tile_of-tile.result in
    let l = c.args.level.now in
    let (start, end, inside) = tile_of g.G.Game.rules g.met.G.Game.lawful l c.place-place.ensures.level c.place-place.ensures.small c.args.lo c.args.hi tallies
    c.requires c.if-hi-lo.false c.in-Some.first.now (first_in tallies c.in-Some.first.now c.in-Some.ensures.value)
    k c.tile_of-tile.ensures.value c.tile_of-tile.ensures.some in
    let are = all_more (IsTally g.G.Game.rules) tallies i t t c.loop-tally-test.true c.tally-item.is c.loop-tally.invariant.are c.count-number.ensures.tally in
    let fits = so_far g.G.Game.rules g.met.G.Game.lawful l c.place-place.ensures.level c.place-place.ensures.small c.args.lo c.args.hi tallies c.requires k
    inside (i + 1) are in
    let more = sum_more (λ (x : TallyData). get_or x.counts k 0) tallies i t t c.loop-tally-test.true c.tally-item.is in
    let sum = c.loop-tally.invariant.sum in
    let value = c.count-number.ensures.value in
    omega arith

pub loop-tally-preserved : goal.loop-tally-preserved
loop-tally-preserved g c =
    let tallies = c.args.tallies.now in
    let i = c.loop-tally.tally-index in
    let t = c.tally-item.result in
    let k = c.tile_of-tile.result in
    record {
      sum = (let more = sum_more (λ (x : TallyData). get_or x.counts k 0) tallies i t t c.loop-tally-test.true c.tally-item.is in
          let sum = c.loop-tally.invariant.sum in
          let value = c.count-number.ensures.value in
          omega arith);
      are = all_more (IsTally g.G.Game.rules) tallies i t t c.loop-tally-test.true c.tally-item.is c.loop-tally.invariant.are c.count-number.ensures.tally;
    }

pub returns : goal.returns
returns g c =
    let tallies = c.args.tallies.now in
    let i = c.loop-tally.tally-index in
    let k = c.tile_of-tile.result in
    let l = c.args.level.now in
    let (start, end, inside) = tile_of g.G.Game.rules g.met.G.Game.lawful l c.place-place.ensures.level c.place-place.ensures.small c.args.lo c.args.hi tallies
    c.requires c.if-hi-lo.false c.in-Some.first.now (first_in tallies c.in-Some.first.now c.in-Some.ensures.value)
    k c.tile_of-tile.ensures.value c.tile_of-tile.ensures.some in
    c.loop-tally.invariant.sum ∙ ap (λ (ts : List TallyData). sum_by (λ (x : TallyData). get_or x.counts k 0) ts) (take_all i tallies c.loop-tally-test.false)
    ∙ finished g.G.Game.rules g.met.G.Game.lawful l c.place-place.ensures.level c.place-place.ensures.small c.args.lo c.args.hi tallies c.requires k inside
    (all_taken (IsTally g.G.Game.rules) tallies i c.loop-tally-test.false c.loop-tally.invariant.are) start end
