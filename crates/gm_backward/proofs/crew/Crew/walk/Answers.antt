use Rattle.gm_backward.proofs.Lower.{◌≡◌, ℕ, ◌+◌, ◌<◌, Some, length, slice_get, sym, ap, ◌∙◌, arith, List, slice_get-get_or, NoteData}
use Rattle.std.proofs.Common.{◌%◌}
use Rattle.gm_locks.specs.Spots.{for_shard}
use Rattle.gm_backward.proofs.SplitLemmas.{list_is}
use Rattle.gm_backward.proofs.crew.Crew.walk.Goals as goal

pub deliver-requires-clause-pairs : goal.deliver-requires-clause-pairs
deliver-requires-clause-pairs g c κs bounds =
    let s = c.args.self.now in
    let p = s.job.now in
    let lists = c.split.new.lists in
    let k = (c.args.worker % 4 + c.loop-turn.turn) % 4 in
    let below : k < 4 = omega arith in
    let list = c.index-lists-shard.result in
    let inside : k < length lists = omega arith in
    let at : slice_get lists k ≡ Some list =
    slice_get-get_or lists k list inside ∙ ap (λ (v : List (NoteData × ℕ)). Some v) (sym c.index-lists-shard.is) in
    sym c.index-lists-shard.is
    ∙ list_is g.G.Game.rules p.level.now.place p.cuts p.notes c.args.piece k g.A.PieceLedger.size g.A.LevelLedger.notes p.level.now.notes lists list
    (for_shard k g.A.ShardLedger.spot g.B.ShardLedger.spot g.C.ShardLedger.spot g.D.ShardLedger.spot) p.cuts_are.ascending below c.in_ok-split.ensures at
    (s.tiles_are k below) s.notes_are s.size_is
