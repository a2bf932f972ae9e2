use Rattle.gm_locks.proofs.Lower.{ℕ, ◌<◌, sym, subst, ◌∙◌, ap, length, List, NoteData}
use Rattle.std.specs.Int.{div_ceil}
use Rattle.gm_locks.proofs.RoundLemmas.{level_into}
use Rattle.gm_locks.proofs.PieceLemmas.{begun_pieced}
use Rattle.gm_locks.proofs.piece.Pieced.around.Goals as goal

pub invariant_of-pieced : goal.invariant_of-pieced
invariant_of-pieced g c =
    let r = g.G.Game.rules in
    let spot = g.L.ShardLedger.spot in
    let notes = g.L.LevelLedger.notes in
    let ready = c.requires.ready in
    let level = level_into r c.args.level.now spot notes ready.level_at c.place-place.ensures.level in
    let pieces = c.pieces-pieces.ensures.count ∙ ap (λ (ns : List NoteData). div_ceil (length ns) c.args.size) ready.level_at.notes_are
    ∙ ap (div_ceil (length notes)) (sym c.requires.size.0) in
    begun_pieced r g.met.G.Game.lawful spot notes g.L.PieceLedger.size g.L.LevelLedger.base c.pieces-pieces.result
    (record { shard = c.args.shard; counts = c.in_ok-counts.counts.items; whole = c.in_ok-whole.whole.items; book = c.open-book.result.0.total })
    level (subst (λ (n : ℕ). 0 < n) (sym c.requires.size.0) c.requires.size.1) pieces ready.spot ready.none
    (c.in_ok-counts.ensures.items_if_clones_equal (λ y e. e)) (c.in_ok-whole.ensures.items_if_clones_equal (λ y e. e)) ready.number c.open-book.ensures.total
