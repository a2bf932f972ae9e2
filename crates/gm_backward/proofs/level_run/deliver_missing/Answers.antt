use Rattle.gm_backward.proofs.Lower.{◌≡◌, List, length, ap, sym, ◌∙◌, arith, NoteData}
use Rattle.std.specs.Int.{div_ceil}
use Rattle.gm_backward.proofs.level_run.deliver_missing.Goals as goal

pub returns-clause-whole : goal.returns-clause-whole
returns-clause-whole g c =
    let pieces : c.pieces-piece-end.result ≡ div_ceil (length g.L.LevelLedger.notes) g.L.PieceLedger.size =
    c.pieces-piece-end.ensures.count ∙ ap (λ (ns : List NoteData). div_ceil (length ns) c.args.job.now.notes) c.requires.level.notes_are
    ∙ ap (div_ceil (length g.L.LevelLedger.notes)) (sym c.requires.size) in
    λ p few. c.loop-piece.invariant.0 p (let end = c.loop-piece-test.false in omega arith)
