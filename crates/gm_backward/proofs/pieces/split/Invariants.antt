use Rattle.gm_backward.proofs.Lower.{◌≡◌, ℕ, ◌++◌, List, NoteData, pairs_of, piece_of}
use Rattle.gm_backward.specs.inner.Split.{AreSplit}
use Rattle.gm_backward.proofs.pieces.split.Given as goal

-- the pairs that the walk has passed are in the lists
abbrev pub invariant-loop-note : goal.invariant-loop-note
invariant-loop-note g l =
    (done : List (NoteData × ℕ))
    × (done ++ l.note-iterator ≡ pairs_of g.G.Game.rules l.job.level.now.place.tier 0 (g.G.Game.rules.tier_size l.job.level.now.place.tier)
    (piece_of l.piece l.job.notes l.job.level.now.notes))
    × AreSplit (g.G.Game.rules.tier_size l.job.level.now.place.tier) l.job.cuts done l.lists
