use Rattle.gm_backward.proofs.Lower.{ℕ, ◌++◌, List, [], ◌∷◌, sym, ap, ◌∙◌, NoteData, piece_of}
use Rattle.std.proofs.Common.{append_assoc}
use Rattle.gm_backward.proofs.SplitLemmas.{next_fits}
use Rattle.gm_backward.proofs.pieces.split.Goals as goal

pub loop-note-preserved : goal.loop-note-preserved
loop-note-preserved g c =
    let r = g.G.Game.rules in
    let p = c.args.job.now in
    let tier = p.level.now.place.tier in
    let (done, e, split) = c.loop-note.invariant in
    let x : NoteData × ℕ = (c.in-Some.note, c.in-Some.parent) in
    let rest = c.next.new.self in
    let all = sym (ap (λ (ps : List (NoteData × ℕ)). done ++ ps) c.in-Some.ensures.steps) ∙ e in (
      done ++ x ∷ [],
      append_assoc done (x ∷ []) rest ∙ all,
      c.in_ok-put.ensures (r.tier_size tier) done p.cuts_are.ascending
          (next_fits r tier (piece_of c.args.piece p.notes p.level.now.notes) done rest x all) split,
    )
