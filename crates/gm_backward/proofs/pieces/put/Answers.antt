use Rattle.gm_backward.proofs.Lower.{◌≡◌, ◌<◌, ◌++◌, ◌∷◌, [], Some, length, slice_get, refl, sym, ap, ◌∙◌, arith, List, ℕ, slice_get-get_or, NoteData}
use Rattle.gm_backward.proofs.SplitLemmas.{split_more}
use Rattle.gm_backward.proofs.pieces.put.Goals as goal

pub returns : goal.returns
returns g c =
    let j = c.tile_of.result in
    let was = c.index-lists-tile_of.result in
    let few = c.tile_of.ensures.few in
    let inside : j < length c.args.lists.now = omega arith in
    let at : slice_get c.args.lists.now j ≡ Some was =
    slice_get-get_or c.args.lists.now j was inside ∙ ap (λ (v : List (NoteData × ℕ)). Some v) (sym c.index-lists-tile_of.is) in
    λ size pairs up within h. split_more size c.args.cuts.now j c.args.lists.now _ was _ (c.args.note.now, c.args.parent) up
    (c.tile_of.ensures.low size within) (c.tile_of.ensures.high size within) at
    (c.in_ok-push.ensures.ok ∙ ap (λ (v : List (NoteData × ℕ)). v ++ (c.args.note.now, c.args.parent) ∷ []) (sym c.index-lists-tile_of.is))
    refl pairs h
