use Rattle.gm_frontier.proofs.Lower.{◌≡◌, List, length, get_or, ap, sym, ◌∙◌, arith, NoteData}
use Rattle.std.proofs.lemmas.List.Folds.{length-flat_map-take}
use Rattle.gm_frontier.proofs.part.note_count.Goals as goal

pub overflow_add-count : goal.overflow_add-count
overflow_add-count g c =
    let parts = c.args.parts.now in
    let item = c.part-item.result in
    let fits = length-flat_map-take (λ (part : List NoteData). part) parts c.loop-part.part-index item c.loop-part-test.true in
    let same : length (get_or parts c.loop-part.part-index item) ≡ c.len-count.result = sym (c.len-count.ensures ∙ ap length c.part-item.is) in
    let bound = c.requires in
    omega arith
