use Rattle.gm_find.proofs.Lower.{ap, ◌∙◌, found_row}
use Rattle.std.specs.List.{flat_map}
use Rattle.std.proofs.lemmas.Result.{IfOk-weaker}
use Rattle.gm_find.proofs.rows.find_text.Goals as goal

pub returns : goal.returns
returns g c =
    IfOk-weaker c.found_rows.result _ _ (λ v h. (
      c.in_ok-found.found.items,
      c.in_ok-found.ensures.chosen,
      h ∙ ap
          (flat_map (found_row g.G.Shown.shown g.G.Shown.move_shown)) c.as_slice.ensures.value,
    )) c.found_rows.ensures
