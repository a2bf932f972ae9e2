use Rattle.gm_json.proofs.Lower.{ap, ◌∙◌, found_line}
use Rattle.std.specs.List.{flat_map}
use Rattle.std.proofs.lemmas.Result.{IfOk-weaker}
use Rattle.gm_json.proofs.find.find_json.Goals as goal

pub returns : goal.returns
returns g c =
    IfOk-weaker c.found_lines.result _ _ (λ v h. (
      c.in_ok-found.found.items,
      c.in_ok-found.ensures.chosen,
      h ∙ ap
          (flat_map (found_line g.G.Shown.shown g.G.Shown.move_shown)) c.as_slice.ensures.value,
    )) c.found_lines.ensures
