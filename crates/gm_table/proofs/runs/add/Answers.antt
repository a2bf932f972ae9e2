use Rattle.gm_table.proofs.Lower.{◌≡◌, ◌<◌, ◌==◌, if◌then◌else◌, ℕ, List, [], ◌∷◌, ◌++◌, length, get_or, rules, refl, ap, ◌∙◌}
use Rattle.std.specs.Vec.{with_item}
use Rattle.gm_table.proofs.RunLemmas.{run_push}
use Rattle.gm_table.proofs.runs.add.Goals as goal

pub returns : goal.returns
returns c n =
    let runs = c.grow.new.runs in
    let room : c.args.level < length runs.items = search rules in
    let old : c.index_mut.result.now ≡ get_or runs.items c.args.level c.index_mut.result.now = search rules in
    run_push runs (with_item runs c.args.level c.push.new.self) c.args.level c.index_mut.result.now c.push.new.self c.args.index room old
    c.in_ok-push.ensures.items refl n
    ∙ ap (λ (run : List ℕ). if c.args.level == n then run ++ c.args.index ∷ [] else run) (c.in_ok-grow.ensures.same n)
