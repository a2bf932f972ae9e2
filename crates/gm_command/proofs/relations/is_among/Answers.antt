use Rattle.std.proofs.Common.{◌∙◌, List, ℕ, rules, tests}
use Rattle.std.specs.Borrow.{Bor}
use Rattle.std.specs.Str.{bytes_eq}
use Rattle.std.proofs.lemmas.Iterator.{YieldsList-from_slice}
use Rattle.std.proofs.lemmas.Iterator.Search.{any_from_yields_List}
use Rattle.gm_command.proofs.Bools.{any_map}
use Rattle.gm_command.proofs.relations.is_among.Goals as goal

pub returns : goal.returns
returns c =
    any_from_yields_List (λ (t : Bor (List ℕ)). bytes_eq t.now c.args.name.now) _ _ c.any.result c.any.ensures.ran (YieldsList-from_slice c.args.names.now cc)
    (λ x b q k. search (rules, tests))
    ∙ any_map (λ (t : List ℕ). bytes_eq t c.args.name.now) (λ t. t.now) c.args.names.now
