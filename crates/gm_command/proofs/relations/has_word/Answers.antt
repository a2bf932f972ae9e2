use Rattle.std.proofs.Common.{◌∙◌, rules, tests}
use Rattle.std.specs.Str.{bytes_eq}
use Rattle.std.proofs.lemmas.Iterator.{YieldsList-from_slice}
use Rattle.std.proofs.lemmas.Iterator.Search.{any_from_yields_List}
use Rattle.gm_command.specs.declared.words.ArgSpec.{ArgSpec}
use Rattle.gm_command.specs.Lines.{Word, word_of}
use Rattle.gm_command.proofs.Bools.{any_map}
use Rattle.gm_command.proofs.relations.has_word.Goals as goal

pub returns : goal.returns
returns c =
    any_from_yields_List (λ (w : ArgSpec). bytes_eq w.name.now c.args.name.now) _ _ c.any.result c.any.ensures.ran (YieldsList-from_slice c.args.words.now cc)
    (λ x b q k. search (rules, tests))
    ∙ any_map (λ (w : Word). bytes_eq w.name c.args.name.now) word_of c.args.words.now
