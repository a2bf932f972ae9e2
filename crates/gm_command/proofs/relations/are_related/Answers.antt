use Rattle.std.proofs.Common.{◌∙◌, map, rules, tests}
use Rattle.std.proofs.lemmas.Iterator.{YieldsList-from_slice}
use Rattle.std.proofs.lemmas.Iterator.Search.{all_from_yields_List}
use Rattle.gm_command.specs.declared.words.ArgSpec.{ArgSpec}
use Rattle.gm_command.specs.Given.{rows_in}
use Rattle.gm_command.specs.Lines.{word_of}
use Rattle.gm_command.specs.Relations.{goes_with}
use Rattle.gm_command.proofs.Bools.{all_map}
use Rattle.gm_command.proofs.relations.are_related.Goals as goal

pub returns : goal.returns
returns c =
    all_from_yields_List (λ (w : ArgSpec). goes_with (rows_in c.args.inner.now) (map word_of c.args.words.now) (word_of w)) _ _ c.all.result c.all.ensures.ran
    (YieldsList-from_slice c.args.words.now cc) (λ x b q k. search (rules, tests))
    ∙ all_map (goes_with (rows_in c.args.inner.now) (map word_of c.args.words.now)) word_of c.args.words.now
