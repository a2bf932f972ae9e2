use Rattle.std.proofs.Common.{◌∙◌, rules, tests}
use Rattle.std.proofs.lemmas.Iterator.{YieldsList-from_slice}
use Rattle.std.proofs.lemmas.Iterator.Search.{all_from_yields_List}
use Rattle.gm_command.specs.declared.words.ArgSpec.{ArgSpec}
use Rattle.gm_command.specs.Given.{rows_in}
use Rattle.gm_command.specs.Lines.{Word, word_of}
use Rattle.gm_command.specs.Reading.{is_plain_word}
use Rattle.gm_command.proofs.Bools.{all_map}
use Rattle.gm_command.proofs.numbers.are_plain.Goals as goal

pub returns : goal.returns
returns c =
    let rows = rows_in c.args.inner.now in
    all_from_yields_List (λ (w : ArgSpec). is_plain_word rows (word_of w).name (word_of w).kind) _ _ c.all.result c.all.ensures.ran
    (YieldsList-from_slice c.args.words.now cc) (λ x b q k. search (rules, tests))
    ∙ all_map (λ (w : Word). is_plain_word rows w.name w.kind) word_of c.args.words.now
