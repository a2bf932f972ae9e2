use Rattle.std.proofs.Common.{sym, subst, map, take, ◌+◌, List, []}
use Rattle.std.specs.List.{AllZip}
use Rattle.clap.specs.declared.builder.arg.Arg.{Arg}
use Rattle.gm_command.specs.declared.words.ArgKind.TheVariants.{Word}
use Rattle.gm_command.specs.Lines.{word_of}
use Rattle.gm_command.specs.Parsers.{IsArgFor}
use Rattle.gm_command.proofs.Zips.{zip_more}
use Rattle.gm_command.proofs.commands.add_words.Goals as goal

pub loop-word-preserved : goal.loop-word-preserved
loop-word-preserved c = λ off.
    let words = c.args.words.now in
    let i = c.loop-word.word-index in
    subst (λ (all : List Arg). AllZip IsArgFor (map word_of (take (i + 1) words)) all) (sym c.in_ok-push.ensures.items)
    (zip_more IsArgFor word_of words i (record { name = record { ref_ptr = (0, 0); now = [] }; kind = Word; help = record { ref_ptr = (0, 0); now = [] } })
    c.loop-word.all.items c.in_ok-arg_of.field-0 c.loop-word-test.true (c.loop-word.invariant off) (c.in_ok-arg_of.ensures off))
