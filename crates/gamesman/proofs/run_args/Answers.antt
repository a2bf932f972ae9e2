use Rattle.std.proofs.Common.{◌∙◌, ap, subst, map, string_bytes, List, ℕ, Bor}
use Rattle.gamesman.specs.LineRuns.{command_words, IsOutputOf}
use Rattle.gamesman.proofs.Lower.{AppendsPart}
use Rattle.gamesman.proofs.Said.{unsaid}
use Rattle.gamesman.proofs.run_args.Goals as goal

pub returns-clause-run : goal.returns-clause-run
returns-clause-run g c =
    let input = g.I.Read.remaining c.args.input.now in
    let before = g.O.Write.contents c.args.output.now in
    let after = g.O.Write.contents c.run_words-status.new.output in
    let is_said = AppendsPart (g.E.Write.contents c.args.errors.now) (g.E.Write.contents c.run_words-status.new.errors) in
    let is_words = ap (map (λ (t : Bor (List ℕ)). t.now)) c.as_slice-2.ensures.value ∙ c.take_explain-requested.ensures
    ∙ ap command_words (c.in_ok-words.ensures ∙ ap (map string_bytes) (c.as_slice.ensures.value ∙ c.in_ok-owned.ensures)) in
    let run = unsaid is_said _ input before after c.run_words-status.result c.run_words-status.ensures in
    subst (λ (words : List (List ℕ)). IsOutputOf words input before after c.run_words-status.result) is_words run
