use Rattle.std.proofs.Common.{◌∙◌, ap, sym, rules, lit<, Some, None}
use Rattle.std.specs.Prelude.{option_and_then}
use Rattle.std.proofs.lemmas.Str.Pattern.{split_parts}
use Rattle.gm_command.specs.Searching.{with_words, split_at_commas}
use Rattle.gm_command.proofs.Cuts.{split_first, with_last}
use Rattle.gm_command.proofs.searches.with_of.Goals as goal

pub returns-in_err-with : goal.returns-in_err-with
returns-in_err-with c =
    let after = c.in-Some.after.now in
    let parts = split_parts 44 c.loop-word.rest.now (Some (c.in-Some.word, c.in-Some.after)) c.in-Some.ensures.cases (lit< tt) in
    c.from_residual.ensures ∙ sym (c.loop-word.invariant.1 ∙ ap (with_words c.loop-word.«with») (ap split_at_commas parts.0 ∙ split_first c.in-Some.word.now after parts.1)
    ∙ ap (option_and_then (λ more. with_words more (split_at_commas after))) (sym c.in_err-with.ensures))

pub loop-word-preserved : goal.loop-word-preserved
loop-word-preserved c =
    let after = c.in-Some.after.now in
    let parts = split_parts 44 c.loop-word.rest.now (Some (c.in-Some.word, c.in-Some.after)) c.in-Some.ensures.cases (lit< tt) in (
      search rules,
      c.loop-word.invariant.1 ∙ ap (with_words c.loop-word.«with») (ap split_at_commas parts.0 ∙ split_first c.in-Some.word.now after parts.1)
          ∙ ap (option_and_then (λ more. with_words more (split_at_commas after))) (sym c.in_ok-with.ensures),
    )

pub returns : goal.returns
returns c =
    c.with_word-2.ensures ∙ sym (c.loop-word.invariant.1 ∙ with_last c.loop-word.«with» c.loop-word.rest.now
    (split_parts 44 c.loop-word.rest.now None c.in_default.ensures.cases (lit< tt)))
