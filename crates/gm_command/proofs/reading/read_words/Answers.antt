use Rattle.std.proofs.Common.{◌≡◌, ◌∙◌, ap, sym, refl, map, Some, Option, Result, Err}
use Rattle.std.specs.Prelude.{ok_or, option_map}
use Rattle.std.proofs.lemmas.Result.{err_from_is_err_and}
use Rattle.clap.specs.Words.{kind_of}
use Rattle.gm_command.specs.declared.reading.ReadError.{ReadError}
use Rattle.gm_command.specs.declared.reading.ReadError.TheVariants.{BadLine}
use Rattle.gm_command.specs.declared.requests.Request.{Request}
use Rattle.gm_command.specs.Contents.{content_of}
use Rattle.gm_command.specs.Reading.{request_of}
use Rattle.gm_command.specs.Readings.{why_not}
use Rattle.gm_command.proofs.Answers.{fault_read, none_read}
use Rattle.gm_command.proofs.reading.read_words.Goals as goal

pub returns-in_err-ok_or-in-Ok : goal.returns-in_err-ok_or-in-Ok
returns-in_err-ok_or-in-Ok c =
    let told = err_from_is_err_and c.from_residual.result c.from_residual.ensures.1 in
    let here = c.in_err-ok_or-in-Ok in
    let none = here.ensures.ok_part in
    let why : ◌≡◌ {A = Result Request ReadError} (Err here.field-0.0) (Err BadLine) = here.ensures.value ∙ ap (λ (o : Option Request). ok_or o BadLine) none in
    let bad : BadLine ≡ told.0 = cc in
    let outcome = c.in-Ok.ensures refl in
    none_read (map (λ t. t.now) c.args.words.now) c.from_residual.result told.0 told.1 bad outcome.fails
    (ap request_of (sym outcome.finds) ∙ sym c.request_of-request.ensures ∙ ap (option_map content_of) none)

pub returns-in_err-help_of-in-Err : goal.returns-in_err-help_of-in-Err
returns-in_err-help_of-in-Err c =
    let told = err_from_is_err_and c.from_residual-in_err-help_of-in-Err.result c.from_residual-in_err-help_of-in-Err.ensures.1 in
    let reason : why_not (kind_of c.in-Err.error) ≡ Some told.0 = c.in_err-help_of-in-Err.ensures ∙ cc in
    fault_read (map (λ t. t.now) c.args.words.now) c.from_residual-in_err-help_of-in-Err.result (kind_of c.in-Err.error) told.0 told.1 reason (c.in-Err.ensures refl).fails

pub returns-in_ok-ok_or-in-Ok : goal.returns-in_ok-ok_or-in-Ok
returns-in_ok-ok_or-in-Ok c = record {
  faultless = (c.in-Ok.ensures refl).fails;
  content_is = ap request_of (sym (c.in-Ok.ensures refl).finds) ∙ sym c.request_of-request.ensures ∙ ap (option_map content_of) c.in_ok-ok_or-in-Ok.ensures.ok_part;
}
