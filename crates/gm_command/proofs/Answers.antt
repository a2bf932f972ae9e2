-- From clap's answer to the request that words make.
use Rattle.std.proofs.Common.{◌≡◌, ◌∙◌, ℕ, true, sym, ap, subst, ◌⊎◌, List, [], Some, None, Result, Err, IfOk, inl, inr}
use Rattle.std.proofs.lemmas.Result.{IfOk-weaker}
use Rattle.clap.specs.Words.{App, FailsBy, HasMatchesOf, IsAmong, fault_of, is_simple, is_simple_and_free, subcommand_of, subcommand_rows_of}
use Rattle.clap.specs.declared.error.Error.{Error}
use Rattle.clap.specs.declared.error.kind.ErrorKind.{ErrorKind}
use Rattle.clap.specs.declared.error.kind.ErrorKind.TheVariants as error
use Rattle.clap.specs.declared.parser.matches.ArgMatches.{ArgMatches}
use Rattle.gm_command.specs.Lines.{command_lines}
use Rattle.gm_command.specs.Parsers.{command_line}
use Rattle.gm_command.specs.declared.reading.ReadError.{ReadError}
use Rattle.gm_command.specs.declared.reading.ReadError.TheVariants.{BadLine, OutOfMemory}
use Rattle.gm_command.specs.declared.requests.Reading.{Reading}
use Rattle.gm_command.specs.Readings.{IsOutcome, IsReadingOf, content_in, faults_in, why_not}
use Rattle.gm_command.proofs.Simple.{app_simple, app_simple_and_free}

pub answered : (words : List (List ℕ)) (app : App) (r : Result ArgMatches Error) → app ≡ command_line → IfOk r (HasMatchesOf app words)
    → (is_simple_and_free app ≡ true → FailsBy (fault_of app words) r) → IsOutcome words r
answered words app r told matches fails = record {
  fails = subst (λ (a : App). is_simple_and_free a ≡ true → FailsBy (fault_of a words) r) told fails (app_simple_and_free command_lines);
  finds = subst (λ (a : App). IfOk r (λ m. subcommand_rows_of m ≡ subcommand_of a words)) told
      (IfOk-weaker r (HasMatchesOf app words) _ (λ m h. (h (ap is_simple told ∙ app_simple command_lines)).1) matches);
}

-- a fault for which there is no request
pub fault_read : (words : List (List ℕ)) (r : Result Reading ReadError) (kind : ErrorKind) (why : ReadError) → r ≡ Err why → why_not kind ≡ Some why
    → (kind ≡ error.OutOfMemory) ⊎ IsAmong kind (faults_in words) → IsReadingOf words r
fault_read words r kind BadLine is reason fault = subst (IsReadingOf words) (sym is) (elim fault [
  | inl memory ↦ absurd (other (sym reason ∙ ap why_not memory))
  | inr here ↦ inr (record { kind = kind; among = here; why_is = reason })
])
  where
    other : Some BadLine ≡ Some OutOfMemory → ⊥
    other e = cc
fault_read words r kind OutOfMemory is reason fault = subst (IsReadingOf words) (sym is) tt

-- a line without a request
pub none_read : (words : List (List ℕ)) (r : Result Reading ReadError) (why : ReadError) → r ≡ Err why → BadLine ≡ why
    → faults_in words ≡ [] → content_in words ≡ None → IsReadingOf words r
none_read words r why is bad faultless none =
    subst (IsReadingOf words) (sym (is ∙ ap (λ (e : ReadError). Err e) (sym bad))) (inl (record { faultless = faultless; content_is = none }))
