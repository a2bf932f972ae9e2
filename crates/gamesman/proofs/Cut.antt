-- The output of an answer after a fault.
use Rattle.gamesman.proofs.Lower.{◌≡◌, ℕ, Bool, true, false, List, Option, None, Some, Result, Ok, Err, refl, sym, ap, subst, ◌∙◌, Keeps, Position, Rules, AppendsPart, Fault, NoSuchGame, NoSuchPosition, NoSuchPositionInLine, NoSuchGameInLine, NoSuchTier, NoSuchIndex, NotLegal, NotCanonical, NotBuilt, AnotherGames, InputFailed, OutputFailed, OutputClosed, TooMuchInput, EngineNotRead, NotAnEngine, IsCutOff, IsUnbuilt}
use Rattle.std.proofs.Common.{IfSome, IfErr}
use Rattle.std.specs.Borrow.{Bor}
use Rattle.gm_play.specs.PlayTexts.{IsReadAs}
use Rattle.gamesman.specs.Outputs.{IsOutputFault}
use Rattle.gamesman.specs.Answers.{IsAnsweredBy, IsLocatedText, IsUnlocatedFor, IsLocatedBy}
use Rattle.std.specs.Result.{IsErrAnd}
use Rattle.gm_build.specs.declared.build_error.BuildError.{BuildError}
use Rattle.gm_build.specs.Outcomes.{IsBuildError}
use Rattle.gamesman.specs.Refusals.{reason_of, IsRefused}
use Rattle.gm_build.specs.declared.build_error.BuildError.TheVariants.{OutOfMemory, TooFar, StoreFailed, TooManyTiers, TierTooLarge}
use Rattle.gamesman.specs.declared.fault.Fault.TheVariants.{OutOfMemory as NoMemory}

-- an error that is passed on keeps its properties
pub passed : {T E : Type 0} → (m : Result T E) (Q : E → Type 0) (e : E) → IsErrAnd m (λ y. y ≡ e) → Q e → IfErr m Q
passed (Ok x) Q e h q = tt
passed (Err y) Q e h q = subst Q (sym h) q

-- the reason for a build's error
pub reason_unbuilt : (r : Rules) (first : ℕ) (error : BuildError) (met : Bool) → IsBuildError r first error → IsUnbuilt r first (reason_of error met)
reason_unbuilt r first OutOfMemory met is = is
reason_unbuilt r first (TooFar tier) met is = is
reason_unbuilt r first (StoreFailed tier) true is = is
reason_unbuilt r first (StoreFailed tier) false is = is
reason_unbuilt r first TooManyTiers met is = is
reason_unbuilt r first (TierTooLarge tier) met is = is

pub kept : (o : Option (List ℕ)) → Keeps o o
kept None = tt
kept (Some xs) = refl

-- a property of each fault of a write
each_output : (Q : Fault → Type 0) → Q OutputFailed → Q OutputClosed → (fault : Fault) → IsOutputFault fault → Q fault
each_output Q failed closed OutputFailed out = failed
each_output Q failed closed OutputClosed out = closed
each_output Q failed closed NoSuchGame out = absurd out
each_output Q failed closed NoSuchPosition out = absurd out
each_output Q failed closed (NoSuchPositionInLine line) out = absurd out
each_output Q failed closed (NoSuchGameInLine line) out = absurd out
each_output Q failed closed (NoSuchTier tier) out = absurd out
each_output Q failed closed (NoSuchIndex tier index) out = absurd out
each_output Q failed closed (NotLegal tier index) out = absurd out
each_output Q failed closed (NotCanonical tier index) out = absurd out
each_output Q failed closed (NoMemory error) out = absurd out
each_output Q failed closed (NotBuilt error) out = absurd out
each_output Q failed closed (AnotherGames tier) out = absurd out
each_output Q failed closed InputFailed out = absurd out
each_output Q failed closed TooMuchInput out = absurd out
each_output Q failed closed EngineNotRead out = absurd out
each_output Q failed closed NotAnEngine out = absurd out

-- nothing is written before a fault that no write has
pub kept_cut : (IsText : List ℕ → Type 0) (o : Option (List ℕ)) (P : Fault → Type 0) → (P OutputFailed → ⊥) → (P OutputClosed → ⊥) → (fault : Fault) → P fault
    → IsCutOff IsText o o fault
kept_cut IsText o P failed closed OutputFailed is = absurd (failed is)
kept_cut IsText o P failed closed OutputClosed is = absurd (closed is)
kept_cut IsText o P failed closed NoSuchGame is = kept o
kept_cut IsText o P failed closed NoSuchPosition is = kept o
kept_cut IsText o P failed closed (NoSuchPositionInLine line) is = kept o
kept_cut IsText o P failed closed (NoSuchGameInLine line) is = kept o
kept_cut IsText o P failed closed (NoSuchTier tier) is = kept o
kept_cut IsText o P failed closed (NoSuchIndex tier index) is = kept o
kept_cut IsText o P failed closed (NotLegal tier index) is = kept o
kept_cut IsText o P failed closed (NotCanonical tier index) is = kept o
kept_cut IsText o P failed closed (NoMemory error) is = kept o
kept_cut IsText o P failed closed (NotBuilt error) is = kept o
kept_cut IsText o P failed closed (AnotherGames tier) is = kept o
kept_cut IsText o P failed closed InputFailed is = kept o
kept_cut IsText o P failed closed TooMuchInput is = kept o
kept_cut IsText o P failed closed EngineNotRead is = kept o
kept_cut IsText o P failed closed NotAnEngine is = kept o

-- a write failed
pub cut_off : (IsText : List ℕ → Type 0) (before after : Option (List ℕ)) (fault : Fault) (text : List ℕ) → IsOutputFault fault → IsText text → AppendsPart
    before after text → IsCutOff IsText before after fault
cut_off IsText before after fault text out is part = each_output (IsCutOff IsText before after) (text, is, part) (text, is, part) fault out

-- nothing is built, so nothing is written
pub unbuilt_cut : (IsText : List ℕ → Type 0) (o : Option (List ℕ)) (r : Rules) (first : ℕ) (fault : Fault) → IsUnbuilt r first fault → IsCutOff IsText o o fault
unbuilt_cut IsText o r first fault is = kept_cut IsText o (IsUnbuilt r first) (λ n. n) (λ n. n) fault is

module _ (r : Rules) (shown : Position → List ℕ) (move_shown : Position → ℕ → List ℕ) (text : List ℕ) where
  pub write_refused : (fault : Fault) → IsOutputFault fault → IsRefused r shown move_shown text fault
  write_refused fault out = each_output (IsRefused r shown move_shown text) tt tt fault out

  pub unbuilt_refused : (p : Position) → IsReadAs r shown move_shown text p → (fault : Fault) → IsUnbuilt r p.tier fault → IsRefused r shown move_shown text
      fault
  unbuilt_refused p read OutputFailed is = absurd is
  unbuilt_refused p read OutputClosed is = absurd is
  unbuilt_refused p read NoSuchGame is = absurd is
  unbuilt_refused p read NoSuchPosition is = absurd is
  unbuilt_refused p read (NoSuchPositionInLine line) is = absurd is
  unbuilt_refused p read (NoSuchGameInLine line) is = absurd is
  unbuilt_refused p read (NoSuchTier tier) is = absurd is
  unbuilt_refused p read (NoSuchIndex tier index) is = absurd is
  unbuilt_refused p read (NotLegal tier index) is = absurd is
  unbuilt_refused p read (NotCanonical tier index) is = absurd is
  unbuilt_refused p read (NoMemory error) is = (p, read, is)
  unbuilt_refused p read (NotBuilt error) is = (p, read, is)
  unbuilt_refused p read (AnotherGames tier) is = (p, read, is)
  unbuilt_refused p read InputFailed is = absurd is
  unbuilt_refused p read TooMuchInput is = absurd is
  unbuilt_refused p read EngineNotRead is = absurd is
  unbuilt_refused p read NotAnEngine is = absurd is

module _ (r : Rules) (shown : Position → List ℕ) (move_shown : Position → ℕ → List ℕ) (text : List ℕ) (IsText : List ℕ → Type 0) (p : Position)
    (read : IsReadAs r shown move_shown text p) (fault : Fault) where
  -- the tables for an answer are not built
  pub unbuilt_answer : (o : Option (List ℕ)) → IsUnbuilt r p.tier fault → IsAnsweredBy r shown move_shown text IsText o o (Err fault)
  unbuilt_answer o is = record {
    written = unbuilt_cut IsText o r p.tier fault is;
    refused = unbuilt_refused r shown move_shown text p read fault is;
    unread = λ none. absurd (none p read);
  }

  -- the write of an answer failed
  pub unwritten_answer : (before after : Option (List ℕ)) (out : List ℕ) → IsOutputFault fault → IsText out → AppendsPart before after out → IsAnsweredBy r
      shown move_shown text IsText before after (Err fault)
  unwritten_answer before after out failed is part = record {
    written = cut_off IsText before after fault out failed is part;
    refused = write_refused r shown move_shown text fault failed;
    unread = λ none. absurd (none p read);
  }

module _ (r : Rules) (shown : Position → List ℕ) (text : List ℕ) (json : Bool) where
  -- the write of a position's tier and index failed
  pub unlocated_answer : (fault : Fault) (before after : Option (List ℕ)) (out : List ℕ) → IsOutputFault fault → IsLocatedText r shown text json out → AppendsPart
      before after out
      → IsLocatedBy r shown text json before after (Err fault)
  unlocated_answer fault before after out failed is part = record {
    written = cut_off (IsLocatedText r shown text json) before after fault out failed is part;
    refused = each_output (IsUnlocatedFor r shown text) tt tt fault failed;
    unread = λ none. absurd (none is.0.position is.1.legal is.1.reads);
  }

-- the text of the question is the position's: the start's if none is given
pub asked_text : (r : Rules) (shown : Position → List ℕ) (move_shown : Position → ℕ → List ℕ) (p : Position) (o : Option (Bor (List ℕ)))
    → (o ≡ None → p ≡ r.initial) → IfSome o (λ text. IsReadAs r shown move_shown text.now p) → shown p ≡ elim o
    [ None ↦ shown r.initial | Some text ↦ text.now ]
asked_text r shown move_shown p None at_start read = ap shown (at_start refl)
asked_text r shown move_shown p (Some text) at_start read = read.1

-- two values of one successful result are equal
pub one_answer : {E : Type 0} → (m : Result Position E) (p q : Position) → m ≡ Ok p → m ≡ Ok q → p ≡ q
one_answer m p q e f = ap (λ (x : Result Position _). elim x [ Ok y ↦ y | Err z ↦ p ]) (sym e ∙ f)
