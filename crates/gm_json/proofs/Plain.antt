-- A service of one game, whose lines are counted from its first one.
use Rattle.gm_json.proofs.Lower.{◌≡◌, ℕ, ◌+◌, false, true, List, [], ◌∷◌, Option, subst, sym, ◌∙◌, ap, arith, inl, inr}
use Rattle.gm_json.specs.declared.ask_error.AskError.{AskError}
use Rattle.gm_json.specs.declared.ask_error.AskError.TheVariants.{OutOfMemory, NotHeld, ReadFailed, WriteFailed, OutputClosed}
use Rattle.gm_json.specs.declared.turn.Stop.{Stop}
use Rattle.gm_json.specs.declared.turn.Stop.TheVariants.{Turn as Turns, Error}
use Rattle.gm_json.specs.Asking.{AreAnswers, IsServed, IsServiceUnread, IsUnanswered, IsServiceUnwritten, IsServiceBroken}
use Rattle.gm_json.specs.Turns.{answers_after}
use Rattle.gm_json.specs.inner.Stops.{IfTurn, IsErrorOf, IsStopped}

module _ (S T : List ℕ → ℕ → List ℕ → Type 0) (f : (line : List ℕ) (n : ℕ) (out : List ℕ) → S line n out → T line n out) where
  answers_too : (n : ℕ) (lines : List (List ℕ)) (text : List ℕ) → AreAnswers S n lines text → AreAnswers T n lines text
  answers_too n [] text none = none
  answers_too n (line ∷ lines) text (out, rest, is, e, more) = (out, rest, f _ n out is, e, answers_too (n + 1) lines rest more)

  module _ (old new before after : Option (List ℕ)) where
    pub served_too : IsServed S old new before after → IsServed T old new before after
    served_too h = record {
      bytes = h.bytes;
      text = h.text;
      reads = h.reads;
      end = h.end;
      answers = answers_too 1 _ h.text h.answers;
      writes = h.writes;
    }

    unread_too : IsServiceUnread S old new before after → IsServiceUnread T old new before after
    unread_too h = record {
      bytes = h.bytes;
      lines = h.lines;
      begun = h.begun;
      text = h.text;
      reads = h.reads;
      parts = h.parts;
      answers = answers_too 1 h.lines h.text h.answers;
      writes = h.writes;
    }

    unanswered_too : IsUnanswered S old new before after → IsUnanswered T old new before after
    unanswered_too h = record {
      bytes = h.bytes;
      lines = h.lines;
      last = h.last;
      ahead = h.ahead;
      text = h.text;
      reads = h.reads;
      few = h.few;
      parts = h.parts;
      answers = answers_too 1 h.lines h.text h.answers;
      writes = h.writes;
    }

    unwritten_too : IsServiceUnwritten S old new before after → IsServiceUnwritten T old new before after
    unwritten_too h = record {
      bytes = h.bytes;
      lines = h.lines;
      begun = h.begun;
      text = h.text;
      parts = h.parts;
      answers = answers_too 1 h.lines h.text h.answers;
      block = h.block;
      ahead = h.ahead;
      few = h.few;
      reads = h.reads;
      later = h.later;
      others = h.others;
      later_parts = h.later_parts;
      one = h.one;
      done = h.done;
      rest = h.rest;
      later_answers = answers_too _ h.later _ h.later_answers;
      writes = h.writes;
    }

    pub broken_too : (e : AskError) → IsServiceBroken S e old new before after → IsServiceBroken T e old new before after
    broken_too OutOfMemory (inl h) = inl h
    broken_too OutOfMemory (inr h) = inr (unanswered_too h)
    broken_too NotHeld h = unanswered_too h
    broken_too ReadFailed h = unread_too h
    broken_too WriteFailed h = unwritten_too h
    broken_too OutputClosed h = unwritten_too h

module _ (Says : List ℕ → ℕ → List ℕ → Type 0) where
  -- no line comes before the first
  pub from_first : (line : List ℕ) (n : ℕ) (out : List ℕ) → answers_after false 0 Says line n out → Says line n out
  from_first line n out is = let same : 0 + n ≡ n = omega arith in subst (λ (k : ℕ). Says line k out) same is

  not_both : false ≡ true → ⊥
  not_both e = let z : ⊥ = cc in z

  -- it stops only by errors
  pub plainly_broken : (s : Stop) (e : AskError) (n : ℕ) (ahead : List ℕ) (old new before after : Option (List ℕ)) → IsErrorOf s e → IfTurn s (false ≡ true)
      → IsStopped (answers_after false 0 Says) 0 s n ahead old new before after → IsServiceBroken Says e old new before after
  plainly_broken (Turns turn) e n ahead old new before after is turns h = absurd (not_both turns)
  plainly_broken (Error x) e n ahead old new before after is turns h =
      broken_too (answers_after false 0 Says) Says from_first old new before after e
      (subst (λ (y : AskError). IsServiceBroken (answers_after false 0 Says) y old new before after) (sym is) h)

-- a table is not held only if that is the error
pub held_error : (s : Stop) (e x : AskError) → IsErrorOf s e → IfTurn s (false ≡ true) → e ≡ x → s ≡ Error x
held_error (Turns turn) e x is turns same = absurd (let z : ⊥ = cc in z)
held_error (Error y) e x is turns same = ap (λ (z : AskError). Error z) (sym is ∙ same)
