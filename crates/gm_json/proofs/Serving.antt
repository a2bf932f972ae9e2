-- A service in its midst.
use Rattle.gm_json.proofs.Lower.{◌≡◌, ℕ, ◌+◌, ◌≤◌, ◌<◌, true, false, List, [], ◌∷◌, ◌++◌, length, take, codes, Option, refl, sym, ap, subst, ◌∙◌, append_assoc, arith, ◌==◌, length-take, length-append, Consumes, GoesOn, Midst, kept_bytes, inl, inr}
use Rattle.std.specs.Io.KnownBytes.{Keeps, Appends, IsAtEnd}
use Rattle.std.proofs.KnownBytes.{Consumes-trans, Consumes-kept, Consumes-nil, Appends-trans, Appends-nil, Appends-kept}
use Rattle.gm_json.specs.declared.ask_error.AskError.{AskError}
use Rattle.gm_json.specs.declared.ask_error.AskError.TheVariants.{OutOfMemory, NotHeld, ReadFailed, WriteFailed, OutputClosed}
use Rattle.gm_play.specs.Sessions.{AppendsPart}
use Rattle.gm_json.specs.Asking.{block_bytes, IsAskOutputError, lines_from, lines_of, AreAnswers, IsServed, IsServiceUnread, IsUnanswered, IsServiceUnwritten, IsServiceBroken, IsOfLine, IsLineDone, IsCut, IsLineBroken}
use Rattle.std.proofs.Common.{append-nil}
use Rattle.gm_json.proofs.Splitting.{lines_more, lines_next, lines_end, lines_none, none_kept, kept_push, kept_full, one_begun}

module _ (Says : List ℕ → ℕ → List ℕ → Type 0) where
  -- the answers to some lines, and to those after them
  pub answers_join : (n : ℕ) (xs ys : List (List ℕ)) (t u : List ℕ) → AreAnswers Says n xs t → AreAnswers Says (n + length xs) ys u → AreAnswers Says n
      (xs ++ ys) (t ++ u)
  answers_join n [] ys t u e h =
      let same : n + 0 ≡ n = omega arith in
      subst (λ (v : List ℕ). AreAnswers Says n ys v) (ap (λ (l : List ℕ). l ++ u) (sym e)) (subst (λ (k : ℕ). AreAnswers Says k ys u) same h)
  answers_join n (x ∷ xs) ys t u (out, rest, is, e, more) h =
      let same : n + length (x ∷ xs) ≡ (n + 1) + length xs = omega arith in (
        out,
        rest ++ u,
        is,
        ap (λ (l : List ℕ). l ++ u) e ∙ append_assoc (out ++ codes "\n") rest u,
        answers_join (n + 1) xs ys rest u more
            (subst (λ (k : ℕ). AreAnswers Says k ys u) same h),
      )

  one_answer : (n : ℕ) (line out : List ℕ) → Says (take kept_bytes line) n out → AreAnswers Says n (line ∷ []) (out ++ codes "\n")
  one_answer n line out is = (out, [], is, sym (append-nil (out ++ codes "\n")), refl)

  pub begins : (r0 w0 : Option (List ℕ)) (number : ℕ) (kept : List ℕ) → number ≡ 1 → kept ≡ [] → GoesOn Says number kept r0 r0 w0 w0
  begins r0 w0 number kept n e = record {
    bytes = [];
    lines = [];
    line = [];
    text = [];
    numbered = n;
    reads = Consumes-nil r0;
    writes = Appends-nil w0;
    keeps = e;
    answers = refl;
    goes = λ more. refl;
  }

  pub opens : (number : ℕ) (kept block pending : List ℕ) (r0 r1 r2 w0 w1 : Option (List ℕ)) → GoesOn Says number kept r0 r1 w0 w1 → pending ≡ [] → length
      block ≤ block_bytes → Consumes r1 r2 block → Midst Says number kept pending block r0 r2 w0 w1
  opens number kept block pending r0 r1 r2 w0 w1 h none short reads = record {
    bytes = h.bytes;
    lines = h.lines;
    begun = h.line;
    text = h.text;
    goes = h.goes;
    answers = h.answers;
    block = [];
    later = [];
    line = h.line;
    done = [];
    goes_on = λ more. ap (λ (l : List ℕ). lines_of (l ++ more)) (append-nil h.bytes) ∙ h.goes more ∙ ap
        (λ (ls : List (List ℕ)). ls ++ lines_from h.line more) (sym (append-nil h.lines));
    later_answers = none;
    numbered = h.numbered ∙ ap (λ (ls : List (List ℕ)). 1 + length ls) (sym (append-nil h.lines));
    keeps = h.keeps;
    few = omega (arith, short);
    reads = Consumes-trans r0 r1 r2 h.bytes block h.reads reads;
    writes = subst (Appends w0 w1) (sym (append-nil h.text)) h.writes;
  }

  module _ (number : ℕ) (kept pending : List ℕ) (r0 r1 w0 w1 w2 : Option (List ℕ)) (h : Midst Says number kept pending [] r0 r1 w0 w1) where
    pub closes : Appends w1 w2 pending → GoesOn Says number kept r0 r1 w0 w2
    closes written = record {
      bytes = h.bytes ++ h.block;
      lines = h.lines ++ h.later;
      line = h.line;
      text = h.text ++ (h.done ++ pending);
      numbered = h.numbered;
      reads = subst (Consumes r0 r1) (ap (λ (l : List ℕ). h.bytes ++ l) (append-nil h.block)) h.reads;
      writes = subst (Appends w0 w2) (append_assoc h.text h.done pending) (Appends-trans w0 w1 w2 (h.text ++ h.done) pending h.writes written);
      keeps = h.keeps;
      answers = answers_join 1 h.lines h.later h.text (h.done ++ pending) h.answers h.later_answers;
      goes = h.goes_on;
    }

  module _ (number : ℕ) (kept pending ahead : List ℕ) (r0 r1 w0 w1 : Option (List ℕ)) (h : Midst Says number kept pending ahead r0 r1 w0 w1) where
    so_far : lines_of (h.bytes ++ h.block) ≡ h.lines ++ (h.later ++ lines_from h.line [])
    so_far = ap lines_of (sym (append-nil (h.bytes ++ h.block))) ∙ h.goes_on [] ∙ append_assoc h.lines h.later (lines_from h.line [])

    -- the output fails at the answers that are pending
    pub unwritten : (w2 : Option (List ℕ)) → AppendsPart w1 w2 pending → IsServiceUnwritten Says r0 r1 w0 w2
    unwritten w2 (done, rest, e, written) = record {
      bytes = h.bytes;
      lines = h.lines;
      begun = h.begun;
      text = h.text;
      parts = h.goes;
      answers = h.answers;
      block = h.block;
      ahead = ahead;
      few = h.few;
      reads = h.reads;
      later = h.later;
      others = lines_from h.line [];
      later_parts = so_far;
      one = one_begun h.line;
      done = h.done ++ done;
      rest = rest;
      later_answers = subst (AreAnswers Says (1 + length h.lines) h.later) (ap (λ (l : List ℕ). h.done ++ l) e ∙ sym (append_assoc h.done done rest))
          h.later_answers;
      writes = subst (Appends w0 w2) (append_assoc h.text h.done done) (Appends-trans w0 w1 w2 (h.text ++ h.done) done h.writes written);
    }

  -- ---- a byte more
  module _ (number : ℕ) (kept pending ahead : List ℕ) (b : ℕ) (r0 r1 w0 w1 : Option (List ℕ)) (h : Midst Says number kept pending (b ∷ ahead) r0 r1 w0 w1) where
    pub moved : h.bytes ++ (h.block ++ b ∷ ahead) ≡ h.bytes ++ ((h.block ++ b ∷ []) ++ ahead)
    moved = ap (λ (l : List ℕ). h.bytes ++ l) (sym (append_assoc h.block (b ∷ []) ahead))

    still_few : length (h.block ++ b ∷ []) + length ahead ≤ block_bytes
    still_few = let f = h.few in omega (arith, length-append h.block (b ∷ []))

    reached : (more : List ℕ) → lines_of ((h.bytes ++ (h.block ++ b ∷ [])) ++ more) ≡ (h.lines ++ h.later) ++ lines_from h.line (b ∷ more)
    reached more =
        ap lines_of (ap (λ (l : List ℕ). l ++ more) (sym (append_assoc h.bytes h.block (b ∷ []))) ∙ append_assoc (h.bytes ++ h.block) (b ∷ []) more) ∙
        h.goes_on (b ∷ more)

    same_line : (new : List ℕ) → (b == 10) ≡ false → new ≡ take kept_bytes (h.line ++ b ∷ []) → Midst Says number new pending ahead r0 r1 w0 w1
    same_line new e keeps = record {
      bytes = h.bytes;
      lines = h.lines;
      begun = h.begun;
      text = h.text;
      goes = h.goes;
      answers = h.answers;
      block = h.block ++ b ∷ [];
      later = h.later;
      line = h.line ++ b ∷ [];
      done = h.done;
      goes_on = λ more. reached more ∙ ap (λ (ls : List (List ℕ)). (h.lines ++ h.later) ++ ls) (lines_more h.line b more e);
      later_answers = h.later_answers;
      numbered = h.numbered;
      keeps = keeps;
      few = still_few;
      reads = subst (Consumes r0 r1) moved h.reads;
      writes = h.writes;
    }

    pub byte_kept : (new : List ℕ) → (b == 10) ≡ false → length kept < kept_bytes → new ≡ kept ++ b ∷ [] → Midst Says number new pending ahead r0 r1 w0 w1
    byte_kept new e short is = same_line new e (is ∙ kept_push kept h.line b h.keeps short)

    pub byte_past : (new : List ℕ) → (b == 10) ≡ false → kept_bytes ≤ length kept → new ≡ kept → Midst Says number new pending ahead r0 r1 w0 w1
    byte_past new e full is = same_line new e (is ∙ kept_full kept h.line b h.keeps full)

    -- a line ends here
    pub one_line : (more : List ℕ) → (b == 10) ≡ true → lines_of ((h.bytes ++ (h.block ++ b ∷ [])) ++ more) ≡ (h.lines ++ (h.later ++ h.line ∷ [])) ++
        lines_from [] more
    one_line more e =
        reached more ∙ ap (λ (ls : List (List ℕ)). (h.lines ++ h.later) ++ ls) (lines_next h.line b more e) ∙ sym
        (append_assoc (h.lines ++ h.later) (h.line ∷ []) (lines_from [] more))
        ∙ ap (λ (ls : List (List ℕ)). ls ++ lines_from [] more) (append_assoc h.lines h.later (h.line ∷ []))

    pub ended : (b == 10) ≡ true → lines_of (h.bytes ++ (h.block ++ b ∷ [])) ≡ h.lines ++ (h.later ++ h.line ∷ [])
    ended e =
        ap lines_of (sym (append-nil (h.bytes ++ (h.block ++ b ∷ [])))) ∙ one_line [] e ∙ ap
        (λ (ls : List (List ℕ)). (h.lines ++ (h.later ++ h.line ∷ [])) ++ ls) lines_none
        ∙ append-nil (h.lines ++ (h.later ++ h.line ∷ []))

    -- one answer more
    answered : (out : List ℕ) → Says kept number out → AreAnswers Says (1 + length h.lines) (h.later ++ h.line ∷ [])
        ((h.done ++ pending) ++ (out ++ codes "\n"))
    answered out is =
        let n : number ≡ (1 + length h.lines) + length h.later = omega (arith, h.numbered, length-append h.lines h.later) in
        answers_join (1 + length h.lines) h.later (h.line ∷ []) (h.done ++ pending) (out ++ codes "\n") h.later_answers
        (one_answer ((1 + length h.lines) + length h.later) h.line out (subst (λ (k : ℕ). Says (take kept_bytes h.line) k out) n
        (subst (λ (l : List ℕ). Says l number out) h.keeps is)))

    pub line_done : (w2 : Option (List ℕ)) (new left : List ℕ) (next : ℕ) → (b == 10) ≡ true → new ≡ [] → next ≡ number + 1 → IsLineDone Says kept number
        pending left w1 w2 → Midst Says next new left ahead r0 r1 w0 w2
    line_done w2 new left next e empty n (out, done, is, all, written) = record {
      bytes = h.bytes;
      lines = h.lines;
      begun = h.begun;
      text = h.text;
      goes = h.goes;
      answers = h.answers;
      block = h.block ++ b ∷ [];
      later = h.later ++ h.line ∷ [];
      line = [];
      done = h.done ++ done;
      goes_on = λ more. one_line more e;
      later_answers = subst (AreAnswers Says (1 + length h.lines) (h.later ++ h.line ∷ []))
          (append_assoc h.done pending (out ++ codes "\n") ∙ ap (λ (l : List ℕ). h.done ++ l) all ∙ sym (append_assoc h.done done left)) (answered out is);
      numbered = omega (
        arith,
        n,
        h.numbered,
        length-append h.lines h.later,
        length-append h.lines (h.later ++ h.line ∷ []),
        length-append h.later
            (h.line ∷ []),
      );
      keeps = empty;
      few = still_few;
      reads = subst (Consumes r0 r1) moved h.reads;
      writes = subst (Appends w0 w2) (append_assoc h.text h.done done) (Appends-trans w0 w1 w2 (h.text ++ h.done) done h.writes written);
    }

    unanswered : (w2 : Option (List ℕ)) → (b == 10) ≡ true → Appends w1 w2 pending → IsUnanswered Says r0 r1 w0 w2
    unanswered w2 e written = record {
      bytes = h.bytes ++ (h.block ++ b ∷ []);
      lines = h.lines ++ h.later;
      last = h.line;
      ahead = ahead;
      text = h.text ++ (h.done ++ pending);
      reads = subst (Consumes r0 r1) (moved ∙ sym (append_assoc h.bytes (h.block ++ b ∷ []) ahead)) h.reads;
      few = let f = still_few in omega arith;
      parts = ended e ∙ sym (append_assoc h.lines h.later (h.line ∷ []));
      answers = answers_join 1 h.lines h.later h.text (h.done ++ pending) h.answers h.later_answers;
      writes = subst (Appends w0 w2) (append_assoc h.text h.done pending) (Appends-trans w0 w1 w2 (h.text ++ h.done) pending h.writes written);
    }

    cut : (w2 : Option (List ℕ)) → (b == 10) ≡ true → IsCut Says kept number pending w1 w2 → IsServiceUnwritten Says r0 r1 w0 w2
    cut w2 e (inl part) = unwritten number kept pending (b ∷ ahead) r0 r1 w0 w1 h w2 part
    cut w2 e (inr (out, is, part)) =
        let all = pending ++ (out ++ codes "\n") in
        let done = line_done w1 [] all (number + 1) e refl refl (out, [], is, refl, Appends-nil w1) in
        unwritten (number + 1) [] all ahead r0 r1 w0 w1 done w2 part

    pub line_broken : (w2 : Option (List ℕ)) (e : AskError) → (b == 10) ≡ true → IsLineBroken Says e kept number pending w1 w2 → IsServiceBroken Says e r0 r1 w0
        w2
    line_broken w2 OutOfMemory e written = inr (unanswered w2 e written)
    line_broken w2 NotHeld e written = unanswered w2 e written
    line_broken w2 ReadFailed e broken = absurd broken
    line_broken w2 WriteFailed e broken = cut w2 e broken
    line_broken w2 OutputClosed e broken = cut w2 e broken

  -- the output fails, of whatever kind the failure is
  pub broken_output : (e : AskError) (r0 r1 w0 w1 : Option (List ℕ)) → IsAskOutputError e → IsServiceUnwritten Says r0 r1 w0 w1 → IsServiceBroken Says e r0 r1
      w0 w1
  broken_output OutOfMemory r0 r1 w0 w1 k h = absurd k
  broken_output NotHeld r0 r1 w0 w1 k h = absurd k
  broken_output ReadFailed r0 r1 w0 w1 k h = absurd k
  broken_output WriteFailed r0 r1 w0 w1 k h = h
  broken_output OutputClosed r0 r1 w0 w1 k h = h

  -- ---- the end of the input
  module _ (number : ℕ) (kept : List ℕ) (r0 r1 r2 w0 w1 : Option (List ℕ)) (h : GoesOn Says number kept r0 r1 w0 w1) (same : Keeps r1 r2) where
    whole : lines_of h.bytes ≡ h.lines ++ lines_from h.line []
    whole = ap lines_of (sym (append-nil h.bytes)) ∙ h.goes []

    pub all_read : Consumes r0 r2 h.bytes
    all_read = Consumes-kept r0 r1 r2 h.bytes h.reads same

    -- nothing is left to answer
    pub all_served : length kept ≡ 0 → IsAtEnd r2 → IsServed Says r0 r2 w0 w1
    all_served e end =
        let none : h.line ≡ [] = none_kept h.line (ap length (sym h.keeps) ∙ e) in
        let lines : lines_of h.bytes ≡ h.lines = whole ∙ ap (λ (l : List ℕ). h.lines ++ lines_from l []) none ∙ ap (λ (ls : List (List ℕ)). h.lines ++ ls)
        lines_none ∙ append-nil h.lines in
        record {
          bytes = h.bytes;
          text = h.text;
          reads = all_read;
          end = end;
          answers = subst (λ (ls : List (List ℕ)). AreAnswers Says 1 ls h.text) (sym lines) h.answers;
          writes = h.writes;
        }

    -- the input fails
    pub read_fails : IsServiceUnread Says r0 r2 w0 w1
    read_fails = record {
      bytes = h.bytes;
      lines = h.lines;
      begun = h.line;
      text = h.text;
      reads = all_read;
      parts = h.goes;
      answers = h.answers;
      writes = h.writes;
    }

    -- the last line has no end
    module _ (w2 : Option (List ℕ)) (some : 0 < length kept) where
      pub last_lines : lines_of h.bytes ≡ h.lines ++ h.line ∷ []
      last_lines = whole ∙ ap (λ (ls : List (List ℕ)). h.lines ++ ls) (lines_end h.line (omega (arith, ap length h.keeps, length-take kept_bytes h.line)))

      pub last_answer : (out : List ℕ) → Says kept number out → AreAnswers Says (1 + length h.lines) (h.line ∷ []) (out ++ codes "\n")
      last_answer out is = one_answer (1 + length h.lines) h.line out (subst (λ (k : ℕ). Says (take kept_bytes h.line) k out) h.numbered
          (subst (λ (l : List ℕ). Says l number out) h.keeps is))

      last_unanswered : Keeps w1 w2 → IsUnanswered Says r0 r2 w0 w2
      last_unanswered kept_out = record {
        bytes = h.bytes;
        lines = h.lines;
        last = h.line;
        ahead = [];
        text = h.text;
        reads = subst (Consumes r0 r2) (sym (append-nil h.bytes)) all_read;
        few = omega arith;
        parts = last_lines;
        answers = h.answers;
        writes = Appends-kept w0 w1 w2 h.text h.writes kept_out;
      }

      pub last_unwritten : (out : List ℕ) → Says kept number out → AppendsPart w1 w2 (out ++ codes "\n") → IsServiceUnwritten Says r0 r2 w0 w2
      last_unwritten out is (done, rest, e, written) = record {
        bytes = h.bytes;
        lines = h.lines;
        begun = h.line;
        text = h.text;
        parts = h.goes;
        answers = h.answers;
        block = [];
        ahead = [];
        few = omega arith;
        reads = subst (Consumes r0 r2) (sym (append-nil h.bytes)) all_read;
        later = h.line ∷ [];
        others = [];
        later_parts = ap lines_of (append-nil h.bytes) ∙ last_lines;
        one = omega arith;
        done = done;
        rest = rest;
        later_answers = subst (AreAnswers Says (1 + length h.lines) (h.line ∷ [])) e (last_answer out is);
        writes = Appends-trans w0 w1 w2 h.text done h.writes written;
      }

      pub last_refused : (e : AskError) → IsOfLine e → Keeps w1 w2 → IsServiceBroken Says e r0 r2 w0 w2
      last_refused OutOfMemory k kept_out = inr (last_unanswered kept_out)
      last_refused NotHeld k kept_out = last_unanswered kept_out
      last_refused ReadFailed k kept_out = absurd k
      last_refused WriteFailed k kept_out = absurd k
      last_refused OutputClosed k kept_out = absurd k

      -- with what is answered and written in one
      pub last_done : (none all : List ℕ) → none ≡ [] → (out : List ℕ) × Says kept number out × (all ≡ none ++ (out ++ codes "\n")) → IsAtEnd r2 → Appends
          w1 w2 all → IsServed Says r0 r2 w0 w2
      last_done none all e (out, is, a) end written =
          let answer = out ++ codes "\n" in
          record {
            bytes = h.bytes;
            text = h.text ++ answer;
            reads = all_read;
            end = end;
            answers = subst (λ (ls : List (List ℕ)). AreAnswers Says 1 ls (h.text ++ answer)) (sym last_lines)
                (answers_join 1 h.lines (h.line ∷ []) h.text answer h.answers (last_answer out is));
            writes = Appends-trans w0 w1 w2 h.text answer h.writes (subst (Appends w1 w2) (a ∙ ap (λ (l : List ℕ). l ++ answer) e) written);
          }

      pub last_failed : (e : AskError) (none all : List ℕ) → none ≡ [] → (out : List ℕ) × Says kept number out × (all ≡ none ++ (out ++ codes "\n")) →
          IsAskOutputError e → AppendsPart w1 w2 all → IsServiceBroken Says e r0 r2 w0 w2
      last_failed e none all n (out, is, a) k part = broken_output e r0 r2 w0 w2 k
          (last_unwritten out is (subst (AppendsPart w1 w2) (a ∙ ap (λ (l : List ℕ). l ++ (out ++ codes "\n")) n) part))

  -- the answers to a line, of which a first part is written
  pub line_said : (line : List ℕ) (n : ℕ) (answers all left : List ℕ) (w1 w2 : Option (List ℕ)) → (out : List ℕ) × Says line n out ×
      (all ≡ answers ++ (out ++ codes "\n"))
      → (done : List ℕ) × (all ≡ done ++ left) × Appends w1 w2 done → IsLineDone Says line n answers left w1 w2
  line_said line n answers all left w1 w2 (out, is, a) (done, e, written) = (out, done, is, sym a ∙ e, written)

  pub line_unsaid : (line : List ℕ) (n : ℕ) (answers all : List ℕ) (w1 w2 : Option (List ℕ)) → (out : List ℕ) × Says line n out ×
      (all ≡ answers ++ (out ++ codes "\n"))
      → AppendsPart w1 w2 all → IsCut Says line n answers w1 w2
  line_unsaid line n answers all w1 w2 (out, is, a) part = inr (out, is, subst (AppendsPart w1 w2) a part)

  -- the answers are cut, of whatever kind the failure is
  pub line_cut : (e : AskError) (line : List ℕ) (n : ℕ) (answers : List ℕ) (w1 w2 : Option (List ℕ)) → IsAskOutputError e → IsCut Says line n answers w1 w2 →
      IsLineBroken Says e line n answers w1 w2
  line_cut OutOfMemory line n answers w1 w2 k h = absurd k
  line_cut NotHeld line n answers w1 w2 k h = absurd k
  line_cut ReadFailed line n answers w1 w2 k h = absurd k
  line_cut WriteFailed line n answers w1 w2 k h = h
  line_cut OutputClosed line n answers w1 w2 k h = h
