-- A service that stops at a line that names a game.
use Rattle.gm_json.proofs.Lower.{◌≡◌, ℕ, ◌+◌, ◌<◌, ◌≤◌, Bool, true, false, List, [], ◌∷◌, ◌++◌, length, take, drop, codes, Option, None, Some, refl, sym, ap, subst, ◌∙◌, append_assoc, arith, ◌==◌, length-take, drop_all, Consumes, GoesOn, Midst, kept_bytes, inl, inr}
use Rattle.std.specs.Io.KnownBytes.{Keeps, Appends, IsAtEnd, prepend_known}
use Rattle.std.proofs.KnownBytes.{Appends-trans, Appends-kept}
use Rattle.gm_json.specs.declared.ask_error.AskError.{AskError}
use Rattle.gm_json.specs.declared.ask_error.AskError.TheVariants.{OutOfMemory, NotHeld, ReadFailed, WriteFailed, OutputClosed}
use Rattle.gm_json.specs.declared.turn.Stop.{Stop}
use Rattle.gm_json.specs.declared.turn.Stop.TheVariants.{Turn as Turns, Error}
use Rattle.gm_play.specs.Sessions.{AppendsPart}
use Rattle.gm_json.specs.Asking.{lines_from, IsServiceUnwritten, IsOfLine, IsCut, IsLineBroken}
use Rattle.gm_json.specs.Turns.{IsTurnOf, IsNoTurn, answers_after}
use Rattle.gm_json.specs.inner.Stops.{IfTurn, IsOutputStop, IsLineStop, IsStopped, IsLineStopped}
use Rattle.gm_json.proofs.Serving.{answers_join, moved, one_line, ended, all_read, last_lines, last_unwritten, line_broken, broken_output, last_refused, line_cut}

-- ---- bytes that are read and not taken
pub consumes_front : (a b : Option (List ℕ)) (xs ys : List ℕ) → Consumes a b (xs ++ ys) → Consumes a (prepend_known ys b) xs
consumes_front None b xs ys h = tt
consumes_front (Some x) None xs ys h = absurd h
consumes_front (Some x) (Some y) xs ys h = h ∙ append_assoc xs ys y

pub consumes_unread : (ys : List ℕ) (a : Option (List ℕ)) → Consumes (prepend_known ys a) a ys
consumes_unread ys None = tt
consumes_unread ys (Some x) = refl

pub none_unread : (a : Option (List ℕ)) → prepend_known [] a ≡ a
none_unread None = refl
none_unread (Some x) = refl

pub ahead_none : (ys : List ℕ) (a : Option (List ℕ)) → ys ≡ [] → prepend_known ys a ≡ a
ahead_none ys a e = ap (λ (l : List ℕ). prepend_known l a) e ∙ none_unread a

-- ---- what a line may be answered
pub said : (turns : Bool) (before : ℕ) (Says : List ℕ → ℕ → List ℕ → Type 0) (line : List ℕ) (n : ℕ) (out : List ℕ) → (turns ≡ true → IsNoTurn line)
    → Says line (before + n) out → answers_after turns before Says line n out
said false before Says line n out none is = is
said true before Says line n out none is = (none refl, is)

module _ (Says : List ℕ → ℕ → List ℕ → Type 0) (earlier : ℕ) where
  -- the output fails, of whatever kind the failure is
  pub stopped_output : (s : Stop) (n : ℕ) (ahead : List ℕ) (r0 r1 w0 w1 : Option (List ℕ)) → IsOutputStop s → IsServiceUnwritten Says r0 r1 w0 w1
      → IsStopped Says earlier s n ahead r0 r1 w0 w1
  stopped_output (Turns turn) n ahead r0 r1 w0 w1 k h = absurd k
  stopped_output (Error e) n ahead r0 r1 w0 w1 k h = broken_output Says e r0 r1 w0 w1 k h

  pub line_cut_off : (s : Stop) (line : List ℕ) (n : ℕ) (answers : List ℕ) (w1 w2 : Option (List ℕ)) → IsOutputStop s → IsCut Says line n answers w1 w2
      → IsLineStopped Says earlier s line n answers w1 w2
  line_cut_off (Turns turn) line n answers w1 w2 k h = absurd k
  line_cut_off (Error e) line n answers w1 w2 k h = line_cut Says e line n answers w1 w2 k h

  -- the line is not answered, and those before it are
  of_line : (e : AskError) (line : List ℕ) (n : ℕ) (answers : List ℕ) (w1 w2 : Option (List ℕ)) → IsOfLine e → Appends w1 w2 answers
      → IsLineBroken Says e line n answers w1 w2
  of_line OutOfMemory line n answers w1 w2 k written = written
  of_line NotHeld line n answers w1 w2 k written = written
  of_line ReadFailed line n answers w1 w2 k written = absurd k
  of_line WriteFailed line n answers w1 w2 k written = absurd k
  of_line OutputClosed line n answers w1 w2 k written = absurd k

  pub line_left : (s : Stop) (line : List ℕ) (n : ℕ) (answers : List ℕ) (w1 w2 : Option (List ℕ)) → IsLineStop line (earlier + n) s → Appends w1 w2 answers
      → IsLineStopped Says earlier s line n answers w1 w2
  line_left (Turns turn) line n answers w1 w2 names written = (names, written)
  line_left (Error e) line n answers w1 w2 k written = of_line e line n answers w1 w2 k written

  -- ---- a line that names a game ends
  module _ (number : ℕ) (kept pending ahead : List ℕ) (b : ℕ) (r0 r1 w0 w1 : Option (List ℕ)) (h : Midst Says number kept pending (b ∷ ahead) r0 r1 w0 w1) where
    pub line_stopped : (w2 : Option (List ℕ)) (s : Stop) (n : ℕ) → (b == 10) ≡ true → IfTurn s (n ≡ number)
        → IsLineStopped Says earlier s kept number pending w1 w2 → IsStopped Says earlier s n ahead r0 r1 w0 w2
    line_stopped w2 (Error e) n here same broken = line_broken Says number kept pending ahead b r0 r1 w0 w1 h w2 e here broken
    line_stopped w2 (Turns turn) n here same (names, written) =
        let lines : h.lines ++ (h.later ++ h.line ∷ []) ≡ (h.lines ++ h.later) ++ h.line ∷ [] = sym (append_assoc h.lines h.later (h.line ∷ [])) in
        record {
          lines = h.lines ++ h.later;
          last = h.line;
          number = same ∙ h.numbered;
          turned = record {
            bytes = h.bytes ++ (h.block ++ b ∷ []);
            text = h.text ++ (h.done ++ pending);
            reads = consumes_front r0 r1 (h.bytes ++ (h.block ++ b ∷ [])) ahead
                (subst (Consumes r0 r1) (moved Says number kept pending ahead b r0 r1 w0 w1 h ∙ sym (append_assoc h.bytes (h.block ++ b ∷ []) ahead)) h.reads);
            parts = ended Says number kept pending ahead b r0 r1 w0 w1 h here ∙ lines;
            ends = inl (λ more. one_line Says number kept pending ahead b r0 r1 w0 w1 h more here ∙ ap (λ (ls : List (List ℕ)). ls ++ lines_from [] more) lines);
            answers = answers_join Says 1 h.lines h.later h.text (h.done ++ pending) h.answers h.later_answers;
            writes = subst (Appends w0 w2) (append_assoc h.text h.done pending) (Appends-trans w0 w1 w2 (h.text ++ h.done) pending h.writes written);
          };
          names = subst (λ (k : ℕ). IsTurnOf (take kept_bytes h.line) (earlier + k) turn) (sym same)
              (subst (λ (l : List ℕ). IsTurnOf l (earlier + number) turn) h.keeps names);
        }

  -- ---- the last line, which has no end
  module _ (number : ℕ) (kept : List ℕ) (r0 r1 r2 w0 w1 : Option (List ℕ)) (h : GoesOn Says number kept r0 r1 w0 w1) (same : Keeps r1 r2) (w2 : Option (List ℕ))
      (some : 0 < length kept) where
    pub last_stopped : (s : Stop) (n : ℕ) → IsLineStop kept (earlier + number) s → Keeps w1 w2 → IsAtEnd r2 → IfTurn s (n ≡ number)
        → IsStopped Says earlier s n [] r0 r2 w0 w2
    last_stopped (Error e) n k kept_out end at = last_refused Says number kept r0 r1 r2 w0 w1 h same w2 some e k kept_out
    last_stopped (Turns turn) n names kept_out end at = record {
      lines = h.lines;
      last = h.line;
      number = at ∙ h.numbered;
      turned = record {
        bytes = h.bytes;
        text = h.text;
        reads = subst (λ (r : Option (List ℕ)). Consumes r0 r h.bytes) (sym (none_unread r2)) (all_read Says number kept r0 r1 r2 w0 w1 h same);
        parts = last_lines Says number kept r0 r1 r2 w0 w1 h same w2 some;
        ends = inr (subst IsAtEnd (sym (none_unread r2)) end);
        answers = h.answers;
        writes = Appends-kept w0 w1 w2 h.text h.writes kept_out;
      };
      names = subst (λ (k : ℕ). IsTurnOf (take kept_bytes h.line) (earlier + k) turn) (sym at)
          (subst (λ (l : List ℕ). IsTurnOf l (earlier + number) turn) h.keeps names);
    }

    pub last_cut_off : (s : Stop) (n : ℕ) (none all : List ℕ) → none ≡ [] → (out : List ℕ) × Says kept number out × (all ≡ none ++ (out ++ codes "\n"))
        → IsOutputStop s → AppendsPart w1 w2 all → IsStopped Says earlier s n [] r0 r2 w0 w2
    last_cut_off s n none all e (out, is, a) k part = stopped_output s n [] r0 r2 w0 w2 k
        (last_unwritten Says number kept r0 r1 r2 w0 w1 h same w2 some out is
        (subst (AppendsPart w1 w2) (a ∙ ap (λ (l : List ℕ). l ++ (out ++ codes "\n")) e) part))

pub if_turn : (s : Stop) (P : Type 0) → P → IfTurn s P
if_turn (Turns turn) P p = p
if_turn (Error e) P p = tt

-- nothing of an empty block is read
pub none_of_block : (from to : ℕ) (xs ys : List ℕ) → to ≡ 0 → drop from (take to xs) ≡ drop from (take to ys)
none_of_block from to xs ys e = subst (λ (k : ℕ). drop from (take k xs) ≡ drop from (take k ys)) (sym e) (ap (drop from) (none xs ∙ sym (none ys)))
  where
    none : (zs : List ℕ) → take 0 zs ≡ []
    none [] = refl
    none (z ∷ zs) = refl

pub all_of_block : (from to : ℕ) (xs : List ℕ) → to ≤ from → drop from (take to xs) ≡ []
all_of_block from to xs h = drop_all from (take to xs) (omega (arith, h, length-take to xs))

-- a read that gave nothing kept what there was
pub none_given : (a b : Option (List ℕ)) (from to : ℕ) (xs : List ℕ) → to ≤ from → Consumes a b (drop from (take to xs)) → Keeps a b
none_given a b from to xs h reads = go a b (subst (Consumes a b) (all_of_block from to xs h) reads)
  where
    go : (a b : Option (List ℕ)) → Consumes a b [] → Keeps a b
    go None b p = tt
    go (Some xs) None p = absurd p
    go (Some xs) (Some ys) p = sym p
