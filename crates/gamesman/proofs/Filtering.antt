-- The answers to the lines of an input, before its end.
use Rattle.gamesman.proofs.Lower.{◌≡◌, ℕ, ◌+◌, ◌≤◌, ◌<◌, true, false, List, [], ◌∷◌, ◌++◌, length, take, Option, Result, Ok, refl, sym, ap, subst, ◌∙◌, append_assoc, append-nil, arith, Appends, Keeps, Appends-trans, Appends-kept, Position, Rules, TableData, HoldsExactly, Fault, NoSuchGame, NoSuchPosition, NoSuchPositionInLine, NoSuchGameInLine, NoSuchTier, NoSuchIndex, NotLegal, NotCanonical, OutOfMemory, NotBuilt, AnotherGames, InputFailed, OutputFailed, OutputClosed, TooMuchInput, EngineNotRead, NotAnEngine, IsOfNone}
use Rattle.std.specs.Prelude.{◌==◌, if◌then◌else◌, min, ◌↔◌, None, Some}
use Rattle.std.specs.Prelude.{Bool}
use Rattle.std.proofs.lemmas.Bool.{eqb-true}
use Rattle.std.proofs.lemmas.List.{length-take, length-append}
use Rattle.std.proofs.KnownBytes.{Appends-nil, Consumes-trans, Consumes-nil, Keeps-refl, prepend_known-nil}
use Rattle.gm_tiers.specs.Orders.{IsTierOrder}
use Rattle.gm_play.specs.Dialogue.{without_return}
use Rattle.gm_json.specs.Asking.{kept_bytes, lines_from, lines_of}
use Rattle.gamesman.specs.Filters.{IsLineFault, last_number, AreLineTexts, AreAnswered, AreBefore, AreAllAnswered, IsFilterStopped, IsLeftOff}
use Rattle.std.proofs.Common.{IfOk}
use Rattle.std.specs.Io.KnownBytes.{Consumes, IsAtEnd, prepend_known}
use Rattle.std.specs.declared.io.buffered.BufReader.{BufReader}
use Rattle.gm_table.specs.Tables.{IsHeld}
use Rattle.gm_tiers.specs.Reach.{IsReached}
use Rattle.std.specs.Io.Buffered.{reader_remaining, reader_capacity, reader_buffer, reader_inner}
use Rattle.gm_json.proofs.Splitting.{lines_more, lines_next, lines_end, lines_none, none_kept, kept_push, kept_full}

-- a list that is empty has no length
pub none_of : (n : ℕ) (empty : Bool) → empty ≡ (n == 0) → empty ≡ true → n ≡ 0
none_of n empty e h = eqb-true n 0 (sym e ∙ h)

module _ (IsText : List ℕ → List ℕ → Type 0) where
  -- the texts of some lines and of one more
  texts_more : (xs : List (List ℕ)) (line t out : List ℕ) → AreLineTexts IsText xs t → IsText (without_return (take kept_bytes line)) out → AreLineTexts IsText
      (xs ++ line ∷ []) (t ++ out)
  texts_more [] line t out e is = (out, [], is, ap (λ (l : List ℕ). l ++ out) e ∙ sym (append-nil out), refl)
  texts_more (x ∷ xs) line t out (text, rest, first, e, more) is =
      (text, rest ++ out, first, ap (λ (l : List ℕ). l ++ out) e ∙ append_assoc text rest out, texts_more xs line rest out more is)

  -- between two bytes: the lines that ended are answered, and the first bytes of the line that has begun are kept
  pub record Amid (number : ℕ) (kept : List ℕ) (input left before after : Option (List ℕ)) : Type 0 where
    pub lines : List (List ℕ)
    pub line : List ℕ
    pub numbered : number ≡ min (1 + length lines) last_number
    pub keeps : kept ≡ take kept_bytes line
    pub so_far : AreAnswered IsText lines line input left before after

  pub begins : (input before : Option (List ℕ)) (number : ℕ) (kept : List ℕ) → number ≡ 1 → kept ≡ [] → Amid number kept input input before before
  begins input before number kept n e = record {
    lines = [];
    line = [];
    numbered = omega (arith, n);
    keeps = e;
    so_far = record {
      bytes = [];
      text = [];
      reads = Consumes-nil input;
      parts = λ more. refl;
      answers = refl;
      writes = Appends-nil before;
    };
  }

  pub stopped : (number : ℕ) (kept : List ℕ) (input left before after : Option (List ℕ)) → Amid number kept input left before after → IsFilterStopped
      IsText input
      before after
  stopped number kept input left before after h = (h.lines, h.line, left, h.so_far)

  module _ (IsNone : List ℕ → Type 0) (lines : List (List ℕ)) (line kept : List ℕ) (number : ℕ) (input before w1 w2 : Option (List ℕ))
      (keeps : kept ≡ take kept_bytes line) (numbered : number ≡ min (1 + length lines) last_number)
      (stop : Keeps w1 w2 → IsFilterStopped IsText input before w2) (come : (w : Option (List ℕ)) → Keeps w1 w → AreBefore IsText lines line input before
      w) where
    -- the output if a line is not answered
    left_off : (fault : Fault) → IsLineFault IsText IsNone kept number w1 w2 fault → IsLeftOff IsText IsNone input before w2 fault
    left_off (NoSuchPositionInLine n) (same, none, kept_out) =
        (lines, line, come w2 kept_out, subst (λ (l : List ℕ). IsNone (without_return l)) keeps none, same ∙ numbered)
    left_off (OutOfMemory error) kept_out = stop kept_out
    left_off OutputFailed (out, is, part) =
        (lines, line, w1, come w1 (Keeps-refl w1), (out, subst (λ (l : List ℕ). IsText (without_return l) out) keeps is, part))
    left_off OutputClosed (out, is, part) =
        (lines, line, w1, come w1 (Keeps-refl w1), (out, subst (λ (l : List ℕ). IsText (without_return l) out) keeps is, part))
    left_off NoSuchGame is = absurd is
    left_off NoSuchPosition is = absurd is
    left_off (NoSuchGameInLine line) is = absurd is
    left_off (NoSuchTier tier) is = absurd is
    left_off (NoSuchIndex tier index) is = absurd is
    left_off (NotLegal tier index) is = absurd is
    left_off (NotCanonical tier index) is = absurd is
    left_off (NotBuilt error) is = absurd is
    left_off (AnotherGames tier) is = absurd is
    left_off InputFailed is = absurd is
    left_off TooMuchInput is = absurd is
    left_off EngineNotRead is = absurd is
    left_off NotAnEngine is = absurd is

  -- ---- one more byte
  module _ (number : ℕ) (kept : List ℕ) (b : ℕ) (input l1 l2 before w1 : Option (List ℕ)) (h : Amid number kept input l1 before w1)
      (one : Consumes l1 l2 (b ∷ [])) where
    all_read : Consumes input l2 (h.so_far.bytes ++ b ∷ [])
    all_read = Consumes-trans input l1 l2 h.so_far.bytes (b ∷ []) h.so_far.reads one

    reached : (more : List ℕ) → lines_of ((h.so_far.bytes ++ b ∷ []) ++ more) ≡ h.lines ++ lines_from h.line (b ∷ more)
    reached more = ap lines_of (append_assoc h.so_far.bytes (b ∷ []) more) ∙ h.so_far.parts (b ∷ more)

    same_line : (new : List ℕ) → (b == 10) ≡ false → new ≡ take kept_bytes (h.line ++ b ∷ []) → Amid number new input l2 before w1
    same_line new e keeps = record {
      lines = h.lines;
      line = h.line ++ b ∷ [];
      numbered = h.numbered;
      keeps = keeps;
      so_far = record {
        bytes = h.so_far.bytes ++ b ∷ [];
        text = h.so_far.text;
        reads = all_read;
        parts = λ more. reached more ∙ ap (λ (ls : List (List ℕ)). h.lines ++ ls) (lines_more h.line b more e);
        answers = h.so_far.answers;
        writes = h.so_far.writes;
      };
    }

    pub byte_kept : (new : List ℕ) → (b == 10) ≡ false → length kept < kept_bytes → new ≡ kept ++ b ∷ [] → Amid number new input l2 before w1
    byte_kept new e short is = same_line new e (is ∙ kept_push kept h.line b h.keeps short)

    pub byte_past : (new : List ℕ) → (b == 10) ≡ false → kept_bytes ≤ length kept → new ≡ kept → Amid number new input l2 before w1
    byte_past new e full is = same_line new e (is ∙ kept_full kept h.line b h.keeps full)

    -- a line ends here
    ended : (b == 10) ≡ true → lines_of (h.so_far.bytes ++ b ∷ []) ≡ h.lines ++ h.line ∷ []
    ended e =
        ap lines_of (sym (append-nil (h.so_far.bytes ++ b ∷ []))) ∙ reached [] ∙ ap (λ (ls : List (List ℕ)). h.lines ++ ls)
        (lines_next h.line b [] e ∙ ap (λ (ls : List (List ℕ)). h.line ∷ ls) lines_none)

    pub line_done : (w2 : Option (List ℕ)) (new : List ℕ) (next : ℕ) → (b == 10) ≡ true → new ≡ [] → next ≡ min (number + 1) last_number
        → (out : List ℕ) × IsText (without_return kept) out × Appends w1 w2 out → Amid next new input l2 before w2
    line_done w2 new next e empty n (out, is, written) = record {
      lines = h.lines ++ h.line ∷ [];
      line = [];
      numbered = omega (arith, n, h.numbered, length-append h.lines (h.line ∷ []));
      keeps = empty;
      so_far = record {
        bytes = h.so_far.bytes ++ b ∷ [];
        text = h.so_far.text ++ out;
        reads = all_read;
        parts = λ more. reached more ∙ ap (λ (ls : List (List ℕ)). h.lines ++ ls) (lines_next h.line b more e) ∙ sym
            (append_assoc h.lines (h.line ∷ []) (lines_from [] more));
        answers = texts_more h.lines h.line h.so_far.text out h.so_far.answers (subst (λ (l : List ℕ). IsText (without_return l) out) h.keeps is);
        writes = Appends-trans before w1 w2 h.so_far.text out h.so_far.writes written;
      };
    }

    pub line_fails : (IsNone : List ℕ → Type 0) (w2 : Option (List ℕ)) (fault : Fault) → (b == 10) ≡ true → IsLineFault IsText IsNone kept number w1 w2 fault
        → IsLeftOff IsText IsNone input before w2 fault
    line_fails IsNone w2 fault e is = left_off IsNone h.lines h.line kept number input before w1 w2 h.keeps h.numbered
        (λ same. (
          h.lines,
          h.line,
          l1,
          record {
            bytes = h.so_far.bytes;
            text = h.so_far.text;
            reads = h.so_far.reads;
            parts = h.so_far.parts;
            answers = h.so_far.answers;
            writes = Appends-kept before w1 w2 h.so_far.text h.so_far.writes same;
          },
        ))
        (λ w same. record {
          left = l2;
          bytes = h.so_far.bytes ++ b ∷ [];
          text = h.so_far.text;
          reads = all_read;
          parts = ended e;
          answers = h.so_far.answers;
          writes = Appends-kept before w1 w h.so_far.text h.so_far.writes same;
        })
        fault is

  -- ---- the end of the input
  module _ (number : ℕ) (kept : List ℕ) (input left before w1 : Option (List ℕ)) (h : Amid number kept input left before w1) (end : IsAtEnd left) where
    whole : lines_of h.so_far.bytes ≡ h.lines ++ lines_from h.line []
    whole = ap lines_of (sym (append-nil h.so_far.bytes)) ∙ h.so_far.parts []

    -- all lines are answered
    pub all_done : length kept ≡ 0 → AreAllAnswered IsText input before w1
    all_done e =
        let none : h.line ≡ [] = none_kept h.line (ap length (sym h.keeps) ∙ e) in
        let lines : lines_of h.so_far.bytes ≡ h.lines = whole ∙ ap (λ (l : List ℕ). h.lines ++ lines_from l []) none ∙ ap
        (λ (ls : List (List ℕ)). h.lines ++ ls) lines_none ∙ append-nil h.lines in
        record {
          left = left;
          bytes = h.so_far.bytes;
          text = h.so_far.text;
          reads = h.so_far.reads;
          end = end;
          answers = subst (λ (ls : List (List ℕ)). AreLineTexts IsText ls h.so_far.text) (sym lines) h.so_far.answers;
          writes = h.so_far.writes;
        }

    -- the last line has no end
    module _ (some : 0 < length kept) where
      last_lines : lines_of h.so_far.bytes ≡ h.lines ++ h.line ∷ []
      last_lines = whole ∙ ap (λ (ls : List (List ℕ)). h.lines ++ ls) (lines_end h.line (omega (arith, ap length h.keeps, length-take kept_bytes h.line)))

      pub last_done : (w2 : Option (List ℕ)) → (out : List ℕ) × IsText (without_return kept) out × Appends w1 w2 out → AreAllAnswered IsText input before w2
      last_done w2 (out, is, written) = record {
        left = left;
        bytes = h.so_far.bytes;
        text = h.so_far.text ++ out;
        reads = h.so_far.reads;
        end = end;
        answers = subst (λ (ls : List (List ℕ)). AreLineTexts IsText ls (h.so_far.text ++ out)) (sym last_lines)
            (texts_more h.lines h.line h.so_far.text out h.so_far.answers (subst (λ (l : List ℕ). IsText (without_return l) out) h.keeps is));
        writes = Appends-trans before w1 w2 h.so_far.text out h.so_far.writes written;
      }

      pub last_fails : (IsNone : List ℕ → Type 0) (w2 : Option (List ℕ)) (fault : Fault) → IsLineFault IsText IsNone kept number w1 w2 fault → IsLeftOff IsText
          IsNone input before w2 fault
      last_fails IsNone w2 fault is = left_off IsNone h.lines h.line kept number input before w1 w2 h.keeps h.numbered
          (λ same. (
            h.lines,
            h.line,
            left,
            record {
              bytes = h.so_far.bytes;
              text = h.so_far.text;
              reads = h.so_far.reads;
              parts = h.so_far.parts;
              answers = h.so_far.answers;
              writes = Appends-kept before w1 w2 h.so_far.text h.so_far.writes same;
            },
          ))
          (λ w same. record {
            left = left;
            bytes = h.so_far.bytes;
            text = h.so_far.text;
            reads = h.so_far.reads;
            parts = last_lines;
            answers = h.so_far.answers;
            writes = Appends-kept before w1 w h.so_far.text h.so_far.writes same;
          })
          fault is

-- a byte that was read is one of the input
pub one_byte : {E : Type 0} → (old new : Option (List ℕ)) (item : Result ℕ E) (b : ℕ) → item ≡ Ok b → IfOk item (λ x. Consumes old new (x ∷ [])) → Consumes old
    new (b ∷ [])
one_byte old new item b e h = subst (λ (i : Result ℕ _). IfOk i (λ x. Consumes old new (x ∷ []))) e h

-- a buffer that has read nothing has the whole rest of its reader
pub fresh_reader : {T A : Type 0} → (remaining : T → Option (List ℕ)) (b : BufReader T A) (inner : T) → reader_capacity b ≡ 8192 → reader_buffer b ≡ [] →
    reader_inner b ≡ inner → reader_remaining remaining b ≡ remaining inner
fresh_reader remaining b inner room empty is =
    ap (λ (n : ℕ). if n == 0 then None else prepend_known (reader_buffer b) (remaining b.inner)) room ∙ ap
    (λ (l : List ℕ). prepend_known l (remaining b.inner)) empty ∙ prepend_known-nil (remaining b.inner) ∙ ap remaining is

module _ (r : Rules) (shown : Position → List ℕ) (move_shown : Position → ℕ → List ℕ) (text : List ℕ) (m : Option Position)
    (reads : (p : Position) → (m ≡ Some p) ↔ ((r.is_legal p ≡ true) × (shown p ≡ text))) where
  -- nothing was read
  pub unread : m ≡ None → IsOfNone r shown move_shown text
  unread none p read reached = let e : None ≡ Some p = sym none ∙ (reads p).1 read in absurd (cc)

  -- the position that was read has no table, though each tier of the game has one
  pub unheld : (p : Position) (entries : List TableData) (order : List ℕ) → m ≡ Some p → IsTierOrder r order → HoldsExactly entries order
      → (IsHeld entries p.tier → ⊥) → IsOfNone r shown move_shown text
  unheld p entries order e is held none q read reached =
      let same : p ≡ q = ap (λ (o : Option Position). elim o [ None ↦ p | Some y ↦ y ]) (sym e ∙ (reads q).1 read) in
      none ((held p.tier).1 ((is.each p.tier).1 (subst (λ (x : Position). IsReached r x.tier) (sym same) reached)))
