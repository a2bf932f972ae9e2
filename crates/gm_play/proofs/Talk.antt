-- The middle of a session: the bytes read and written so far, and the rest.
use Rattle.gm_play.proofs.Lower.{◌≡◌, ℕ, ◌+◌, ◌≤◌, Bool, true, false, List, [], ◌∷◌, ◌++◌, length, take, Option, Some, None, refl, sym, ap, ◌∙◌, append_assoc, append-nil, arith, inl, inr, ◌==◌, if◌then◌else◌, length-append, Appends, Appends-trans, Position, Rules, Side, subst, SESSION_BYTES, KEPT, Advice, IsRightAdvice, IsShown, Said, text_after, reply, closing, Question, IfSome}
use Rattle.std.specs.Io.KnownBytes.{Keeps, Consumes, IsAtEnd}
use Rattle.gm_play.specs.Dialogue.{turn, count_after, waiting, spoken, used, talk, count}
use Rattle.gm_play.specs.Sessions.{AppendsPart, Speaks, IsRead, IsSession, IsUnread, IsUnwritten, IsTooLong, IsBroken, IsOfOutput}
use Rattle.std.proofs.KnownBytes.{Appends-nil, Consumes-trans, Consumes-kept, Consumes-nil}
use Rattle.gm_play.specs.declared.session_error.SessionError.TheVariants.{WriteFailed, OutputClosed}
use Rattle.gm_play.specs.declared.session_error.SessionError.{SessionError}
use Rattle.gm_play.proofs.Kept.{heard, closed}
use Rattle.gm_play.proofs.Parts.{part_after, part_longer}

module _ (r : Rules) (shown : Position → List ℕ) (move_shown : Position → ℕ → List ℕ) (k : Advice) (seen : Question → Position → List ℕ) where
  abbrev Talk : (Position → List ℕ → List ℕ) → Position → List ℕ → List ℕ → List ℕ
  Talk = talk r shown move_shown k seen

  abbrev Count : Position → List ℕ → List ℕ → ℕ
  Count = count r shown move_shown k seen

  abbrev Reply : Position → List ℕ → Said
  Reply = reply r shown move_shown k seen

  -- a byte of a line, or the byte that ends it
  talk_step : (f : Position → List ℕ → List ℕ) (p : Position) (line : List ℕ) (b : ℕ) (more : List ℕ) (c : Bool) → (b == 10) ≡ c
      → Talk f p line (b ∷ more)
      ≡ (if c then (Reply p line).text ++ text_after (λ q. Talk f q [] more) (Reply p line).asked else Talk f p (line ++ b ∷ []) more)
  unfolding talk
  talk_step f p line b more c e = rw e refl

  talk_end : (f : Position → List ℕ → List ℕ) (p : Position) (line : List ℕ) → Talk f p line [] ≡ f p line
  unfolding talk
  talk_end f p line = refl

  count_step : (p : Position) (line : List ℕ) (b : ℕ) (more : List ℕ) (c : Bool) → (b == 10) ≡ c → Count p line (b ∷ more)
      ≡ 1 + (if c then count_after (λ q. Count q [] more) (Reply p line).asked else Count p (line ++ b ∷ []) more)
  unfolding count
  count_step p line b more c e = rw e refl

  count_end : (p : Position) (line : List ℕ) → Count p line [] ≡ 0
  unfolding count
  count_end p line = refl

  count_none : (o : Option Position) → count_after (λ q. Count q [] []) o ≡ 0
  count_none None = refl
  count_none (Some q) = count_end q []

  count_one : (p : Position) (line : List ℕ) (b : ℕ) (c : Bool) → (b == 10) ≡ c → Count p line (b ∷ []) ≡ 1
  count_one p line b true e = count_step p line b [] true e ∙ ap (λ (n : ℕ). 1 + n) (count_none (Reply p line).asked)
  count_one p line b false e = count_step p line b [] false e ∙ ap (λ (n : ℕ). 1 + n) (count_end p (line ++ b ∷ []))

  module _ (start : Position) (first : Side) where
    abbrev Spoken : (Position → List ℕ → List ℕ) → List ℕ → List ℕ
    Spoken f bytes = spoken r shown move_shown k seen f start first bytes

    abbrev Used : List ℕ → ℕ
    Used bytes = used r shown move_shown k seen start first bytes

    -- these bytes have been read and this text has been written; the dialogue goes on with this part
    pub record Answers (number : ℕ) (r0 r1 w0 w1 : Option (List ℕ)) (said : Said) : Type 0 where
      pub bytes : List ℕ
      pub written : List ℕ
      pub is_read : IsRead r shown move_shown k seen start first r0 r1 bytes
      pub writes : Appends w0 w1 written
      pub len : length bytes ≡ number
      pub talks : (f : Position → List ℕ → List ℕ) (more : List ℕ) → Spoken f (bytes ++ more) ≡ written ++ (said.text ++ text_after (λ q. Talk f q [] more)
          said.asked)
      pub uses : (more : List ℕ) → Used (bytes ++ more) ≡ length bytes + count_after (λ q. Count q [] more) said.asked

    -- the same; the person is asked at p and has given these bytes of a line, of which a prefix is kept; the rest is the talk from here
    pub record GoesOn (number : ℕ) (r0 r1 w0 w1 : Option (List ℕ)) (p : Position) (kept : List ℕ) : Type 0 where
      pub bytes : List ℕ
      pub written : List ℕ
      pub line : List ℕ
      pub known : IsRightAdvice r p.tier k
      pub reads : Consumes r0 r1 bytes
      pub writes : Appends w0 w1 written
      pub len : length bytes ≡ number
      pub keeps : kept ≡ take KEPT line
      pub talks : (f : Position → List ℕ → List ℕ) (more : List ℕ) → Spoken f (bytes ++ more) ≡ written ++ Talk f p line more
      pub uses : (more : List ℕ) → Used (bytes ++ more) ≡ length bytes + Count p line more

    pub starts : (r0 w0 : Option (List ℕ)) → Answers 0 r0 r0 w0 w0 (turn r shown move_shown k seen start first)
    starts r0 w0 = record {
      bytes = [];
      written = [];
      is_read = record { reads = Consumes-nil r0; few = omega arith; all_used = count_none (turn r shown move_shown k seen start first).asked };
      writes = Appends-nil w0;
      len = refl;
      talks = λ f more. refl;
      uses = λ more. omega arith;
    }

    -- the output fails, for either of its two reasons
    broken_output : (e : SessionError) (r0 r1 w0 w1 : Option (List ℕ)) → IsOfOutput e → IsUnwritten r shown move_shown k seen start first r0 r1 w0 w1
        → IsBroken r shown move_shown k seen start first e r0 r1 w0 w1
    broken_output WriteFailed r0 r1 w0 w1 is h = h
    broken_output OutputClosed r0 r1 w0 w1 is h = h
    broken_output e r0 r1 w0 w1 is h = absurd is

module _ {r : Rules} {shown : Position → List ℕ} {move_shown : Position → ℕ → List ℕ} {k : Advice} {seen : Question → Position → List ℕ} {start : Position}
    {first : Side} {number : ℕ} {r0 r1 w0 w1 : Option (List ℕ)} where
  -- a part of the dialogue is written
  module _ {said : Said} (g : Answers r shown move_shown k seen start first number r0 r1 w0 w1 said) {text : List ℕ} {asked : Option Position}
      (is : Speaks r k said text asked) where
    -- the next question
    pub asks_next : (w2 : Option (List ℕ)) (p : Position) → asked ≡ Some p → Appends w1 w2 text → GoesOn r shown move_shown k seen start first number r0 r1 w0
        w2 p []
    asks_next w2 p e a =
        let o : said.asked ≡ Some p = sym is.1 ∙ e in
        record {
          bytes = g.bytes;
          written = g.written ++ text;
          line = [];
          known = subst (λ (x : Option Position). IfSome x (λ q. IsRightAdvice r q.tier k)) e is.2;
          reads = g.is_read.reads;
          writes = Appends-trans w0 w1 w2 g.written text g.writes a;
          len = g.len;
          keeps = grind arith;
          talks = λ f more. g.talks f more ∙ ap (λ (x : Option Position). g.written ++ (said.text ++ text_after (λ q. talk r shown move_shown k seen f q [] more)
              x)) o ∙ ap (λ (t : List ℕ). g.written ++ (t ++ talk r shown move_shown k seen f p [] more)) (sym is.0) ∙ sym
              (append_assoc g.written text (talk r shown move_shown k seen f p [] more));
          uses = λ more. g.uses more ∙ ap (λ (x : Option Position). length g.bytes + count_after (λ q. count r shown move_shown k seen q [] more) x) o;
        }

    -- the part is the last
    pub ends : (w2 : Option (List ℕ)) → asked ≡ None → Appends w1 w2 text → IsSession r shown move_shown k seen start first r0 r1 w0 w2
    ends w2 e a =
        let o : said.asked ≡ None = sym is.1 ∙ e in
        let f = closing r shown move_shown k seen in
        let said_all : g.written ++ text ≡ spoken r shown move_shown k seen f start first g.bytes =
        ap (λ (t : List ℕ). g.written ++ t) (is.0 ∙ sym (append-nil said.text)) ∙ ap
        (λ (x : Option Position). g.written ++ (said.text ++ text_after (λ q. talk r shown move_shown k seen f q [] []) x)) (sym o)
        ∙ sym (g.talks f []) ∙ ap (spoken r shown move_shown k seen f start first) (append-nil g.bytes) in
        record {
          bytes = g.bytes;
          is_read = g.is_read;
          writes = subst (Appends w0 w2) said_all (Appends-trans w0 w1 w2 g.written text g.writes a);
          end = inl (λ more. (
              let none = ap (count_after (λ q. count r shown move_shown k seen q [] more)) o in
              let h = g.uses more in
              omega (arith, h, none)));
        }

    pub fails : (w2 : Option (List ℕ)) (e : SessionError) → IsOfOutput e × AppendsPart w1 w2 text → IsBroken r shown move_shown k seen start first e r0 r1 w0 w2
    fails w2 e (of, a) =
        let f = closing r shown move_shown k seen in
        let rest = text_after (λ q. talk r shown move_shown k seen f q [] []) said.asked in
        broken_output r shown move_shown k seen start first e r0 r1 w0 w2 of record {
          bytes = g.bytes;
          is_read = g.is_read;
          writes = subst (AppendsPart w0 w2)
              (ap (λ (t : List ℕ). g.written ++ (t ++ rest)) is.0 ∙ sym (g.talks f []) ∙ ap (spoken r shown move_shown k seen f start first) (append-nil g.bytes))
              (part_after w0 w1 w2 g.written (text ++ rest) g.writes (part_longer w1 w2 text rest a));
        }

  -- the person is asked
  module _ {p : Position} {kept : List ℕ} (g : GoesOn r shown move_shown k seen start first number r0 r1 w0 w1 p kept) where
    abbrev Rest : (Position → List ℕ → List ℕ) → List ℕ → List ℕ
    Rest f more = talk r shown move_shown k seen f p g.line more

    abbrev Whole : (Position → List ℕ → List ℕ) → List ℕ → List ℕ
    Whole f bytes = spoken r shown move_shown k seen f start first bytes

    spoken_push : (f : Position → List ℕ → List ℕ) (b : ℕ) (more : List ℕ) → Whole f ((g.bytes ++ b ∷ []) ++ more) ≡ g.written ++ Rest f (b ∷ more)
    spoken_push f b more = ap (Whole f) (append_assoc g.bytes (b ∷ []) more) ∙ g.talks f (b ∷ more)

    used_push : (b : ℕ) (more : List ℕ) → used r shown move_shown k seen start first ((g.bytes ++ b ∷ []) ++ more) ≡ length g.bytes + count r shown move_shown
        k seen p g.line (b ∷ more)
    used_push b more = ap (used r shown move_shown k seen start first) (append_assoc g.bytes (b ∷ []) more) ∙ g.uses (b ∷ more)

    spoken_here : (f : Position → List ℕ → List ℕ) → g.written ++ f p g.line ≡ Whole f g.bytes
    spoken_here f = ap (λ (l : List ℕ). g.written ++ l) (sym (talk_end r shown move_shown k seen f p g.line)) ∙ sym (g.talks f []) ∙ ap (Whole f)
        (append-nil g.bytes)

    -- a byte of a line
    pub goes_on : (r2 : Option (List ℕ)) (b : ℕ) (kept2 : List ℕ) → Consumes r1 r2 (b ∷ []) → (b == 10) ≡ false → kept2 ≡ take KEPT (g.line ++ b ∷ []) →
        GoesOn r shown move_shown k seen start first (number + 1) r0 r2 w0 w1 p kept2
    goes_on r2 b kept2 c e t = record {
      bytes = g.bytes ++ b ∷ [];
      written = g.written;
      line = g.line ++ b ∷ [];
      known = g.known;
      reads = Consumes-trans r0 r1 r2 g.bytes (b ∷ []) g.reads c;
      writes = g.writes;
      len = omega (arith, g.len, length-append g.bytes (b ∷ []));
      keeps = t;
      talks = λ f more. spoken_push f b more ∙ ap (λ (l : List ℕ). g.written ++ l) (talk_step r shown move_shown k seen f p g.line b more false e);
      uses = λ more. (
          let h = used_push b more in
          let d = count_step r shown move_shown k seen p g.line b more false e in
          omega (arith, h, d, length-append g.bytes (b ∷ [])));
    }

    read_so_far : (r2 : Option (List ℕ)) → Keeps r1 r2 → number ≤ SESSION_BYTES → IsRead r shown move_shown k seen start first r0 r2 g.bytes
    read_so_far r2 h few = record {
      reads = Consumes-kept r0 r1 r2 g.bytes g.reads h;
      few = omega (arith, g.len, few);
      all_used = ap (used r shown move_shown k seen start first) (sym (append-nil g.bytes)) ∙ g.uses [] ∙ (
          let h = count_end r shown move_shown k seen p g.line in omega (arith, h));
    }

    -- a line that is answered
    pub answers : (r2 : Option (List ℕ)) (b : ℕ) → Consumes r1 r2 (b ∷ []) → (b == 10) ≡ true → number + 1 ≤ SESSION_BYTES → Answers r shown move_shown k seen
        start first (number + 1) r0 r2 w0 w1 (reply r shown move_shown k seen p g.line)
    answers r2 b c e few = record {
      bytes = g.bytes ++ b ∷ [];
      written = g.written;
      is_read = record {
        reads = Consumes-trans r0 r1 r2 g.bytes (b ∷ []) g.reads c;
        few = omega (arith, g.len, few, length-append g.bytes (b ∷ []));
        all_used = g.uses (b ∷ []) ∙ (let h = count_one r shown move_shown k seen p g.line b true e in omega (arith, h, length-append g.bytes (b ∷ [])));
      };
      writes = g.writes;
      len = omega (arith, g.len, length-append g.bytes (b ∷ []));
      talks = λ f more. spoken_push f b more ∙ ap (λ (l : List ℕ). g.written ++ l) (talk_step r shown move_shown k seen f p g.line b more true e);
      uses = λ more. (
          let h = used_push b more in
          let d = count_step r shown move_shown k seen p g.line b more true e in
          omega (arith, h, d, length-append g.bytes (b ∷ [])));
    }

    -- an error in reading
    pub read_fails : (r2 : Option (List ℕ)) → Keeps r1 r2 → number ≤ SESSION_BYTES → IsUnread r shown move_shown k seen start first r0 r2 w0 w1
    read_fails r2 h few = record {
      bytes = g.bytes;
      is_read = read_so_far r2 h few;
      writes = subst (Appends w0 w1) (sym (append-nil g.written) ∙ spoken_here waiting) g.writes;
    }

    -- one byte too many
    pub too_long : (r2 : Option (List ℕ)) (b : ℕ) → Consumes r1 r2 (b ∷ []) → number ≡ SESSION_BYTES → IsTooLong r shown move_shown k seen start first r0 r2
        w0 w1
    too_long r2 b c many = record {
      bytes = g.bytes;
      last = b;
      reads = Consumes-trans r0 r1 r2 g.bytes (b ∷ []) g.reads c;
      many = g.len ∙ many;
      all_used = g.uses (b ∷ []) ∙ (let h = count_one r shown move_shown k seen p g.line b (b == 10) refl in omega (arith, h, g.len, many));
      writes = subst (Appends w0 w1) (sym (append-nil g.written) ∙ spoken_here waiting) g.writes;
    }

    -- what is answered to the kept part of a line is the answer to the line
    module _ (t : IsShown r shown move_shown) (legal : r.is_legal p ≡ true) where
      pub hears : (line : List ℕ) → line ≡ kept → {text : List ℕ} {asked : Option Position} → Speaks r k (reply r shown move_shown k seen p line) text asked
          → Speaks r k (reply r shown move_shown k seen p g.line) text asked
      hears line e {text} {asked} h = subst (λ (s : Said). Speaks r k s text asked)
          (ap (reply r shown move_shown k seen p) (e ∙ g.keeps) ∙ heard r shown move_shown t k seen p legal g.line) h

      closes : (line text : List ℕ) → line ≡ kept → text ≡ closing r shown move_shown k seen p line → g.written ++ text ≡ Whole
          (closing r shown move_shown k seen) g.bytes
      closes line text e h = ap (λ (l : List ℕ). g.written ++ l)
          (h ∙ ap (closing r shown move_shown k seen p) (e ∙ g.keeps) ∙ closed r shown move_shown t k seen p legal g.line)
          ∙ spoken_here (closing r shown move_shown k seen)

      -- the end of the input
      module _ (line text : List ℕ) (e : line ≡ kept) (h : text ≡ closing r shown move_shown k seen p line) (r2 w2 : Option (List ℕ))
          (few : number ≤ SESSION_BYTES) (keeps : Keeps r1 r2) where
        pub input_ends : IsAtEnd r2 → Appends w1 w2 text → IsSession r shown move_shown k seen start first r0 r2 w0 w2
        input_ends d a = record {
          bytes = g.bytes;
          is_read = read_so_far r2 keeps few;
          writes = subst (Appends w0 w2) (closes line text e h) (Appends-trans w0 w1 w2 g.written text g.writes a);
          end = inr d;
        }

        pub close_fails : (x : SessionError) → IsOfOutput x × AppendsPart w1 w2 text → IsBroken r shown move_shown k seen start first x r0 r2 w0 w2
        close_fails x (of, a) = broken_output r shown move_shown k seen start first x r0 r2 w0 w2 of record {
          bytes = g.bytes;
          is_read = read_so_far r2 keeps few;
          writes = subst (AppendsPart w0 w2) (closes line text e h) (part_after w0 w1 w2 g.written text g.writes a);
        }
