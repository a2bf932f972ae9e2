-- Strings in texts that open no tag are read back unchanged.
use Rattle.gm_page.proofs.Lower.{◌≡◌, ℕ, zero, suc, ◌<◌, ◌≤◌, Bool, true, false, cond, List, [], ◌∷◌, ◌++◌, Some, inl, inr, ◌⊎◌, refl, sym, ap, ◌∙◌, subst, arith, flat_map, cases_lt, script_byte, rules}
use Rattle.std.proofs.lemmas.Bool.{ne_eqb, cases_eq, le-ltb}
use Rattle.std.proofs.lemmas.Grind.{flat_map-append}
use Rattle.json.specs.Word.{is_operator, is_space}
use Rattle.json.proofs.Printed.Strings.{escape_byte_plain}
use Rattle.json.specs.Print.{escape, escape_byte}
use Rattle.json.specs.Lex.{Lexeme, between, Mode, lex, lex_byte, in_string, operator, space, other}
use Rattle.std.proofs.Common.{append_assoc}
use Rattle.json.specs.Text.{content, plain, prepend, code_unit, short_escape}
use lib.Utf8.{encode}

abbrev pub script : List ℕ → List ℕ
script = flat_map script_byte

-- both readers read the escape of x, followed by any text, as x
record Passes (x : ℕ) : Type 0 where
  read : (r : List ℕ) → content plain (script (escape_byte x) ++ r) ≡ prepend (x ∷ []) (content plain r)
  lexed : (r : List ℕ) → lex in_string (script (escape_byte x) ++ r) ≡ lex in_string r

-- P holds below n, counted down from the top
abbrev Each : (ℕ → Type 0) → ℕ → Type 0
Each P zero = Unit {0}
Each P (suc n) = P n × Each P n

each_sound : (P : ℕ → Type 0) (n : ℕ) → Each P n → (x : ℕ) → x < n → P x
each_sound P zero h x lt = absurd (omega arith)
each_sound P (suc n) h x lt = go (each_sound P n h.1 x) (cases_eq x n)
  where
    go : (x < n → P x) → (x ≡ n) ⊎ (x ≡ n → ⊥) → P x
    go below (inl e) = subst P (sym e) h.0
    go below (inr ne) = below (omega arith)

first_passes : Each Passes 93
unfolding escape_byte content lex code_unit short_escape encode
first_passes = search rules

stays_inside : (o s : Bool) (x : ℕ) (r : List ℕ) (k : Mode → List Lexeme) → lex_byte in_string (cond o operator (cond s space other)) x r k ≡ k in_string
stays_inside true s x r k = refl
stays_inside false true x r k = refl
stays_inside false false x r k = refl

later_passes : (x : ℕ) → 93 ≤ x → Passes x
unfolding content lex
later_passes x l =
    let not : (k : ℕ) → k < 93 → (x ≡ k → ⊥) = λ k m e. omega arith in
    let plain = escape_byte_plain x (not 34 (omega arith)) (not 92 (omega arith)) (omega arith) in
    let same : script (escape_byte x) ≡ x ∷ [] = ap script plain ∙ rw (ne_eqb x 60 (not 60 (omega arith))) refl in
    let quote = ne_eqb x 34 (not 34 (omega arith)) in
    let backslash = ne_eqb x 92 (not 92 (omega arith)) in
    record {
      read = λ r. rw (same, quote, backslash, le-ltb x 32 (omega arith));
      lexed = λ r. rw (same, quote, backslash) (stays_inside (is_operator x) (is_space x) x r (λ m. lex m r));
    }

passes : (x : ℕ) → Passes x
passes x = elim (cases_lt x 93) [ inl l ↦ each_sound Passes 93 first_passes x l | inr l ↦ later_passes x l ]

script_more : (x : ℕ) (s r : List ℕ) → script (escape (x ∷ s)) ++ r ≡ script (escape_byte x) ++ (script (escape s) ++ r)
script_more x s r = ap (λ l. l ++ r) (flat_map-append script_byte (escape_byte x) (escape s)) ∙ append_assoc (script (escape_byte x)) (script (escape s)) r

pub content-script : (s r : List ℕ) → content plain (script (escape s) ++ 34 ∷ r) ≡ Some s
unfolding content
content-script [] r = refl
content-script (x ∷ s) r = ap (content plain) (script_more x s (34 ∷ r)) ∙ (passes x).read _ ∙ ap (prepend (x ∷ [])) (content-script s r)

pub lex-script : (s r : List ℕ) → lex in_string (script (escape s) ++ 34 ∷ r) ≡ lex between r
unfolding lex
lex-script [] r = refl
lex-script (x ∷ s) r = ap (lex in_string) (script_more x s (34 ∷ r)) ∙ (passes x).lexed _ ∙ lex-script s r
