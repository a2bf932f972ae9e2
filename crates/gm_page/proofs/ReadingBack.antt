-- Lines of a page are read as the trees that they were written from.
use Rattle.gm_page.proofs.Lower.{◌≡◌, ℕ, ◌<◌, ◌≤◌, Bool, true, false, cond, List, [], ◌∷◌, ◌++◌, Some, refl, sym, ap, ap₂, ◌∙◌, subst, arith, Data, script_byte, script_line}
use Rattle.std.proofs.lemmas.Bool.{ne_eqb}
use Rattle.std.proofs.lemmas.Grind.{flat_map-append}
use Rattle.serde_json.specs.Read.{read, of_json, max_depth}
use Rattle.serde_json.specs.Written.{outline, compact_text}
use Rattle.std.proofs.Common.{option_and_then, ◌&&◌, append_assoc, append-nil}
use Rattle.std.specs.Char.{digit_value}
use Rattle.std.specs.Str.Parse.{AllDigits}
use Rattle.json.specs.Token.{Token}
use Rattle.json.specs.Word.{ends_word, word}
use Rattle.json.specs.Tree.{json_tokens}
use Rattle.json.proofs.Printed.Numbers.{in_word-ended, lex-number}
use Rattle.json.proofs.Printed.Strings.{content-escape, lex-escape}
use Rattle.json.proofs.Printed.Tokens.{tokens-print}
use Rattle.json.proofs.Printed.Trees.{value-json_tokens}
use Rattle.serde_json.proofs.Texts.{print-outline}
use Rattle.json.specs.Print.{escape, quoted, IsPrintable, ArePrintable, token_text, separator, begins, ends, print, print_from}
use Rattle.json.specs.Lex.{Lexeme, between, in_word, token, string_token, lex, fresh, punctuate, tokens}
use Rattle.gm_page.specs.Scripts.{script_text}
use Rattle.gm_page.proofs.Quoting.{script, content-script, lex-script}
use Rattle.json.specs.Json as json
use Rattle.json.specs.Tree as tree

-- ---- tokens
-- the text of a number
abbrev pub digits_of : Token → List ℕ
digits_of (Token.number s) = s
digits_of t = []

-- the token can be written, and no byte of a number is escaped
abbrev pub IsFine : Token → Type 0
IsFine t = IsPrintable t × (script (digits_of t) ≡ digits_of t)

abbrev pub AreFine : List Token → Type 0
AreFine [] = Unit {0}
AreFine (t ∷ ts) = IsFine t × AreFine ts

are_printable : (ts : List Token) → AreFine ts → ArePrintable ts
unfolding ArePrintable
are_printable [] h = tt
are_printable (t ∷ ts) h = (h.0.0, are_printable ts h.1)

digit_is : (d : ℕ) → digit_value d < 10 → d ≡ 60 → ⊥
digit_is d h e = (let k : digit_value 60 < 10 = subst (λ (n : ℕ). digit_value n < 10) e h in omega arith)

pub digits_same : (ds : List ℕ) → AllDigits 10 ds → script ds ≡ ds
digits_same [] h = refl
digits_same (d ∷ ds) h = ap (λ b. cond b (script_byte 60) (d ∷ []) ++ script ds) (ne_eqb d 60 (digit_is d h.0)) ∙ ap (λ l. d ∷ l) (digits_same ds h.1)

-- ---- the lexer
script_two : (xs ys r : List ℕ) → script (xs ++ ys) ++ r ≡ script xs ++ (script ys ++ r)
script_two xs ys r = ap (λ l. l ++ r) (flat_map-append script_byte xs ys) ∙ append_assoc (script xs) (script ys) r

lex_string : (x r s : List ℕ) → lex between r ≡ lex between s → lex between (script (quoted x) ++ r) ≡ lex between (quoted x ++ s)
unfolding lex
lex_string x r s h =
    let mine = ap (λ l. lex between (34 ∷ l)) (script_two (escape x) (34 ∷ []) r) ∙ ap₂ (λ o l. token (string_token o) ∷ l) (content-script x r)
    (lex-script x r) in
    let plain = ap (λ l. lex between (34 ∷ l)) (append_assoc (escape x) (34 ∷ []) s) ∙ ap₂ (λ o l. token (string_token o) ∷ l) (content-escape x s)
    (lex-escape x s) in
    mine ∙ ap (λ l. token (Token.string x) ∷ l) h ∙ sym plain

-- both texts end a word
abbrev End : List ℕ → List ℕ → Type 0
End r s = (ends_word r ≡ true) × (ends_word s ≡ true)

lex_word : (k : Bool → Token) (r s : List ℕ) → End r s → lex between r ≡ lex between s
    → token (k (ends_word r)) ∷ lex in_word r ≡ token (k (ends_word s)) ∷ lex in_word s
lex_word k r s e h = ap₂ (λ b l. token (k b) ∷ l) (e.0 ∙ sym e.1) (in_word-ended r e.0 ∙ h ∙ sym (in_word-ended s e.1))

lex_token : (t : Token) (r s : List ℕ) → IsFine t → (ends t ≡ true → End r s) → lex between r ≡ lex between s
    → lex between (script (token_text t) ++ r) ≡ lex between (token_text t ++ s)
unfolding lex word
lex_token (Token.key x) r s f e h =
    ap (lex between) (script_two (quoted x) (58 ∷ []) r) ∙ lex_string x (58 ∷ r) (58 ∷ s) (ap (λ l. Lexeme.colon ∷ l) h)
    ∙ ap (lex between) (sym (append_assoc (quoted x) (58 ∷ []) s))
lex_token (Token.string x) r s f e h = lex_string x r s h
lex_token (Token.number x) r s f e h =
    ap (λ l. lex between (l ++ r)) f.1 ∙ lex-number x r f.0 (e refl).0 ∙ ap (λ l. token (Token.number x) ∷ l) h ∙ sym (lex-number x s f.0 (e refl).1)
lex_token (Token.boolean true) r s f e h = lex_word (λ b. cond b (Token.boolean true) Token.bad) r s (e refl) h
lex_token (Token.boolean false) r s f e h = lex_word (λ b. cond b (Token.boolean false) Token.bad) r s (e refl) h
lex_token Token.null r s f e h = lex_word (λ b. cond b Token.null Token.bad) r s (e refl) h
lex_token Token.bad r s f e h = absurd f.0
lex_token t r s f e h = ap (λ l. token t ∷ l) h

lex_comma : (later : Bool) (r s : List ℕ) → lex between r ≡ lex between s
    → lex between (script (cond later (44 ∷ []) []) ++ r) ≡ lex between (cond later (44 ∷ []) [] ++ s)
unfolding lex
lex_comma true r s h = ap (λ l. Lexeme.comma ∷ l) h
lex_comma false r s h = h

-- what follows a value ends a word
after_value : (ts : List Token) → End (script (print_from true ts) ++ 10 ∷ []) (print_from true ts)
unfolding print_from
after_value [] = (refl, refl)
after_value (Token.end_array ∷ ts) = (refl, refl)
after_value (t ∷ ts) = (refl, refl)

-- a line of tokens is read as their text is
lex_print : (c : Bool) (ts : List Token) → AreFine ts → lex between (script (print_from c ts) ++ 10 ∷ []) ≡ lex between (print_from c ts)
unfolding lex print_from
lex_print c [] h = refl
lex_print c (t ∷ ts) h =
    let rest = print_from (ends t) ts in
    ap (lex between) (script_two (separator c t) (token_text t ++ rest) (10 ∷ [])
    ∙ ap (λ l. script (separator c t) ++ l) (script_two (token_text t) rest (10 ∷ [])))
    ∙ lex_comma (c && begins t) (script (token_text t) ++ (script rest ++ 10 ∷ [])) (token_text t ++ rest)
    (lex_token t (script rest ++ 10 ∷ []) rest h.0
    (λ e. subst (λ (b : Bool). End (script (print_from b ts) ++ 10 ∷ []) (print_from b ts)) (sym e) (after_value ts)) (lex_print (ends t) ts h.1))

pub read_line : (d : Data) → AreFine (json_tokens (outline d)) → tree.depth (outline d) ≤ max_depth → of_json (outline d) ≡ Some d
    → read (script_line d) ≡ Some d
unfolding script_text
read_line d fine shallow same =
    let ts = json_tokens (outline d) in
    let line : script_line d ≡ script (print ts) ++ 10 ∷ [] = flat_map-append script_byte (compact_text d) (10 ∷ [])
    ∙ ap (λ t. script t ++ 10 ∷ []) (sym (print-outline d)) in
    let is : tokens (script_line d) ≡ ts ++ [] = ap tokens line
    ∙ ap (punctuate fresh) (lex_print false ts fine) ∙ tokens-print ts (are_printable ts fine) ∙ sym (append-nil ts) in
    ap (λ o. option_and_then of_json (option_and_then (λ p. json.if_last p.0 p.1) o))
    (ap (json.value max_depth) is ∙ value-json_tokens (outline d) max_depth [] shallow) ∙ same
