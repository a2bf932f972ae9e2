-- Objects and arrays, written part by part.
use Rattle.gm_json.proofs.Lower.{◌≡◌, ℕ, ◌<◌, ◌≤◌, Bool, true, List, [], ◌∷◌, ◌++◌, refl, sym, ap, ap₂, ◌∙◌, append_assoc, arith, utf8_lossy, quoted, Data, Members, member, comma_if, compact_text, items_text, members_text, value_word, member_text, item_text, key_text, ◌+◌, length, get_or, drop, map, items_of, drop_more, drop_all}
use Rattle.std.specs.List.{list_all}
use Rattle.gm_json.specs.inner.Parts.{is_clear}
use Rattle.std.proofs.Common.{zero, suc}
use Rattle.std.specs.Str.{IsAscii}
use Rattle.std.proofs.lemmas.Bool.{and_parts}
use Rattle.std.proofs.lemmas.Str.{utf8_lossy-IsUtf8, IsUtf8-from_ascii}
use Rattle.json.specs.Print.{escape}
use Rattle.serde_json.specs.Data.{Items, item}
use Rattle.gm_game.specs.declared.position.Value.{Value}
use Rattle.gm_game.specs.declared.position.Value.TheVariants.{Lose, Draw, Tie, Win}
use Rattle.json.proofs.Printed.Strings.{escape_byte_plain}

-- ---- strings
-- what the test of a byte says
pub record IsClear (b : ℕ) : Type 0 where
  pub low : 32 ≤ b
  pub high : b < 127
  pub quote : b ≡ 34 → ⊥
  pub slash : b ≡ 92 → ⊥

clear_is : (b : ℕ) → is_clear b ≡ true → IsClear b
clear_is b e = record { low = grind (arith, e); high = grind (arith, e); quote = λ q. grind (arith, e, q); slash = λ q. grind (arith, e, q) }

pub clear_escape : (xs : List ℕ) → list_all is_clear xs ≡ true → escape xs ≡ xs
clear_escape [] e = refl
clear_escape (x ∷ xs) e =
    let parts = and_parts (is_clear x) (list_all is_clear xs) e in
    let c = clear_is x parts.0 in
    ap₂ (λ (a b : List ℕ). a ++ b) (escape_byte_plain x c.quote c.slash c.low) (clear_escape xs parts.1)

pub word_clear : (v : Value) → list_all is_clear (value_word v) ≡ true
word_clear Lose = refl
word_clear Draw = refl
word_clear Tie = refl
word_clear Win = refl

-- every byte is ASCII
clear_low : (xs : List ℕ) → list_all is_clear xs ≡ true → IsAscii xs
clear_low [] e i = omega arith
clear_low (x ∷ xs) e zero = let h = (clear_is x (and_parts _ _ e).0).high in omega arith
clear_low (x ∷ xs) e (suc i) = clear_low xs (and_parts _ _ e).1 i

pub clear_lossy : (xs : List ℕ) → list_all is_clear xs ≡ true → utf8_lossy xs ≡ xs
clear_lossy xs e = utf8_lossy-IsUtf8 xs (IsUtf8-from_ascii xs (clear_low xs e))

pub clear_quoted : (old a b c text : List ℕ) → list_all is_clear text ≡ true → a ≡ old ++ 34 ∷ [] → b ≡ a ++ text → c ≡ b ++ 34 ∷ [] → c ≡ old ++ quoted text
clear_quoted old a b c text clear first second third =
    third ∙ ap (λ (l : List ℕ). l ++ 34 ∷ []) (second ∙ ap (λ (l : List ℕ). l ++ text) first) ∙ append_assoc (old ++ 34 ∷ []) text (34 ∷ []) ∙ append_assoc
    old (34 ∷ []) (text ++ 34 ∷ [])
    ∙ ap (λ (l : List ℕ). old ++ 34 ∷ (l ++ 34 ∷ [])) (sym (clear_escape text clear))

-- ---- objects and arrays
-- a bracket, and what follows it
pub opened : (old new : List ℕ) (b : ℕ) (rest : List ℕ) → new ≡ old ++ b ∷ [] → new ++ rest ≡ old ++ b ∷ rest
opened old new b rest e = ap (λ (l : List ℕ). l ++ rest) e ∙ append_assoc old (b ∷ []) rest

pub member_next : (old new : List ℕ) (later : Bool) (k : List ℕ) (d : Data) (ms : Members) → new ≡ old ++ member_text later k d → new ++ members_text true
    ms ≡ old ++ members_text later (member k d ms)
member_next old new later k d ms e =
    let rest = members_text true ms in
    ap (λ (l : List ℕ). l ++ rest) e
    ∙ append_assoc old (member_text later k d) rest
    ∙ ap (λ (l : List ℕ). old ++ l) (append_assoc (comma_if later) (quoted k ++ 58 ∷ compact_text d) rest ∙ ap (λ (l : List ℕ). comma_if later ++ l)
    (append_assoc (quoted k) (58 ∷ compact_text d) rest))

pub item_next : (old new : List ℕ) (later : Bool) (d : Data) (ds : Items) → new ≡ old ++ item_text later d → new ++ items_text true ds ≡ old ++ items_text
    later (item d ds)
item_next old new later d ds e =
    let rest = items_text true ds in
    ap (λ (l : List ℕ). l ++ rest) e ∙ append_assoc old (item_text later d) rest ∙ ap (λ (l : List ℕ). old ++ l)
    (append_assoc (comma_if later) (compact_text d) rest)

-- one more of some things, whose trees are the items of an array
pub items_more : {X : Type 0} (tree : X → Data) (xs : List X) (k : ℕ) (d : X) (old new : List ℕ) (later : Bool) (all : List ℕ) → k < length xs
    → new ≡ old ++ item_text later (tree (get_or xs k d)) → old ++ items_text later (items_of (map tree (drop k xs))) ≡ all
    → new ++ items_text true (items_of (map tree (drop (k + 1) xs))) ≡ all
items_more tree xs k d old new later all l n h =
    item_next old new later (tree (get_or xs k d)) (items_of (map tree (drop (k + 1) xs))) n
    ∙ ap (λ (ys : List _). old ++ items_text later (items_of (map tree ys))) (sym (drop_more xs k d l)) ∙ h

-- the bracket after all of them
pub items_end : {X : Type 0} (tree : X → Data) (xs : List X) (k : ℕ) (old new : List ℕ) (later : Bool) (all : List ℕ) → length xs ≤ k → new ≡ old ++ 93 ∷ []
    → old ++ items_text later (items_of (map tree (drop k xs))) ≡ all → new ≡ all
items_end tree xs k old new later all l n h =
    n ∙ ap (λ (ys : List _). old ++ items_text later (items_of (map tree ys))) (sym (drop_all k xs l)) ∙ h

-- a key and then its value
pub value_after : (old mid new : List ℕ) (later : Bool) (k v : List ℕ) (d : Data) → mid ≡ old ++ key_text later k → new ≡ mid ++ v → v ≡ compact_text d →
    new ≡ old ++ member_text later k d
value_after old mid new later k v d m n e =
    n ∙ ap₂ (λ (a b : List ℕ). a ++ b) m e ∙ append_assoc old (key_text later k) (compact_text d)
    ∙ ap (λ (l : List ℕ). old ++ l) (append_assoc (comma_if later) (quoted k ++ 58 ∷ []) (compact_text d) ∙ ap (λ (l : List ℕ). comma_if later ++ l)
    (append_assoc (quoted k) (58 ∷ []) (compact_text d)))
