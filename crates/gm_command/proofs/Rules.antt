-- What clap is told of the words of a command.
use Rattle.std.proofs.Common.{◌≡◌, ◌&&◌, not, ℕ, Bool, true, false, refl, ap₂, List, [], ◌∷◌, ◌++◌, map}
use Rattle.std.specs.List.{list_all, list_any}
use Rattle.clap.specs.Words.{Rule, Shape}
use Rattle.clap.specs.Walk.{is_early_multiple, is_multiple}
use Rattle.clap.specs.Simple.{filled, filled_from, help_rule, index_after, with_index, is_ready_leaf, is_simple_leaf, built_leaf, inherited, marked_built, with_leaf_noted}
use Rattle.clap.specs.Faults.{has_free_rules}
use Rattle.gm_command.specs.Lines.{Kind, Word, Line, place, place_unless, place_optional, flag, text, number, tier}
use Rattle.gm_command.specs.Parsers.{program, rule_of_kind, rule_of_word, shape_of_line}
use Rattle.gm_command.proofs.Bools.{both, left, right, middle_false, neither, all_append}

kind_simple : (name : List ℕ) (kind : Kind) → (rule_of_kind name kind).is_simple ≡ true
kind_simple name place = refl
kind_simple name (place_unless option) = refl
kind_simple name place_optional = refl
kind_simple name flag = refl
kind_simple name (text required) = refl
kind_simple name (number least most default) = refl
kind_simple name tier = refl

kind_free : (name : List ℕ) (kind : Kind) → (rule_of_kind name kind).is_free ≡ true
kind_free name place = refl
kind_free name (place_unless option) = refl
kind_free name place_optional = refl
kind_free name flag = refl
kind_free name (text required) = refl
kind_free name (number least most default) = refl
kind_free name tier = refl

kind_single : (name : List ℕ) (kind : Kind) (i : ℕ) → is_multiple (with_index i (filled (rule_of_kind name kind))) ≡ false
kind_single name place i = refl
kind_single name (place_unless option) i = refl
kind_single name place_optional i = refl
kind_single name flag i = refl
kind_single name (text required) i = refl
kind_single name (number least most default) i = refl
kind_single name tier i = refl

-- the words of a command are simple, and have no rule on one another
pub rules_simple : (ws : List Word) → list_all (λ r. r.is_simple) (map rule_of_word ws) ≡ true
rules_simple [] = refl
rules_simple (w ∷ ws) = both _ _ (kind_simple w.name w.kind) (rules_simple ws)

rules_free : (ws : List Word) → list_all (λ r. r.is_free) (map rule_of_word ws) ≡ true
rules_free [] = refl
rules_free (w ∷ ws) = both _ _ (kind_free w.name w.kind) (rules_free ws)

filled_simple : (rs : List Rule) (i : ℕ) → list_all (λ r. r.is_simple) rs ≡ true → list_all (λ r. r.is_simple) (filled_from i rs) ≡ true
filled_simple [] i h = refl
filled_simple (r ∷ rs) i h = both _ _ (left r.is_simple _ h) (filled_simple rs (index_after i r) (right r.is_simple _ h))

filled_free : (rs : List Rule) (i : ℕ) → list_all (λ r. r.is_free) rs ≡ true → list_all (λ r. r.is_free) (filled_from i rs) ≡ true
filled_free [] i h = refl
filled_free (r ∷ rs) i h = both _ _ (left r.is_free _ h) (filled_free rs (index_after i r) (right r.is_free _ h))

-- no word but the last takes several values, since none does
not_early : (n : ℕ) (ws : List Word) (i : ℕ) → list_any (is_early_multiple n) (filled_from i (map rule_of_word ws ++ help_rule ∷ [])) ≡ false
not_early n [] i = refl
not_early n (w ∷ ws) i = neither _ _ (middle_false _ _ _ (kind_single w.name w.kind i)) (not_early n ws (index_after i (rule_of_word w)))

abbrev pub above : Shape
above = with_leaf_noted (marked_built program)

-- what clap is told of a command is simple, before it is built and afterwards, and has no rules of words on one another
pub leaf_simple : (l : Line) → is_simple_leaf (shape_of_line l) ≡ true
leaf_simple l = rules_simple l.words

pub leaf_ready : (l : Line) → is_ready_leaf (built_leaf (inherited above (shape_of_line l))) ≡ true
leaf_ready l =
    let rules = map rule_of_word l.words in
    ap₂ (λ (x y : Bool). x && not y) (filled_simple (rules ++ help_rule ∷ []) 1 (all_append _ rules (help_rule ∷ []) (rules_simple l.words) refl))
    (not_early _ l.words 1)

pub leaf_free : (l : Line) → has_free_rules (built_leaf (inherited above (shape_of_line l))) ≡ true
leaf_free l =
    let rules = map rule_of_word l.words in
    filled_free (rules ++ help_rule ∷ []) 1 (all_append _ rules (help_rule ∷ []) (rules_free l.words) refl)
