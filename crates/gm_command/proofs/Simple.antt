-- The command line of the program is simple, and its words have no rules on one another.
use Rattle.std.proofs.Common.{◌≡◌, ◌&&◌, Bool, true, refl, ap₂, List, [], ◌∷◌, ◌++◌, map}
use Rattle.std.specs.List.{list_all}
use Rattle.clap.specs.Words.{is_simple, is_simple_and_free}
use Rattle.clap.specs.Simple.{is_ready_leaf, is_simple_leaf, built, built_leaf, inherited, help_shape}
use Rattle.clap.specs.Faults.{has_free_rules, is_free_app}
use Rattle.gm_command.specs.Lines.{Line}
use Rattle.gm_command.specs.Parsers.{app_of_lines, shape_of_line}
use Rattle.gm_command.proofs.Bools.{both}
use Rattle.gm_command.proofs.Rules.{above, leaf_free, leaf_ready, leaf_simple}

leaves_simple : (lines : List Line) → list_all is_simple_leaf (map shape_of_line lines) ≡ true
leaves_simple [] = refl
leaves_simple (l ∷ ls) = both _ _ (leaf_simple l) (leaves_simple ls)

leaves_ready : (lines : List Line) → list_all is_ready_leaf (map built_leaf (map (inherited above) (map shape_of_line lines) ++ help_shape ∷ [])) ≡ true
leaves_ready [] = refl
leaves_ready (l ∷ ls) = both _ _ (leaf_ready l) (leaves_ready ls)

leaves_free : (lines : List Line) → list_all has_free_rules (map built_leaf (map (inherited above) (map shape_of_line lines) ++ help_shape ∷ [])) ≡ true
leaves_free [] = refl
leaves_free (l ∷ ls) = both _ _ (leaf_free l) (leaves_free ls)

pub app_simple : (lines : List Line) → is_simple (app_of_lines lines) ≡ true
app_simple lines = ap₂ (λ (x y : Bool). x && y) (leaves_simple lines) (leaves_ready lines)

app_free : (lines : List Line) → is_free_app (built (app_of_lines lines)) ≡ true
app_free lines = leaves_free lines

pub app_simple_and_free : (lines : List Line) → is_simple_and_free (app_of_lines lines) ≡ true
app_simple_and_free lines = both _ _ (app_simple lines) (app_free lines)
