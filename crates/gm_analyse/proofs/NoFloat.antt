-- The trees of an analysis and of a count have no float.
use Rattle.gm_analyse.proofs.Lower.{◌≡◌, ℕ, false, List, [], ◌∷◌, map, Option, None, Some, refl, Count, count_tree}
use Rattle.serde_json.specs.Data.{Data}
use Rattle.serde_json.specs.View.{items_of}
use Rattle.gm_analyse.specs.Tree.{analysis_tree, longest_tree}
use Rattle.serde_json.specs.Written.{has_float, items_have_float}
use Rattle.gm_analyse.specs.declared.analysis.Analysis.{Analysis}
use Rattle.gm_analyse.specs.Bars.{row_tree}

counts_no_float : (cs : List Count) → items_have_float (items_of (map count_tree cs)) ≡ false
counts_no_float [] = refl
counts_no_float (c ∷ cs) = counts_no_float cs

longest_no_float : (l : Option (ℕ × ℕ)) → has_float (longest_tree l) ≡ false
longest_no_float None = refl
longest_no_float (Some l) = refl

pub tree_no_float : (game : List ℕ) (a : Analysis) → has_float (analysis_tree game a) ≡ false
tree_no_float game a = rw (counts_no_float a.counts, longest_no_float a.longest_win) refl

tree_of_row : (tier : Option ℕ) (c : Count) → has_float (row_tree tier c) ≡ false
tree_of_row None c = refl
tree_of_row (Some t) c = refl

pub row_no_float : (d : Data) (tier : Option ℕ) (c : Count) → d ≡ row_tree tier c → has_float d ≡ false
row_no_float d tier c e = rw e (tree_of_row tier c)
