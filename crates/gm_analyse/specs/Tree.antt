-- An analysis as a JSON tree.
use Rattle.std.specs.Prelude.{ℕ, ◌==◌, List, map, codes, Option, None, Some}
use Rattle.serde_json.specs.Data.{Data, string, object, member, no_members, null, number, unsigned, array, item, no_items}
use Rattle.gm_play.specs.PlayTexts.{value_word}
use Rattle.std.specs.List.{before_first}
use Rattle.serde_json.specs.View.{items_of}
use Rattle.gm_analyse.specs.declared.counts.Count.{Count}
use Rattle.gm_analyse.specs.declared.analysis.Analysis.{Analysis}

-- the text of a padded name: the bytes before the first zero
abbrev pub name_text : List ℕ → List ℕ
name_text bs = before_first (λ b. b == 0) bs

abbrev pub whole : ℕ → Data
whole n = number (unsigned n)

-- a count: the word of its value, its remoteness and its number
abbrev pub count_tree : Count → Data
count_tree c = array (item (string (value_word c.value)) (item (whole c.remoteness) (item (whole c.number) no_items)))

abbrev pub counts_tree : List Count → Data
counts_tree cs = array (items_of (map count_tree cs))

-- the longest win: its remoteness and its index, or null if there is none
abbrev pub longest_tree : Option (ℕ × ℕ) → Data
longest_tree None = null
longest_tree (Some l) = array (item (whole l.0) (item (whole l.1) no_items))

-- an analysis, with its members in alphabetical order
abbrev pub analysis_tree : List ℕ → Analysis → Data
analysis_tree game a =
    object (member (codes "canonical") (whole a.canonical)
    (member (codes "counts") (counts_tree a.counts)
    (member (codes "game") (string game)
    (member (codes "legal") (whole a.legal)
    (member (codes "longest_win") (longest_tree a.longest_win)
    (member (codes "size") (whole a.size)
    (member (codes "tier") (whole a.tier) no_members)))))))
