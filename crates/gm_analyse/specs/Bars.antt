-- Counts as lines of text: with bars, as CSV, or as JSON.
use Rattle.std.specs.Prelude.{◌≡◌, ℕ, ◌+◌, max, Bool, true, false, List, [], ◌++◌, codes, take, Option, None, Some, ◌-◌, ◌*◌, ◌/◌, min, fold}
use Rattle.std.specs.Fmt.{decimal}
use Rattle.std.specs.List.{flat_map}
use Rattle.serde_json.specs.Data.{Data, string, object, member, no_members}
use Rattle.serde_json.specs.Written.{compact_text}
use Rattle.gm_game.specs.Rules.{Rules}
use Rattle.gm_play.specs.PlayTexts.{value_word}
use Rattle.gm_game.specs.Texts.{value_text_of}
use Rattle.gm_analyse.specs.declared.among.Among.{Among}
use Rattle.gm_analyse.specs.declared.bars.Form.{Form}
use Rattle.gm_analyse.specs.declared.bars.Form.TheVariants.{Bars, Csv, Json}
use Rattle.gm_analyse.specs.declared.by_tier.TierCount.{TierCount}
use Rattle.gm_analyse.specs.declared.counts.Count.{Count}
use Rattle.gm_analyse.specs.ByTier.{AreRows}
use Rattle.gm_analyse.specs.Tree.{whole}

-- the greatest of the numbers
abbrev pub greatest_number : List TierCount → ℕ
greatest_number xs = fold (λ m (x : TierCount). max x.count.number m) 0 xs

-- the longest bar
abbrev pub whole_bar : List ℕ
whole_bar = codes "########################################"

-- the length of a bar: 40 for the greatest number, and the same part of 40 for a lesser number, rounded up
abbrev pub bar_length : ℕ → ℕ → ℕ
bar_length greatest n = min 40 ((n * 40 + (max greatest 1 - 1)) / max greatest 1)

-- the row of a count: its value and remoteness, its number and its bar
abbrev pub count_row : ℕ → Count → List ℕ
count_row greatest c = (value_text_of c.value c.remoteness ++ codes "\t") ++ (decimal c.number ++ codes "\t") ++
    (take (bar_length greatest c.number) whole_bar ++ codes "\n")

-- the number of a tier before its rows, with what is after it; nothing if all tiers are counted together
abbrev pub tier_field : List ℕ → Option ℕ → List ℕ
tier_field after None = []
tier_field after (Some t) = decimal t ++ after

abbrev pub bar_row : ℕ → TierCount → List ℕ
bar_row greatest x = tier_field (codes "\t") x.tier ++ count_row greatest x.count

-- the names of the columns
abbrev pub csv_head : Bool → List ℕ
csv_head true = codes "tier,value,remoteness,positions\n"
csv_head false = codes "value,remoteness,positions\n"

abbrev pub csv_row : TierCount → List ℕ
csv_row x = tier_field (codes ",") x.tier ++ ((value_word x.count.value ++ codes ",") ++ (decimal x.count.remoteness ++ codes ",") ++
    (decimal x.count.number ++ codes "\n"))

-- a count as a JSON tree, its members in alphabetical order
abbrev pub row_tree : Option ℕ → Count → Data
row_tree None c =
    object (member (codes "positions") (whole c.number)
    (member (codes "remoteness") (whole c.remoteness)
    (member (codes "value") (string (value_word c.value)) no_members)))
row_tree (Some t) c =
    object (member (codes "positions") (whole c.number)
    (member (codes "remoteness") (whole c.remoteness)
    (member (codes "tier") (whole t)
    (member (codes "value") (string (value_word c.value)) no_members))))

abbrev pub json_row : TierCount → List ℕ
json_row x = compact_text (row_tree x.tier x.count) ++ codes "\n"

-- the rows in a form
abbrev pub rows_text : Form → Bool → List TierCount → List ℕ
rows_text Bars by_tier rows = flat_map (bar_row (greatest_number rows)) rows
rows_text Csv by_tier rows = csv_head by_tier ++ flat_map csv_row rows
rows_text Json by_tier rows = flat_map json_row rows

-- the rows of the counts of some tiers
abbrev pub IsCountsText : Rules → Among → Bool → Bool → Form → List ℕ → List ℕ → Type 0
IsCountsText r among reached by_tier form tiers out = (rows : List TierCount) × AreRows r among reached by_tier tiers rows × (out ≡ rows_text form by_tier rows)
