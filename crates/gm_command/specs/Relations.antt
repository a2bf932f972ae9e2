-- The words of a line that need or bar each other.
use Rattle.std.specs.Prelude.{ℕ, ◌&&◌, ◌||◌, not, Bool, true, List, [], ◌∷◌, Option, Some, None, codes, if◌then◌else◌}
use Rattle.std.specs.List.{list_all, list_any}
use Rattle.std.specs.Str.{bytes_eq}
use Rattle.clap.specs.Words.{Row}
use Rattle.gm_command.specs.Given.{given}
use Rattle.gm_command.specs.Lines.{Kind, Word, place_unless}

-- the option without which the one of this name has no meaning
abbrev pub needed_for : List ℕ → Option (List ℕ)
needed_for name =
    if bytes_eq name (codes "read-only") then Some (codes "folder")
    else (if bytes_eq name (codes "no-value") || bytes_eq name (codes "figures") || bytes_eq name (codes "arrow") then Some (codes "svg")
    else (if bytes_eq name (codes "seed") then Some (codes "random")
    else (if bytes_eq name (codes "per-move") || bytes_eq name (codes "orient") then Some (codes "spread")
    else (if bytes_eq name (codes "all") then Some (codes "engine")
    else None))))

-- the words that the one of this name can't be combined with
abbrev pub barred_for : List ℕ → List (List ℕ)
barred_for name =
    if bytes_eq name (codes "all") then codes "GAME" ∷ codes "POSITION" ∷ codes "limit" ∷ codes "folder" ∷ codes "quiet" ∷ []
    else (if bytes_eq name (codes "limit") then codes "random" ∷ []
    else (if bytes_eq name (codes "sort") then codes "random" ∷ []
    else (if bytes_eq name (codes "csv") then codes "json" ∷ []
    else (if bytes_eq name (codes "titles") then codes "json" ∷ []
    else (if bytes_eq name (codes "page") then codes "json" ∷ codes "show" ∷ []
    else (if bytes_eq name (codes "show") then codes "json" ∷ []
    else (if bytes_eq name (codes "svg") then codes "json" ∷ codes "tikz" ∷ []
    else (if bytes_eq name (codes "tikz") then codes "json" ∷ []
    else (if bytes_eq name (codes "quiet") then codes "progress" ∷ []
    else (if bytes_eq name (codes "values") then codes "distinct" ∷ []
    else (if bytes_eq name (codes "own-moves") then codes "no-value" ∷ []
    else (if bytes_eq name (codes "caption") then codes "no-value" ∷ codes "own-moves" ∷ []
    else []))))))))))))

-- one of the names is this one
abbrev pub is_among : List (List ℕ) → List ℕ → Bool
is_among all name = list_any (λ other. bytes_eq other name) all

abbrev pub has_named : List Word → List ℕ → Bool
has_named words name = list_any (λ w. bytes_eq w.name name) words

-- two words can't be combined
abbrev pub bar : List ℕ → List ℕ → Bool
bar one other = is_among (barred_for one) other || is_among (barred_for other) one

module _ (rows : List Row) (words : List Word) where
  -- a word that is given can't be combined with the one of this name
  abbrev pub is_barred : List ℕ → Bool
  is_barred name = list_any (λ w. given rows w.name && bar w.name name) words

  -- what an option needs is given; it may be missing if it is barred, or if the command doesn't have it
  abbrev pub is_met : Option (List ℕ) → Bool
  is_met None = true
  is_met (Some needed) = not (has_named words needed) || (given rows needed || is_barred needed)

  -- the word with this name may be missing
  abbrev pub may_miss : Kind → Bool
  may_miss (place_unless option) = given rows option
  may_miss _ = true

  -- the word goes with the others
  abbrev pub goes_with : Word → Bool
  goes_with w = if given rows w.name then not (is_barred w.name) && is_met (needed_for w.name) else may_miss w.kind

  -- the words go with each other
  abbrev pub are_related : Bool
  are_related = list_all goes_with words
