-- The output of `list`.
use Rattle.std.specs.Prelude.{◌≡◌, ℕ, Bool, true, false, List, ◌++◌, map, codes, Option, Some, None, Result}
use Rattle.std.specs.List.{flat_map}
use Rattle.serde_json.specs.Data.{Data, null, object, member, no_members}
use Rattle.gm_command.specs.declared.names.GameName.{GameName}
use Rattle.gm_command.specs.declared.names.TheConstants.{GAMES, LATER_GAMES}
use Rattle.gm_command.specs.declared.requests.ListForm.{ListForm}
use Rattle.gm_command.specs.declared.requests.ListForm.TheVariants.{Names, Titles, Json}
use Rattle.gm_game.specs.declared.position.Value.{Value}
use Rattle.gm_json.specs.Words.{text, whole, line_of}
use Rattle.gm_play.specs.PlayTexts.{value_word}
use Rattle.gamesman.specs.declared.catalog.TheConstants.{ROWS, LATER_ROWS}
use Rattle.gamesman.specs.declared.fault.Fault.{Fault}
use Rattle.gamesman.specs.declared.listing.Entry.{Entry}
use Rattle.gamesman.specs.declared.listing.Texts.{Texts}
use Rattle.gamesman.specs.Games.{GameSpec, spec_of}
use Rattle.gamesman.specs.Told.{IsMemoryFault, IsPut, IsTold}

-- the names of the games that were added later, one in each line
abbrev pub listed_later : List ℕ
listed_later = flat_map (λ game. game.0.now ++ codes "\n") LATER_GAMES

-- the names of the games, one in each line; on request, also the names of those that were added later
abbrev pub listed_names : Bool → List ℕ
listed_names false = flat_map (λ game. game.0.now ++ codes "\n") GAMES
listed_names true = flat_map (λ game. game.0.now ++ codes "\n") GAMES ++ listed_later

-- what the table has of a game
pub record EntryData : Type 0 where
  pub name : List ℕ
  pub game : GameName
  pub family : List ℕ
  pub value : Value
  pub remoteness : Option ℕ
  pub legal : ℕ

-- the entry of a row
abbrev pub entry_data : List ℕ → GameName → List ℕ → Value → Option ℕ → ℕ → EntryData
entry_data name game family value remoteness legal =
    record { name = name; game = game; family = family; value = value; remoteness = remoteness; legal = legal }

abbrev pub data_of : Entry → EntryData
data_of e = entry_data e.name.now e.game e.family.now e.value e.remoteness e.legal

-- these are the texts of the game's start and its title
abbrev pub AreTextsOf : GameSpec → Texts → Type 0
AreTextsOf g t = (t.start.items ≡ g.shown g.rules.initial) × (t.title.now ≡ g.picture.title)

-- the tables of rows have the games of the tables of names, in their order
abbrev pub AreTheGames : Type 0
AreTheGames = (map {B = List ℕ × GameName} (λ row. (row.0.now, row.1)) ROWS ≡ map {B = List ℕ × GameName} (λ game. (game.0.now, game.1)) GAMES)
    × (map {B = List ℕ × GameName} (λ row. (row.0.now, row.1)) LATER_ROWS ≡ map {B = List ℕ × GameName} (λ game. (game.0.now, game.1)) LATER_GAMES)

abbrev pub whole_or_null : Option ℕ → Data
whole_or_null None = null
whole_or_null (Some n) = whole n

-- a game with what the table has of it, its start and its title; the members in alphabetical order
abbrev pub entry_tree : EntryData → List ℕ → List ℕ → Data
entry_tree e start title =
    object (member (codes "family") (text e.family)
    (member (codes "legal") (whole e.legal)
    (member (codes "name") (text e.name)
    (member (codes "remoteness") (whole_or_null e.remoteness)
    (member (codes "start") (text start)
    (member (codes "title") (text title)
    (member (codes "value") (text (value_word e.value)) no_members)))))))

-- a game's name and its title
abbrev pub title_line : EntryData → List ℕ → List ℕ
title_line e title = e.name ++ (codes "\t" ++ (title ++ codes "\n"))

-- the line of a game: in JSON, or with its title
abbrev pub listed_text : Bool → EntryData → List ℕ → List ℕ → List ℕ
listed_text true e start title = line_of (entry_tree e start title)
listed_text false e start title = title_line e title

-- the line of a game, with its start and its title
abbrev pub entry_line : Bool → EntryData → List ℕ
entry_line json e = let g = spec_of e.game in listed_text json e (g.shown g.rules.initial) g.picture.title

-- a line for each game; on request, also for those that were added later
abbrev pub listed_lines : Bool → Bool → List ℕ
listed_lines json false = flat_map (λ row. entry_line json (entry_data row.0.now row.1 row.2.now row.3 row.4 row.5)) ROWS
listed_lines json true = flat_map (λ row. entry_line json (entry_data row.0.now row.1 row.2.now row.3 row.4 row.5)) ROWS
    ++ flat_map (λ row. entry_line json (entry_data row.0.now row.1 row.2.now row.3 row.4 row.5)) LATER_ROWS

-- lines of the games are written, unless memory for them is refused
abbrev pub AreListed : Bool → Bool → Option (List ℕ) → Option (List ℕ) → Result ℕ Fault → Type 0
AreListed json all before after result = IsTold (λ out. out ≡ listed_lines json all) IsMemoryFault before after result

-- the games are listed: their names, the names with the titles, or lines of JSON
abbrev pub IsListed : Bool → ListForm → Option (List ℕ) → Option (List ℕ) → Result ℕ Fault → Type 0
IsListed all Names before after result = IsPut (listed_names all) before after result
IsListed all Titles before after result = AreListed false all before after result
IsListed all Json before after result = AreListed true all before after result
