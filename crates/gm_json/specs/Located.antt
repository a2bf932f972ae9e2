-- Where a position is, as a JSON tree.
use Rattle.std.specs.Prelude.{ℕ, List, codes}
use Rattle.serde_json.specs.Data.{Data, object, member, no_members}
use Rattle.gm_game.specs.declared.position.Position.{Position}
use Rattle.gm_play.specs.declared.places.Located.{Located}
use Rattle.gm_json.specs.Extras.{canonical_tree, place_members}

-- a position with its place, and its canonical position with that one's
abbrev pub located_tree : (Position → List ℕ) → Located → Data
located_tree shown l = object (place_members shown l.position (member (codes "canonical") (canonical_tree shown l.canonical) no_members))
