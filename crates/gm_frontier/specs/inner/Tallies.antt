-- Tallies: the number of a piece's pairs into each tile of a tier.
use Rattle.std.specs.Prelude.{◌≡◌, ℕ, ◌+◌, ◌/◌, ◌<◌, ◌≤◌, ◌⊎◌, ◌==◌, if◌then◌else◌, List, [], ◌∷◌, map, length, slice_index, zero, suc, ◌*◌, min}
use Rattle.std.specs.List.{Contains, flat_map}
use Rattle.std.specs.Int.{div_ceil}
use Rattle.gm_game.specs.declared.position.Place.{Place}
use Rattle.gm_game.specs.Rules.{Rules}
use Rattle.gm_game.specs.Numbers.{ListsExactly}
use Rattle.gm_frontier.specs.Notes.{NoteData}
use Rattle.gm_frontier.specs.Levels.{LevelData, IsLevel}
use Rattle.gm_frontier.specs.Pairs.{pairs_of, piece_of}

-- what a tally shows
pub record TallyData : Type 0 where
  pub place : Place
  pub piece : ℕ
  pub n : ℕ
  pub width : ℕ
  pub counts : List ℕ

-- tile k of a tier of this size: the indexes from its start up to its end, which is cut at the size
abbrev pub tile_start : ℕ → ℕ → ℕ
tile_start width k = k * width

abbrev pub tile_end : ℕ → ℕ → ℕ → ℕ
tile_end size width k = min (suc k * width) size

-- n numbers from k on
abbrev pub numbers_from : ℕ → ℕ → List ℕ
numbers_from k zero = []
numbers_from k (suc n) = k ∷ numbers_from (suc k) n

-- the pairs of all pieces of n notes into all tiles of this width, tile after tile and piece after piece
abbrev pub tiled_pairs : Rules → ℕ → List NoteData → ℕ → ℕ → List (NoteData × ℕ)
tiled_pairs r tier notes n width =
    flat_map (λ piece.
    flat_map (λ tile. pairs_of r tier (tile_start width tile) (tile_end (r.tier_size tier) width tile) (piece_of piece n notes))
    (numbers_from 0 (div_ceil (r.tier_size tier) width)))
    (numbers_from 0 (div_ceil (length notes) n))

-- how many pairs a piece has into a range
abbrev pub number_into : Rules → ℕ → ℕ → ℕ → List NoteData → ℕ
number_into r tier lo hi notes = length (pairs_of r tier lo hi notes)

-- how many of the pairs have their parent in tile k, where the tiles have no end
abbrev pub tile_count : ℕ → ℕ → List (NoteData × ℕ) → ℕ
tile_count width k [] = 0
tile_count width k (pair ∷ pairs) = (if pair.1 / width == k then 1 else 0) + tile_count width k pairs

-- one entry per tile: the number of the notes' pairs into it
pub record AreCounts (r : Rules) (tier width : ℕ) (notes : List NoteData) (counts : List ℕ) : Type 0 where
  pub whole : length counts ≡ div_ceil (r.tier_size tier) width
  pub each : (k : ℕ) → k < length counts → slice_index counts k ≡ number_into r tier (tile_start width k) (tile_end (r.tier_size tier) width k) notes

-- the counts are those of a piece of the level at the place
pub record IsTally (r : Rules) (t : TallyData) : Type 0 where
  pub notes : List NoteData
  pub level : IsLevel r t.place notes
  pub some_notes : 0 < t.n
  pub some_width : 0 < t.width
  pub counts : AreCounts r t.place.tier t.width (piece_of t.piece t.n notes) t.counts

-- the tally is of this piece of the level, for tiles of this width
pub record IsTallyOf (r : Rules) (level : LevelData) (number size_of tile_width : ℕ) (t : TallyData) : Type 0 where
  pub place : t.place ≡ level.place
  pub piece : t.piece ≡ number
  pub n : t.n ≡ size_of
  pub width : t.width ≡ tile_width
  pub counts : AreCounts r level.place.tier tile_width (piece_of number size_of level.notes) t.counts

-- the range is a tile, or has no index
abbrev pub IsTallyTile : ℕ → ℕ → ℕ → ℕ → Type 0
IsTallyTile size width lo hi = (hi ≤ lo) ⊎ ((k : ℕ) × (lo ≡ tile_start width k) × (hi ≡ tile_end size width k))

-- the tallies of a level's pieces, in order
pub record AreAllTallies (level : LevelData) (n width : ℕ) (tallies : List TallyData) : Type 0 where
  pub alike : (t : TallyData) → Contains tallies t → (t.place ≡ level.place) × (t.n ≡ n) × (t.width ≡ width)
  pub pieces : map (λ t. t.piece) tallies ≡ numbers_from 0 (div_ceil (length level.notes) n)

-- the tallies are those of the level, one for each of its pieces, all for the same size of pieces and width of tiles, and the range is one of the tiles; a
-- level without notes has no tallies, and any range will do
pub record AreTallies (r : Rules) (level : LevelData) (lo hi : ℕ) (tallies : List TallyData) : Type 0 where
  pub n : ℕ
  pub width : ℕ
  pub some_notes : 0 < n
  pub alike : (t : TallyData) → Contains tallies t → (t.place ≡ level.place) × (t.n ≡ n) × (t.width ≡ width)
  pub pieces : ListsExactly (λ k. k < div_ceil (length level.notes) n) (map (λ t. t.piece) tallies)
  pub range : (tallies ≡ []) ⊎ IsTallyTile (r.tier_size level.place.tier) width lo hi
