-- A level that is delivered to a shard piece by piece, each pair once.
use Rattle.std.specs.Prelude.{◌≡◌, ℕ, ◌+◌, ◌<◌, ◌≤◌, ◌==◌, max, Bool, true, false, List, [], ◌∷◌, take, drop, length, slice_index, slice_index_or, slice_set, Result, Err}
use Rattle.std.specs.Int.{div_ceil}
use Rattle.std.specs.Result.{IsOk}
use Rattle.gm_game.specs.Rules.{Rules}
use Rattle.gm_frontier.specs.Notes.{NoteData}
use Rattle.gm_frontier.specs.Levels.{LevelData, IsLevel}
use Rattle.gm_frontier.specs.Pairs.{piece_of}
use Rattle.gm_counters.specs.declared.status.Delivery.{Delivery}
use Rattle.gm_counters.specs.declared.status.Refused.{Refused}
use Rattle.gm_counters.specs.declared.status.Refused.TheVariants.{TooFar}
use Rattle.gm_counters.specs.State.{ShardState, pairs_in}
use Rattle.gm_counters.specs.Good.{IsGood}
use Rattle.gm_counters.specs.Delivery.{Delivers, IsAdded}
use Rattle.gm_counters.specs.declared.status.Status.{Status}
use Rattle.gm_counters.specs.Status.{StatusIs}
use Rattle.gm_locks.specs.Spots.{Spot, spot_of, IsDeliverable}
use Rattle.gm_locks.specs.Rounds.{pairs_into, place_of_spot, AreFirst, HasNoneHere, IsLevelAt}

-- a shard, how many of each piece's pairs are delivered to it, for which pieces these are all, and the total of its book
pub record PiecedData : Type 0 where
  pub shard : ShardState
  pub counts : List ℕ
  pub whole : List Bool
  pub book : ℕ

-- the pairs of a piece of a level into the range of a spot, in the order of a walk
abbrev pub piece_pairs : Rules → Spot → List NoteData → ℕ → ℕ → List (NoteData × ℕ)
piece_pairs r s notes size piece = pairs_into r s (piece_of piece size notes)

-- of each piece the first pairs are delivered, as many as its count says, and no later one; where its bit is set these are all
pub record IsPieced (r : Rules) (s : Spot) (notes : List NoteData) (size base : ℕ) (d : PiecedData) : Type 0 where
  pub spot : spot_of d.shard ≡ s
  pub level : IsLevel r (place_of_spot s) notes
  pub some : 0 < size
  pub many : length d.counts ≡ div_ceil (length notes) size
  pub bits : length d.whole ≡ div_ceil (length notes) size
  pub first : (piece : ℕ) → AreFirst (piece_pairs r s notes size piece) d.shard (slice_index d.counts piece)
  pub all : (piece : ℕ) → slice_index_or d.whole piece false ≡ true → slice_index d.counts piece ≡ length (piece_pairs r s notes size piece)
  pub number : pairs_in d.shard ≡ base + d.book

-- the pairs are delivered one after another, from s to t, and each is new
abbrev pub AreNew : Rules → List (NoteData × ℕ) → ShardState → ShardState → Type 0
AreNew r [] s t = t ≡ s
AreNew r (x ∷ xs) s t = (mid : ShardState) × (answer : Result Delivery Refused) × Delivers r x.0 x.1 s mid answer × IsAdded answer × AreNew r xs mid t

-- a good shard at the spot refused a pair of the place as too far
pub record IsRefusedAt (r : Rules) (s : Spot) : Type 0 where
  pub state : ShardState
  pub good : IsGood r state
  pub spot : spot_of state ≡ s
  pub pair : NoteData × ℕ
  pub here : IsDeliverable r state pair
  pub event : Delivers r pair.0 pair.1 state state (Err TooFar)

-- the next n pairs of a piece are delivered, with no later one than was asked for; its bit says whether these are all, and other pieces stay as they were
pub record IsTurn (r : Rules) (pairs : List (NoteData × ℕ)) (piece to n : ℕ) (d e : PiecedData) : Type 0 where
  pub run : AreNew r (take n (drop (slice_index d.counts piece) pairs)) d.shard e.shard
  pub counts : e.counts ≡ slice_set d.counts piece (slice_index d.counts piece + n)
  pub whole : e.whole ≡ slice_set d.whole piece (slice_index d.counts piece + n == length pairs)
  pub book : e.book ≡ d.book + n
  pub most : slice_index d.counts piece + n ≤ max (slice_index d.counts piece) to

-- one call at a good shard at the spot, which leaves a good one there; if it answers Ok, the pairs up to the number that was wanted are delivered
pub record IsTurnAt (r : Rules) (s : Spot) (notes : List NoteData) (size base piece to n : ℕ)
    (answer : Result (Unit {0}) Refused) (d e : PiecedData) : Type 0 where
  pub old_good : IsGood r d.shard
  pub new_good : IsGood r e.shard
  pub old_kept : IsPieced r s notes size base d
  pub new_kept : IsPieced r s notes size base e
  pub turn : IsTurn r (piece_pairs r s notes size piece) piece to n d e
  pub done : IsOk answer → to ≤ slice_index e.counts piece

-- the shard is where the name says, before the level, and has as many pairs as the name says and none of the level's
pub record IsReadyFor (r : Rules) (t : ShardState) (level : LevelData) (s : Spot) (notes : List NoteData) (base : ℕ) : Type 0 where
  pub spot : spot_of t ≡ s
  pub level_at : IsLevelAt level s notes
  pub number : pairs_in t ≡ base
  pub none : HasNoneHere r t

-- a good shard at the spot has this status at an index
pub record IsShownAt (r : Rules) (s : Spot) (index : ℕ) (status : Status) : Type 0 where
  pub state : ShardState
  pub good : IsGood r state
  pub spot : spot_of state ≡ s
  pub status_is : StatusIs r state index status
