-- Left and right exchanged, as a permutation of the cells.
use Rattle.std.proofs.Common.{◌≡◌, ℕ, ◌*◌, ◌<◌, length, get_or, zero-add}
use Rattle.std.proofs.lemmas.List.FromFn.{get_or-map-range_with_len, length-map-range_with_len}
use Rattle.gm_stacks.specs.Stacks.{mirrored, mirror}

pub mirror_length : (w h : ℕ) → length (mirror w h) ≡ h * w
mirror_length w h = length-map-range_with_len (mirrored w) 0 (h * w)

pub mirror_at : (w h k : ℕ) → k < h * w → get_or (mirror w h) k 0 ≡ mirrored w k
mirror_at w h k l = get_or-map-range_with_len (mirrored w) 0 (h * w) k k 0 l (zero-add k)
