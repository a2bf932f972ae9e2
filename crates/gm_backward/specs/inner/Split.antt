-- The pairs of a piece by the tiles that have their parents.
use Rattle.std.specs.Prelude.{◌≡◌, ℕ, suc, List, Some, filter, slice_get}
use Rattle.gm_frontier.specs.Notes.{NoteData}
use Rattle.gm_frontier.specs.Pairs.{is_within}
use Rattle.gm_backward.specs.inner.Cuts.{cut_at}
use Rattle.gm_backward.specs.declared.cuts.Cuts.{Cuts}

-- the pairs whose parent is from lo up to hi
abbrev pub pairs_within : ℕ → ℕ → List (NoteData × ℕ) → List (NoteData × ℕ)
pairs_within lo hi pairs = filter (λ pair. is_within lo hi pair.1) pairs

-- list k has those of the pairs whose parent is in tile k of a tier of this size, in their order
pub record AreSplit (size : ℕ) (cuts : Cuts) (pairs : List (NoteData × ℕ)) (lists : List (List (NoteData × ℕ))) : Type 0 where
  pub each : (k : ℕ) (list : List (NoteData × ℕ)) → slice_get lists k ≡ Some list
      → list ≡ pairs_within (cut_at size cuts k) (cut_at size cuts (suc k)) pairs
