use Rattle.gm_backward.proofs.Lower.{◌≡◌, ℕ, ◌<◌, List, [], Some, length, slice_get, NoteData}
use Rattle.gm_backward.proofs.pieces.clear.Given as goal

abbrev pub invariant-loop-list : goal.invariant-loop-list
invariant-loop-list g l = record {
  long : length l.lists ≡ 4;
  none : (k : ℕ) (v : List (NoteData × ℕ)) → k < l.list-index → slice_get l.lists k ≡ Some v → v ≡ [];
}
