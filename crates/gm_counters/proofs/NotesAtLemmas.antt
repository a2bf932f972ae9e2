-- Notes of settled indexes, one after another.
use Rattle.gm_counters.proofs.Lower.{◌≡◌, ℕ, ◌+◌, ◌<◌, List, [], ◌∷◌, ◌++◌, take, length, get_or, refl, sym, subst, Option, None, Some, Rules, NoteData, Solved, Settled, ShardState, StatusIs, AreNotesAt}
use Rattle.std.proofs.Common.{IsSome}
use Rattle.std.proofs.lemmas.List.{take_more}
use Rattle.gm_counters.specs.inner.Closing.{IsNoteOf}
use Rattle.gm_counters.specs.inner.Queues.{IsNoteAtIndex}

pub notes_push : (r : Rules) (s : ShardState) (ks : List ℕ) (ns : List NoteData) (k : ℕ) (n : NoteData) → AreNotesAt r s ks ns → IsNoteAtIndex r s k n
    → AreNotesAt r s (ks ++ k ∷ []) (ns ++ n ∷ [])
notes_push r s [] [] k n h x = (x, tt)
notes_push r s [] (m ∷ ns) k n h x = absurd h
notes_push r s (j ∷ ks) [] k n h x = absurd h
notes_push r s (j ∷ ks) (m ∷ ns) k n h x = (h.0, notes_push r s ks ns k n h.1 x)

pub notes_more : (r : Rules) (s : ShardState) (ks : List ℕ) (i : ℕ) (ns ms : List NoteData) (n : NoteData) → i < length ks → AreNotesAt r s (take i ks) ns
    → ms ≡ ns ++ n ∷ [] → IsNoteAtIndex r s (get_or ks i 0) n → AreNotesAt r s (take (i + 1) ks) ms
notes_more r s ks i ns ms n l h e x = subst (AreNotesAt r s (take (i + 1) ks)) (sym e)
    (subst (λ (js : List ℕ). AreNotesAt r s js (ns ++ n ∷ [])) (sym (take_more ks i 0 l)) (notes_push r s (take i ks) ns (get_or ks i 0) n h x))

-- a settled index has a note
pub some_note : (r : Rules) (s : ShardState) (i : ℕ) (x : Solved) (o : Option NoteData) → StatusIs r s i (Settled x) → IsNoteOf r s i o → IsSome o
some_note r s i x None h n = absurd (n x h)
some_note r s i x (Some m) h n = refl

-- and it is the note of that index
pub note_is : (r : Rules) (s : ShardState) (i k : ℕ) (m : NoteData) (o : Option NoteData) → o ≡ Some m → i ≡ s.lo + k → IsNoteOf r s i o → IsNoteAtIndex r s k m
note_is r s i k m o e f n =
    let h : IsNoteOf r s (s.lo + k) (Some m) = subst (λ (j : ℕ). IsNoteOf r s j (Some m)) f (subst (IsNoteOf r s i) e n) in
    record { position = h.0; settled = h.1 }
