-- The pairs that an iterator has left, when it takes the next note.
use Rattle.gm_frontier.proofs.Lower.{◌≡◌, ℕ, suc, ◌+◌, ◌-◌, ◌<◌, ◌≤◌, List, [], ◌∷◌, ◌++◌, length, take, drop, get_or, refl, sym, ap, subst, ◌∙◌, arith, Option, None, Some, take_all, drop_all, Rules, NoteData, pairs_of, pairs_of_note, piece_of}
use Rattle.std.proofs.Math.Seq.{drop-cons}
use Rattle.std.proofs.lemmas.Option.{get_or_from_slice_get}
use Rattle.gm_frontier.specs.inner.Rows.{stretch, row_pairs}
use Rattle.std.proofs.Common.{MatchOption, add-one, ◌*◌}
use Rattle.std.proofs.lemmas.List.{drop_more}
use Rattle.std.specs.List.{slice_get}

-- the first of a stretch, and the others
stretch_first : (from to : ℕ) (notes : List NoteData) (n : NoteData) → from < to → to ≤ length notes → slice_get notes from ≡ Some n
    → stretch from to notes ≡ n ∷ stretch (from + 1) to notes
stretch_first from to notes n l fits s =
    let here : drop from notes ≡ n ∷ drop (from + 1) notes =
    drop-cons notes from n (omega arith) ∙ ap (λ (x : NoteData). x ∷ drop (suc from) notes) (get_or_from_slice_get notes from n n s)
    ∙ ap (λ (k : ℕ). n ∷ drop k notes) (sym (add-one from)) in
    let count : to - from ≡ suc (to - (from + 1)) = omega arith in
    ap (λ (k : ℕ). take k (drop from notes)) count ∙ ap (take (suc (to - (from + 1)))) here

-- the next note's pairs come first among those that are left
pub row_taken : (r : Rules) (tier lo hi from to : ℕ) (notes : List NoteData) (n : NoteData) (row next : List (NoteData × ℕ)) → from < to → to ≤ length notes
    → slice_get notes from ≡ Some n → row ≡ [] → next ≡ pairs_of_note r tier lo hi n
    → next ++ pairs_of r tier lo hi (stretch (from + 1) to notes) ≡ row ++ pairs_of r tier lo hi (stretch from to notes)
row_taken r tier lo hi from to notes n row next l fits s none e =
    let all : pairs_of r tier lo hi (stretch from to notes) ≡ pairs_of_note r tier lo hi n ++ pairs_of r tier lo hi (stretch (from + 1) to notes) =
    ap (pairs_of r tier lo hi) (stretch_first from to notes n l fits s) in
    let rest = pairs_of r tier lo hi (stretch (from + 1) to notes) in
    ap (λ (ps : List (NoteData × ℕ)). ps ++ rest) e ∙ sym all
    ∙ ap (λ (ps : List (NoteData × ℕ)). ps ++ pairs_of r tier lo hi (stretch from to notes)) (sym none)

-- all notes
pub stretch_all : (notes : List NoteData) (len : ℕ) → len ≡ length notes → stretch 0 len notes ≡ notes
stretch_all notes len e = let all : length notes ≤ len - 0 = omega arith in take_all (len - 0) notes all

-- a piece that takes all notes
pub whole_piece : (n : ℕ) (notes : List NoteData) → length notes ≤ n → piece_of 0 n notes ≡ notes
whole_piece n notes l = let first : drop (0 * n) notes ≡ notes = ap (λ (k : ℕ). drop k notes) (let z : 0 * n ≡ 0 = grind arith in z) in
    ap (take n) first ∙ take_all n notes l

-- a row with no note, or with no index left, has no pair
pub row_none : (note : Option NoteData) (indexes : List ℕ) → None ≡ note → row_pairs note indexes ≡ []
row_none None indexes e = refl
row_none (Some n) indexes e = absurd (let z : ⊥ = cc in z)

row_empty : (note : Option NoteData) → row_pairs note [] ≡ []
row_empty None = refl
row_empty (Some n) = refl

pub row_over : (note : Option NoteData) (indexes read : List ℕ) (k : ℕ) → read ≡ indexes → length read ≤ k → row_pairs note (drop k indexes) ≡ []
row_over note indexes read k s less = ap (row_pairs note) (drop_all k indexes (subst (λ (l : List ℕ). length l ≤ k) s less)) ∙ row_empty note

-- the next pair of a row
pub row_next : (held : Option NoteData) (n : NoteData) (indexes read : List ℕ) (k p : ℕ) → Some n ≡ held → read ≡ indexes → k < length read
    → p ≡ get_or read k p
    → row_pairs held (drop k indexes) ≡ (n, p) ∷ row_pairs held (drop (k + 1) indexes)
row_next held n indexes read k p e s less is =
    let first : drop k indexes ≡ get_or indexes k p ∷ drop (k + 1) indexes = drop_more indexes k p (subst (λ (l : List ℕ). k < length l) s less) in
    let same : get_or indexes k p ≡ p = ap (λ (l : List ℕ). get_or l k p) (sym s) ∙ sym is in
    let front : drop k indexes ≡ p ∷ drop (k + 1) indexes = first ∙ ap (λ (i : ℕ). i ∷ drop (k + 1) indexes) same in
    ap (λ (o : Option NoteData). row_pairs o (drop k indexes)) (sym e) ∙ ap (row_pairs (Some n)) front
    ∙ ap (λ (o : Option NoteData). (n, p) ∷ row_pairs o (drop (k + 1) indexes)) e

-- if nothing is left, nothing is given
pub none_left : {A : Type 0} (o : Option A) (left : List A) → o ≡ None → left ≡ [] → MatchOption o ((left ≡ []) × (left ≡ [])) (λ x. left ≡ x ∷ left)
none_left None left e h = (h, h)
none_left (Some x) left e h = absurd (let z : ⊥ = cc in z)
