-- There is one list of notes of a level.
use Rattle.gm_frontier.proofs.Lower.{◌≡◌, List, [], ◌∷◌, refl, ap₂, subst, Contains, Position, Solved, Place, Rules, IsTrueValue, contains_first, contains_later, NoteData, IsNoteAt, positions, IsLevel, comes_first}
use Rattle.gm_game.proofs.Checker.{IsTrueValue_once}
use Rattle.gm_frontier.proofs.OrderLemmas.{in_order_same, first_one_way}

same_notes : (r : Rules) (place : Place) (ms ns : List NoteData) → ((n : NoteData) → Contains ms n → IsNoteAt r place n)
    → ((n : NoteData) → Contains ns n → IsNoteAt r place n) → positions ms ≡ positions ns → ms ≡ ns
same_notes r place [] [] a b e = refl
same_notes r place [] (n ∷ ns) a b e = absurd (cc)
same_notes r place (m ∷ ms) [] a b e = absurd (cc)
same_notes r place (m ∷ ms) (n ∷ ns) a b e =
    let here : m.position ≡ n.position = cc in
    let rest : positions ms ≡ positions ns = cc in
    let value : m.solved ≡ n.solved = IsTrueValue_once r n.position m.solved n.solved
    (subst (λ (p : Position). IsTrueValue r p m.solved) here (a m (contains_first m ms)).note.value) (b n (contains_first n ns)).note.value in
    let first : m ≡ n = ap₂ (λ (p : Position) (s : Solved). let x : NoteData = record { position = p; solved = s } in x) here value in
    ap₂ (λ (x : NoteData) (xs : List NoteData). x ∷ xs) first
    (same_notes r place ms ns (λ x i. a x (contains_later m x ms i)) (λ x i. b x (contains_later n x ns i)) rest)

pub level_once : (r : Rules) (place : Place) (ms ns : List NoteData) → IsLevel r place ms → IsLevel r place ns → ms ≡ ns
level_once r place ms ns a b =
    same_notes r place ms ns a.noted b.noted
    (in_order_same (comes_first place.tier) (first_one_way place.tier) (positions ms) (positions ns) a.ordered b.ordered
    (λ c. ((λ h. (b.each c).0 ((a.each c).1 h)), (λ h. (a.each c).0 ((b.each c).1 h)))))
