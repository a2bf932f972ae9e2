-- Sheets: puzzles one by one, and solutions move by move.
use Rattle.gm_page.proofs.Lower.{◌≡◌, ◌+◌, ◌<◌, ◌≤◌, length, take, take_all, get_or, refl, sym, subst, arith, ℕ, List, [], ◌∷◌, ◌++◌, ap, ◌∙◌, codes, flat_map, append-nil, append_assoc, Position, Rules, Found, steps_text}
use Rattle.std.proofs.lemmas.List.{length-take-le, take_more}
use Rattle.std.specs.List.{AllZip}
use Rattle.gm_draw.specs.Diagrams.{escaped}
use Rattle.gm_draw.specs.GameSpecs.{GameSpec}
use Rattle.gm_caption.specs.declared.caption.Caption.{Caption}
use Rattle.gm_play.specs.declared.move_values.MoveValue.{MoveValue}
use Rattle.gm_page.specs.Defences.{IsDefence, AreDefences}
use Rattle.gm_page.specs.declared.puzzles.Puzzle.{Puzzle}
use Rattle.gm_page.specs.Puzzles.{IsPuzzleFor, item_of, items_of}
use Rattle.gm_play.proofs.Rows.{flat_more}

-- ---- moves
-- one more move
pub steps_next : (r : Rules) (move_shown : Position → ℕ → List ℕ) (p q : Position) (m : ℕ) (ms done more all : List ℕ) → q ≡ r.play p m
    → more ≡ done ++ (codes " " ++ escaped (move_shown p m)) → done ++ steps_text r move_shown p (m ∷ ms) ≡ all → more ++ steps_text r move_shown q ms ≡ all
steps_next r move_shown p q m ms done more all e w h =
    let step : List ℕ = codes " " ++ escaped (move_shown p m) in
    let rest = steps_text r move_shown q ms in
    let here : step ++ rest ≡ steps_text r move_shown p (m ∷ ms) = ap (λ (x : Position). step ++ steps_text r move_shown x ms) e in
    ap (λ (t : List ℕ). t ++ rest) w ∙ append_assoc done step rest ∙ ap (λ (t : List ℕ). done ++ t) here ∙ h

-- the text before moves, the moves, and their end
pub line_parts : (t0 front steps moves end t1 t2 t3 : List ℕ) → t1 ≡ t0 ++ front → t2 ≡ t1 ++ moves → moves ≡ steps → t3 ≡ t2 ++ end → t3 ≡ t0 ++
    (front ++ steps ++ end)
line_parts t0 front steps moves end t1 t2 t3 a b e c =
    c ∙ ap (λ (t : List ℕ). t ++ end) (b ∙ ap (λ (t : List ℕ). t ++ moves) a ∙ ap (λ (t : List ℕ). (t0 ++ front) ++ t) e) ∙ simp append_assoc

-- ---- puzzles
-- the puzzle of one more found position
puzzle_more : (g : GameSpec) (xs : List Found) (ps : List Puzzle) (x : Found) (p : Puzzle) → AllZip (IsPuzzleFor g) xs ps → IsPuzzleFor g x p
    → AllZip (IsPuzzleFor g) (xs ++ x ∷ []) (ps ++ p ∷ [])
puzzle_more g [] [] x p are is = (is, tt)
puzzle_more g [] (q ∷ qs) x p are is = absurd are
puzzle_more g (y ∷ ys) [] x p are is = absurd are
puzzle_more g (y ∷ ys) (q ∷ qs) x p are is = (are.0, puzzle_more g ys qs x p are.1 is)

pub puzzle_next : (g : GameSpec) (xs : List Found) (k : ℕ) (d : Found) (ps new : List Puzzle) (p : Puzzle) → k < length xs
    → AllZip (IsPuzzleFor g) (take k xs) ps → IsPuzzleFor g (get_or xs k d) p → new ≡ ps ++ p ∷ [] → AllZip (IsPuzzleFor g) (take (k + 1) xs) new
puzzle_next g xs k d ps new p less are is e =
    subst (λ (l : List Puzzle). AllZip (IsPuzzleFor g) (take (k + 1) xs) l) (sym e)
    (subst (λ (l : List Found). AllZip (IsPuzzleFor g) l (ps ++ p ∷ [])) (sym (take_more xs k d less)) (puzzle_more g (take k xs) ps (get_or xs k d) p are is))

-- the items of puzzles before which there are so many others, and of one more
numbered_more : (caption : Caption) (n : ℕ) (ps : List Puzzle) (p : Puzzle)
    → items_of caption n (ps ++ p ∷ []) ≡ items_of caption n ps ++ item_of caption (n + length ps + 1) p
numbered_more caption n [] p = append-nil (item_of caption (n + 1) p) ∙ ap (λ (m : ℕ). item_of caption m p) (omega arith)
numbered_more caption n (q ∷ qs) p =
    let first = item_of caption (n + 1) q in
    ap (λ (t : List ℕ). first ++ t) (numbered_more caption (n + 1) qs p
    ∙ ap (λ (m : ℕ). items_of caption (n + 1) qs ++ item_of caption m p) (omega arith)) ∙ sym (append_assoc first _ _)

pub numbered_next : (caption : Caption) (ps : List Puzzle) (k : ℕ) (d p : Puzzle) (start old new : List ℕ) → k < length ps
    → old ≡ start ++ items_of caption 0 (take k ps) → p ≡ get_or ps k d → new ≡ old ++ item_of caption (k + 1) p
    → new ≡ start ++ items_of caption 0 (take (k + 1) ps)
numbered_next caption ps k d p start old new less o is n =
    let long : length (take k ps) ≡ k = length-take-le k ps (omega (arith, less)) in
    n ∙ ap (λ (t : List ℕ). t ++ item_of caption (k + 1) p) o ∙ append_assoc start (items_of caption 0 (take k ps)) (item_of caption (k + 1) p)
    ∙ ap (λ (t : List ℕ). start ++ t) (ap (λ (m : ℕ). items_of caption 0 (take k ps) ++ item_of caption m p) (omega (arith, long))
    ∙ sym (numbered_more caption 0 (take k ps) p) ∙ ap (λ (q : Puzzle). items_of caption 0 (take k ps ++ q ∷ [])) is
    ∙ ap (items_of caption 0) (sym (take_more ps k d less)))

-- ---- defences
-- the text of one more move
pub defence_more : (r : Rules) (move_shown : Position → ℕ → List ℕ) (p : Position) (n : ℕ) (ds : List MoveValue) (d : MoveValue) (done t : List ℕ)
    → AreDefences r move_shown p n ds done → IsDefence r move_shown p n d t → AreDefences r move_shown p n (ds ++ d ∷ []) (done ++ t)
defence_more r move_shown p n [] d done t are is = (t, [], is, refl, ap (λ (u : List ℕ). u ++ t) are ∙ sym (append-nil t))
defence_more r move_shown p n (e ∷ es) d done t (first, rest, here, more, joined) is =
    (first, rest ++ t, here, defence_more r move_shown p n es d rest t more is, ap (λ (u : List ℕ). u ++ t) joined ∙ append_assoc first rest t)

-- ---- items
-- the items of the first elements, after an earlier text, and of one more; and those of all
pub items_more : {X : Type 0} (f : X → List ℕ) (xs : List X) (i : ℕ) (d : X) (start old new piece : List ℕ) → i < length xs
    → old ≡ start ++ flat_map f (take i xs) → new ≡ old ++ piece → piece ≡ f (get_or xs i d) → new ≡ start ++ flat_map f (take (i + 1) xs)
items_more f xs i d start old new piece less o n p =
    let done = flat_map f (take i xs) in
    n ∙ ap (λ (t : List ℕ). t ++ piece) o ∙ append_assoc start done piece
    ∙ ap (λ (t : List ℕ). start ++ t) (flat_more f xs i d done (done ++ piece) piece less refl refl p)

pub items_all : {X : Type 0} (f : X → List ℕ) (xs : List X) (i : ℕ) (start all : List ℕ) → length xs ≤ i → all ≡ start ++ flat_map f (take i xs)
    → all ≡ start ++ flat_map f xs
items_all f xs i start all less e = e ∙ ap (λ (ps : List _). start ++ flat_map f ps) (take_all i xs less)
