-- Rows: moves in groups, one group after the other, and rows one by one.
use Rattle.gm_page.proofs.Lower.{◌≡◌, ℕ, zero, suc, ◌<◌, ◌≤◌, Bool, false, List, [], ◌∷◌, ◌++◌, length, map, take, drop, slice_get, Option, None, Some, refl, sym, ap, subst, ◌∙◌, arith, All, flat_map, append_assoc, append-nil, take_all, Data, items_of, has_float, Position, Rules, MoveValue, text, head_tree, place_of, Group, AreGroups, move_cells, group_tree, row_tree, ap₂, AreRows, script_line}
use Rattle.gm_draw.specs.Pictures.{PictureSpec}
use Rattle.gm_game.specs.declared.position.Solved.{Solved}
use Rattle.gm_page.specs.Rows.{place_cells, IsRunOfMoves}
use Rattle.std.specs.Prelude.{IfSome, unwrap_or}
use Rattle.std.proofs.lemmas.Bool.{or_parts}
use Rattle.std.proofs.lemmas.List.{take-append-drop}
use Rattle.serde_json.specs.Written.{items_have_float}

-- ---- what a loop writes, as it goes on
-- more is written before the rest
pub written_next : {X : Type 0} (P : List X → Type 0) (old piece new rest : List X) → new ≡ old ++ piece → P (old ++ (piece ++ rest)) → P (new ++ rest)
written_next P old piece new rest e h = subst P (sym (ap (λ (l : List _). l ++ rest) e ∙ append_assoc old piece rest)) h

-- nothing is left to write
pub written_end : {X : Type 0} (P : List X → Type 0) (all : List X) → P (all ++ []) → P all
written_end P all h = subst P (append-nil all) h

-- ---- groups
-- the moves are in groups, whose trees are after the earlier ones
abbrev pub AreGrouped : (Group → Data) → List MoveValue → List Data → List Data → Type 0
AreGrouped tree moves old new = (groups : List Group) × AreGroups moves groups × (new ≡ old ++ map tree groups)

-- the next run, if a list is split where a move of another worth follows
pub is_run : (x : MoveValue) (rest run others : List MoveValue) (n : ℕ) → Some x ≡ slice_get rest 0 → run ≡ take n rest → others ≡ drop n rest → n ≤ length rest
    → All (λ (y : MoveValue). y.worth ≡ x.worth) (take n rest) → IfSome (slice_get rest n) (λ (y : MoveValue). y.worth ≡ x.worth → ⊥)
    → IsRunOfMoves (record { worth = x.worth; moves = run }) others × (rest ≡ run ++ others)
is_run x rest run others n first front back within same ends = (
  record {
    some = subst (λ (ms : List MoveValue). 0 < length ms) (sym front) (some_moves rest n (sym first) ends within);
    same = subst (All (λ (y : MoveValue). y.worth ≡ x.worth)) (sym front) same;
    ends = subst (λ (o : Option MoveValue). IfSome o (λ (y : MoveValue). y.worth ≡ x.worth → ⊥))
        (sym (ap (λ (ms : List MoveValue). slice_get ms 0) back ∙ first_after rest n)) ends;
  },
  sym (take-append-drop n rest) ∙ ap₂ (λ (ms os : List MoveValue). ms ++ os) (sym front) (sym back),
)
  where
    first_after : (xs : List MoveValue) (k : ℕ) → slice_get (drop k xs) 0 ≡ slice_get xs k
    first_after xs zero = refl
    first_after [] (suc k) = refl
    first_after (y ∷ ys) (suc k) = first_after ys k

    same_move : (y : MoveValue) → Some y ≡ Some x → y ≡ x
    same_move y f = ap (λ (o : Option MoveValue). unwrap_or o y) f

    some_moves : (xs : List MoveValue) (k : ℕ) → slice_get xs 0 ≡ Some x → IfSome (slice_get xs k) (λ (y : MoveValue). y.worth ≡ x.worth → ⊥) → k ≤ length xs
        → 0 < length (take k xs)
    some_moves [] k f last l = let z : ⊥ = cc in absurd z
    some_moves (y ∷ ys) zero f last l = absurd (last (ap (λ (z : MoveValue). z.worth) (same_move y f)))
    some_moves (y ∷ ys) (suc k) f last l = omega arith

-- a list without a first move is empty
pub none_first : (xs : List MoveValue) → None ≡ slice_get xs 0 → xs ≡ []
none_first [] e = refl
none_first (x ∷ xs) e = let z : ⊥ = cc in absurd z

-- ---- trees without floats
module _ (shown : Position → List ℕ) (move_shown : Position → ℕ → List ℕ) (all : List Position) where
  two_without : (ds es : List Data) → items_have_float (items_of ds) ≡ false → items_have_float (items_of es) ≡ false → items_have_float
      (items_of (ds ++ es)) ≡ false
  two_without [] es h k = k
  two_without (d ∷ ds) es h k = let parts = or_parts (has_float d) _ h in rw parts.0 (two_without ds es parts.1 k)

  place_without : (o : Option ℕ) → items_have_float (items_of (place_cells o)) ≡ false
  place_without None = refl
  place_without (Some k) = refl

  moves_without : (p : Position) (xs : List MoveValue) → items_have_float (items_of (flat_map (move_cells shown move_shown all p) xs)) ≡ false
  moves_without p [] = refl
  moves_without p (x ∷ xs) = two_without (place_cells (place_of all x.position)) (flat_map (move_cells shown move_shown all p) xs)
      (place_without (place_of all x.position)) (moves_without p xs)

  groups_without : (p : Position) (gs : List Group) → items_have_float (items_of (map (group_tree shown move_shown all p) gs)) ≡ false
  groups_without p [] = refl
  groups_without p (g ∷ gs) = rw (moves_without p g.moves) (groups_without p gs)

  pub row_without : (p : Position) (s : Solved) (gs : List Group) → has_float (row_tree shown move_shown all p s gs) ≡ false
  row_without p s gs = groups_without p gs

texts_without : (ts : List (List ℕ)) → items_have_float (items_of (map text ts)) ≡ false
texts_without [] = refl
texts_without (t ∷ ts) = texts_without ts

pub head_without : (name : List ℕ) (picture : PictureSpec) (start : List ℕ) (whole : Bool) → has_float
    (head_tree name picture start whole) ≡ false
head_without name picture start whole = rw (texts_without picture.points) refl

-- ---- lists that grow by one element
-- the trees of all of some things
pub trees_all : {X : Type 0} (cells : X → List Data) (xs : List X) (i : ℕ) (base old : List Data) → length xs ≤ i → old ≡ base ++ flat_map cells (take i xs)
    → old ≡ base ++ flat_map cells xs
trees_all cells xs i base old l o = o ∙ ap (λ t. base ++ flat_map cells t) (take_all i xs l)

-- ---- rows
-- the rows of these positions, as lines after the earlier text
abbrev pub HasRows : Rules → (Position → List ℕ) → (Position → ℕ → List ℕ) → List Position → List Position → List ℕ → List ℕ → Type 0
HasRows r shown move_shown all ps old new =
    (rows : List Data) × AreRows r shown move_shown all ps rows × (new ≡ old ++ flat_map script_line rows)
