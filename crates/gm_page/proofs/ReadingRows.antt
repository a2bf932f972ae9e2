-- The rows of a page, and its first line, are read as their trees.
use Rattle.gm_page.proofs.Lower.{◌≡◌, ℕ, suc, ◌+◌, ◌<◌, ◌≤◌, Bool, List, [], ◌∷◌, ◌++◌, length, map, Option, None, Some, refl, sym, ap, ◌∙◌, arith, inl, inr, flat_map, cases_Bool, cond-true, cond-false, Data, array, items_of, Position, MoveValue, text, head_tree, place_of, Group, move_cells, group_tree, row_tree, script_line, subst, append_assoc, append-nil}
use Rattle.gm_draw.specs.Pictures.{PictureSpec}
use Rattle.std.proofs.Common.{◌^◌, option_map, decimal}
use Rattle.serde_json.specs.Data.{number}
use Rattle.serde_json.specs.Read.{read, of_json, of_items}
use Rattle.serde_json.specs.Written.{outline, items_outline}
use Rattle.gm_game.specs.declared.position.Solved.{Solved}
use Rattle.gm_game.specs.Children.{is_same}
use Rattle.gm_page.specs.Listings.{place_from}
use Rattle.gm_page.specs.Rows.{place_cells, group_cells, row_cells}
use Rattle.json.specs.Tree.{depth, items_depth, json_tokens, items_tokens}
use Rattle.serde_json.proofs.Numbers.{number_of-decimal}
use Rattle.gm_json.specs.Words.{whole}
use Rattle.json.specs.Token.{Token}
use Rattle.json.proofs.Printed.Decimals.{IsNumber-decimal}
use Rattle.std.proofs.lemmas.Fmt.{decimal_is_IsNumeral}
use Rattle.std.specs.Prelude.{⊤}
use Rattle.std.specs.Option.{unwrap_or}
use Rattle.gm_page.proofs.Quoting.{script}
use Rattle.gm_page.proofs.ReadingBack.{AreFine, digits_same, read_line}

-- the text of a tree is read as this tree, which has at most this depth
pub record Reads (n : ℕ) (d : Data) : Type 0 where
  pub fine : (more : List Token) → AreFine more → AreFine (json_tokens (outline d) ++ more)
  pub same : of_json (outline d) ≡ Some d
  pub shallow : depth (outline d) ≤ n

abbrev pub AllRead : ℕ → List Data → Type 0
AllRead n [] = Unit {0}
AllRead n (d ∷ ds) = Reads n d × AllRead n ds

two_read : (n : ℕ) (ds es : List Data) → AllRead n ds → AllRead n es → AllRead n (ds ++ es)
two_read n [] es h k = k
two_read n (d ∷ ds) es h k = (h.0, two_read n ds es h.1 k)

items_fine : (n : ℕ) (ds : List Data) → AllRead n ds → (more : List Token) → AreFine more → AreFine (items_tokens (items_outline (items_of ds)) ++ more)
items_fine n [] h more k = ((tt, refl), k)
items_fine n (d ∷ ds) h more k = subst AreFine (sym (append_assoc (json_tokens (outline d)) _ more)) (h.0.fine _ (items_fine n ds h.1 more k))

items_same : (n : ℕ) (ds : List Data) → AllRead n ds → of_items (items_outline (items_of ds)) ≡ Some (items_of ds)
items_same n [] h = refl
items_same n (d ∷ ds) h = rw (h.0.same, items_same n ds h.1) refl

items_shallow : (n : ℕ) (ds : List Data) → AllRead n ds → items_depth (items_outline (items_of ds)) ≤ n
items_shallow n [] h = omega arith
items_shallow n (d ∷ ds) h = let a = h.0.shallow in let b = items_shallow n ds h.1 in omega arith

pub reads_array : (n : ℕ) (ds : List Data) → AllRead n ds → Reads (suc n) (array (items_of ds))
reads_array n ds h = record {
  fine = λ more k. ((tt, refl), items_fine n ds h more k);
  same = ap (option_map array) (items_same n ds h);
  shallow = let a = items_shallow n ds h in omega arith;
}

pub reads_text : (n : ℕ) (bs : List ℕ) → Reads n (text bs)
reads_text n bs = record { fine = λ more k. ((tt, refl), k); same = refl; shallow = omega arith }

reads_whole : (n k : ℕ) → k < 2 ^ 64 → Reads n (whole k)
reads_whole n k l = record {
  fine = λ more h. ((IsNumber-decimal k l, digits_same (decimal k) (decimal_is_IsNumeral k l).0.1), h);
  same = ap (option_map number) (number_of-decimal k l);
  shallow = omega arith;
}

-- ---- rows
place_below : (ps : List Position) (n : ℕ) (p : Position) (k : ℕ) → place_from n ps p ≡ Some k → k < n + length ps
place_below [] n p k h = let z : ⊥ = cc in absurd z
place_below (q ∷ qs) n p k h = elim (cases_Bool (is_same p q)) [
  | inl f ↦ (let g : n ≡ k = ap (λ (o : Option ℕ). unwrap_or o n) (sym (cond-true _ _ _ f) ∙ h) in omega arith)
  | inr f ↦ (let l = place_below qs (n + 1) p k (sym (cond-false _ _ _ f) ∙ h) in omega arith)
]

module _ (shown : Position → List ℕ) (move_shown : Position → ℕ → List ℕ) (all : List Position) (few : length all < 2 ^ 64) where
  place_read : (n : ℕ) (o : Option ℕ) → ((k : ℕ) → o ≡ Some k → k < 2 ^ 64) → AllRead n (place_cells o)
  place_read n None h = tt
  place_read n (Some k) h = (reads_whole n k (h k refl), tt)

  moves_read : (p : Position) (xs : List MoveValue) → AllRead 0 (flat_map (move_cells shown move_shown all p) xs)
  moves_read p [] = tt
  moves_read p (x ∷ xs) = (
    reads_text 0 (move_shown p x.number),
    two_read 0 (place_cells (place_of all x.position)) (flat_map (move_cells shown move_shown all p) xs)
        (place_read 0 (place_of all x.position) (λ k e. (let l = place_below all 0 x.position k e in omega arith))) (moves_read p xs),
  )

  groups_read : (p : Position) (gs : List Group) → AllRead 1 (map (group_tree shown move_shown all p) gs)
  groups_read p [] = tt
  groups_read p (g ∷ gs) = (reads_array 0 (group_cells shown move_shown all p g) (reads_text 0 _, moves_read p g.moves), groups_read p gs)

  pub row_read : (p : Position) (s : Solved) (gs : List Group) → read (script_line (row_tree shown move_shown all p s gs)) ≡ Some
      (row_tree shown move_shown all p s gs)
  row_read p s gs =
      let d = row_tree shown move_shown all p s gs in
      let is : Reads 2 d = reads_array 1 (row_cells shown move_shown all p s gs) (reads_text 1 _, (reads_text 1 _, groups_read p gs)) in
      read_line d (subst AreFine (append-nil (json_tokens (outline d))) (is.fine [] tt)) (let a = is.shallow in omega arith) is.same

-- ---- the first line
texts_read : (ts : List (List ℕ)) → AllRead 0 (map text ts)
texts_read [] = tt
texts_read (t ∷ ts) = (reads_text 0 t, texts_read ts)

-- a token that is no number is fine
ok : {P : Type 0} → P → (⊤ × (script [] ≡ [])) × P
ok h = ((tt, refl), h)

pub head_read : (name : List ℕ) (picture : PictureSpec) (start : List ℕ) (whole : Bool)
    → read (script_line (head_tree name picture start whole)) ≡ Some (head_tree name picture start whole)
head_read name picture start whole =
    let names = reads_array 0 (map text picture.points) (texts_read picture.points) in
    let d = head_tree name picture start whole in
    let a = names.shallow in
    read_line d
    (ok (ok (ok (ok (ok (ok (ok (ok (ok (ok (names.fine _ (ok (ok (ok (ok (ok (ok (ok (ok (ok (ok (ok (ok (ok (ok tt)))))))))))))))))))))))))
    (omega arith) (rw names.same refl)
