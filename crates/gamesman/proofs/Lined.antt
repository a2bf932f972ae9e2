-- Lines of games that are appended to a page.
use Rattle.gamesman.proofs.Lower.{◌≡◌, ℕ, List, [], ◌∷◌, ◌++◌, sym, ap, ◌∙◌, flat_map, GameSpec, game_line}
use Rattle.std.proofs.lemmas.Grind.{flat_map-append}
use Rattle.std.proofs.lemmas.List.{append_assoc, append-nil}

-- the lines of more games
pub lines_more : (gs hs : List GameSpec) (start old new : List ℕ) → old ≡ start ++ flat_map game_line gs → new ≡ old ++ flat_map game_line hs
    → new ≡ start ++ flat_map game_line (gs ++ hs)
lines_more gs hs start old new before more =
    more ∙ ap (λ (l : List ℕ). l ++ flat_map game_line hs) before ∙ append_assoc start (flat_map game_line gs) (flat_map game_line hs)
    ∙ ap (λ (l : List ℕ). start ++ l) (sym (flat_map-append game_line gs hs))

-- the line of one more game
pub line_more : (gs : List GameSpec) (g : GameSpec) (start old new : List ℕ) → old ≡ start ++ flat_map game_line gs → new ≡ old ++ game_line g
    → new ≡ start ++ flat_map game_line (gs ++ g ∷ [])
line_more gs g start old new before more =
    lines_more gs (g ∷ []) start old new before (more ∙ ap (λ (l : List ℕ). old ++ l) (sym (append-nil (game_line g))))

-- the line of the first game
pub line_first : (g : GameSpec) (start new : List ℕ) → new ≡ start ++ game_line g → new ≡ start ++ flat_map game_line (g ∷ [])
line_first g start new more = more ∙ ap (λ (l : List ℕ). start ++ l) (sym (append-nil (game_line g)))

-- the parts of a page that were appended to an empty text
pub page_of_parts : (front lines back p0 p1 p2 p3 : List ℕ) → p0 ≡ [] → p1 ≡ p0 ++ front → p2 ≡ p1 ++ lines → p3 ≡ p2 ++ back → p3 ≡ front ++ lines ++ back
page_of_parts front lines back p0 p1 p2 p3 empty a b c =
    c ∙ ap (λ (l : List ℕ). l ++ back) (b ∙ ap (λ (l : List ℕ). l ++ lines) (a ∙ ap (λ (l : List ℕ). l ++ front) empty))
