-- Texts that grow by a part for each byte.
use Rattle.gm_draw.proofs.Lower.{◌≡◌, ℕ, ◌+◌, ◌≤◌, List, ◌++◌, length, take, drop, sym, ap, ◌∙◌, flat_map}
use Rattle.std.proofs.Common.{◌<◌, max, [], ◌∷◌, get_or, cond, Result, Ok, Err}
use Rattle.std.specs.Result.{OnOk, is_ok}
use Rattle.std.proofs.lemmas.List.{append_assoc, append-nil, take_more, take_all, drop_more, drop_all}
use Rattle.gm_draw.specs.Diagrams.{escaped_byte, next_length, escaped, widest}
use Rattle.gm_draw.specs.Tikz.{tex_byte, tex}
use Rattle.gm_draw.specs.Templates.{next_x, next_y, spread}
use Rattle.std.proofs.lemmas.Grind.{flat_map-append}

-- one more byte of a text
pub flat_next : (f : ℕ → List ℕ) (xs : List ℕ) (i : ℕ) (base cur new : List ℕ) → i < length xs → cur ≡ base ++ flat_map f (take i xs) → new ≡ cur ++ f
    (get_or xs i 0)
    → new ≡ base ++ flat_map f (take (i + 1) xs)
flat_next f xs i base cur new l e n =
    let x = get_or xs i 0 in
    let one : flat_map f (x ∷ []) ≡ f x = append-nil (f x) in
    let more : flat_map f (take (i + 1) xs) ≡ flat_map f (take i xs) ++ f x = ap (flat_map f) (take_more xs i 0 l) ∙ flat_map-append f (take i xs) (x ∷ [])
    ∙ ap (λ (t : List ℕ). flat_map f (take i xs) ++ t) one in
    n ∙ ap (λ (t : List ℕ). t ++ f x) e ∙ append_assoc base (flat_map f (take i xs)) (f x) ∙ ap (λ (t : List ℕ). base ++ t) (sym more)

-- all bytes of a text
pub escaped_all : (xs : List ℕ) (i : ℕ) (base cur : List ℕ) → length xs ≤ i → cur ≡ base ++ flat_map escaped_byte (take i xs) → cur ≡ base ++ escaped xs
unfolding escaped
escaped_all xs i base cur l e = e ∙ ap (λ (t : List ℕ). base ++ flat_map escaped_byte t) (take_all i xs l)

pub tex_all : (xs : List ℕ) (i : ℕ) (base cur : List ℕ) → length xs ≤ i → cur ≡ base ++ flat_map tex_byte (take i xs) → cur ≡ base ++ tex xs
unfolding tex
tex_all xs i base cur l e = e ∙ ap (λ (t : List ℕ). base ++ flat_map tex_byte t) (take_all i xs l)

-- one more byte of a board
pub spread_next : (f : ℕ → ℕ → ℕ → List ℕ) (xs : List ℕ) (i x y u v : ℕ) (cur new all : List ℕ) → i < length xs → cur ++ spread f x y (drop i xs) ≡ all →
    new ≡ cur ++ f x y (get_or xs i 0)
    → u ≡ next_x x (get_or xs i 0) → v ≡ next_y y (get_or xs i 0) → new ++ spread f u v (drop (i + 1) xs) ≡ all
unfolding spread
spread_next f xs i x y u v cur new all l e n a b =
    let z = get_or xs i 0 in
    let rest = spread f (next_x x z) (next_y y z) (drop (i + 1) xs) in
    let here : spread f x y (drop i xs) ≡ f x y z ++ rest = ap (spread f x y) (drop_more xs i 0 l) in
    ap (λ (k : ℕ). new ++ spread f k v (drop (i + 1) xs)) a
    ∙ ap (λ (k : ℕ). new ++ spread f (next_x x z) k (drop (i + 1) xs)) b
    ∙ ap (λ (t : List ℕ). t ++ rest) n
    ∙ append_assoc cur (f x y z) rest
    ∙ ap (λ (t : List ℕ). cur ++ t) (sym here)
    ∙ e

-- all bytes of a board
pub spread_all : (f : ℕ → ℕ → ℕ → List ℕ) (xs : List ℕ) (i x y : ℕ) (cur all : List ℕ) → length xs ≤ i → cur ++ spread f x y (drop i xs) ≡ all → cur ≡ all
unfolding spread
spread_all f xs i x y cur all l e = sym (append-nil cur) ∙ ap (λ (t : List ℕ). cur ++ spread f x y t) (sym (drop_all i xs l)) ∙ e

-- one more byte of a drawing, and all of them
pub widest_next : (xs : List ℕ) (i n longest m all : ℕ) → i < length xs → widest n longest (drop i xs) ≡ all → m ≡ next_length n (get_or xs i 0) → widest m
    (max longest m) (drop (i + 1) xs) ≡ all
unfolding widest
widest_next xs i n longest m all l e a = ap (λ (k : ℕ). widest k (max longest k) (drop (i + 1) xs)) a ∙ ap (widest n longest) (sym (drop_more xs i 0 l)) ∙ e

pub widest_all : (xs : List ℕ) (i n longest all : ℕ) → length xs ≤ i → widest n longest (drop i xs) ≡ all → longest ≡ all
unfolding widest
widest_all xs i n longest all l e = ap (widest n longest) (sym (drop_all i xs l)) ∙ e

-- two more parts, and three
pub joined : (old a b mid new : List ℕ) → mid ≡ old ++ a → new ≡ mid ++ b → new ≡ old ++ (a ++ b)
joined old a b mid new m n = n ∙ ap (λ (t : List ℕ). t ++ b) m ∙ append_assoc old a b

pub joined_three : (old a b c mid last new : List ℕ) → mid ≡ old ++ a → last ≡ mid ++ b → new ≡ last ++ c → new ≡ old ++ (a ++ (b ++ c))
joined_three old a b c mid last new m l n = joined old a (b ++ c) mid new m (joined mid b c last new l n)

-- the text after a call that succeeds
pub when_ok : {T E : Type 0} → (r : Result T E) (new a b : List ℕ) → new ≡ cond (is_ok r) a b → OnOk r (new ≡ a)
when_ok (Ok x) new a b e = e
when_ok (Err y) new a b e = tt
