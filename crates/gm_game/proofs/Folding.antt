-- The least and the greatest with one more record at the end, and how large they can be.
use Rattle.gm_game.proofs.Lower.{◌≡◌, ℕ, zero, suc, ◌<◌, ◌≤◌, ◌+◌, ◌^◌, Bool, true, false, ◌&&◌, List, [], ◌∷◌, ◌++◌, map, take, length, get_or, Contains, refl, ap, ◌∙◌, subst, arith, Option, None, Some, is_some, list_all, Position, Value, Lose, Draw, Tie, Win, End, Solved, Rules, children, IsGame, solved, lost_in, tied_in, won_in, lesser, greater, least_of, all_won, from_end, IsEvaluated, evaluated}
use Rattle.std.proofs.Common.{min, max, IfSome}
use Rattle.gm_game.specs.Evaluation.{evaluate}
use Rattle.std.proofs.lemmas.List.{map_more, map-append}
use Rattle.gm_game.proofs.Lists.{contains_first, contains_later, map_in}
use Rattle.gm_game.proofs.Symmetry.{child_legal}
use Rattle.gm_game.proofs.Evaluated.{evaluated_true}

same_option : (a b : ℕ) → a ≡ b → ◌≡◌ {A = Option ℕ} (Some a) (Some b)
same_option a b e = ap Some e

lesser_none : (a : Option ℕ) → lesser a None ≡ a
lesser_none None = refl
lesser_none (Some k) = refl

lesser_assoc : (a b c : Option ℕ) → lesser a (lesser b c) ≡ lesser (lesser a b) c
lesser_assoc None b c = refl
lesser_assoc (Some k) None c = refl
lesser_assoc (Some k) (Some m) None = refl
lesser_assoc (Some k) (Some m) (Some n) = same_option (min k (min m n)) (min (min k m) n) (omega arith)

greater_assoc : (a b c : Option ℕ) → greater a (greater b c) ≡ greater (greater a b) c
greater_assoc None b c = refl
greater_assoc (Some k) None c = refl
greater_assoc (Some k) (Some m) None = refl
greater_assoc (Some k) (Some m) (Some n) = same_option (max k (max m n)) (max (max k m) n) (omega arith)

greater_zero : (a : Option ℕ) → greater a (Some 0) ≡ greater (Some 0) a
greater_zero None = refl
greater_zero (Some k) = same_option (max k 0) (max 0 k) (omega arith)

pub least_push : (f : Option Solved → Option ℕ) (os : List (Option Solved)) (o : Option Solved) → least_of f (os ++ o ∷ []) ≡ lesser (least_of f os) (f o)
least_push f [] o = lesser_none (f o)
least_push f (x ∷ xs) o = ap (λ z. lesser (f x) z) (least_push f xs o) ∙ lesser_assoc (f x) (least_of f xs) (f o)

pub all_won_push : (os : List (Option Solved)) (o : Option Solved) → all_won (os ++ o ∷ []) ≡ greater (all_won os) (won_in o)
all_won_push [] o = greater_zero (won_in o)
all_won_push (x ∷ xs) o = ap (λ z. greater (won_in x) z) (all_won_push xs o) ∙ greater_assoc (won_in x) (all_won xs) (won_in o)

pub known_push : (os : List (Option Solved)) (o : Option Solved) → list_all is_some (os ++ o ∷ []) ≡ (list_all is_some os && is_some o)
known_push [] None = refl
known_push [] (Some s) = refl
known_push (None ∷ xs) o = refl
known_push (Some s ∷ xs) o = known_push xs o

-- no number is larger than what each record allows
AllSmall : (Option Solved → Option ℕ) → ℕ → List (Option Solved) → Type 0
AllSmall f b os = (o : Option Solved) → Contains os o → IfSome (f o) (λ k. k ≤ b)

lesser_small : (x y : Option ℕ) (b : ℕ) → IfSome x (λ k. k ≤ b) → IfSome y (λ k. k ≤ b) → IfSome (lesser x y) (λ k. k ≤ b)
lesser_small None y b h i = i
lesser_small (Some k) None b h i = h
lesser_small (Some k) (Some m) b h i = omega arith

greater_small : (x y : Option ℕ) (b : ℕ) → IfSome x (λ k. k ≤ b) → IfSome y (λ k. k ≤ b) → IfSome (greater x y) (λ k. k ≤ b)
greater_small None y b h i = tt
greater_small (Some k) None b h i = tt
greater_small (Some k) (Some m) b h i = omega arith

least_small : (f : Option Solved → Option ℕ) (b : ℕ) (os : List (Option Solved)) → AllSmall f b os → IfSome (least_of f os) (λ k. k ≤ b)
unfolding AllSmall
least_small f b [] h = tt
least_small f b (x ∷ xs) h = lesser_small (f x) (least_of f xs) b (h x (contains_first x xs)) (least_small f b xs (λ o i. h o (contains_later x o xs i)))

won_small : (b : ℕ) (os : List (Option Solved)) → AllSmall won_in b os → IfSome (all_won os) (λ k. k ≤ b)
unfolding AllSmall
won_small b [] h = omega arith
won_small b (x ∷ xs) h = greater_small (won_in x) (all_won xs) b (h x (contains_first x xs)) (won_small b xs (λ o i. h o (contains_later x o xs i)))

small_record : (v : Value) (k b : ℕ) → k ≤ b → IfSome (lost_in (Some (solved v k))) (λ x. x ≤ b) × IfSome (won_in (Some (solved v k))) (λ x. x ≤ b) × IfSome
    (tied_in (Some (solved v k))) (λ x. x ≤ b)
small_record Lose k b l = (l, tt, tt)
small_record Draw k b l = (tt, tt, tt)
small_record Tie k b l = (tt, tt, l)
small_record Win k b l = (tt, l, tt)

small_evaluated : (r : Rules) (n : ℕ) (d : Position) (o : Option Solved) → IsEvaluated r n d o → IfSome (lost_in o) (λ x. x ≤ n) × IfSome (won_in o)
    (λ x. x ≤ n) × IfSome (tied_in o) (λ x. x ≤ n)
small_evaluated r n d None e = (tt, tt, tt)
small_evaluated r n d (Some s) e = small_record s.value s.remoteness n e.1

-- what is known of the children within n moves is at most n
pub evaluated_small : (r : Rules) (g : IsGame r) (n : ℕ) (p : Position) → r.is_legal p ≡ true → let os = map (evaluated r n) (children r p) in IfSome
    (least_of lost_in os) (λ x. x ≤ n) × IfSome (all_won os) (λ x. x ≤ n) × IfSome (least_of tied_in os) (λ x. x ≤ n)
unfolding AllSmall
evaluated_small r g n p l =
    let os = map (evaluated r n) (children r p) in
    let each : (o : Option Solved) → Contains os o → IfSome (lost_in o) (λ x. x ≤ n) × IfSome (won_in o) (λ x. x ≤ n) × IfSome (tied_in o) (λ x. x ≤ n) =
    λ o i. (let (d, j, e) = map_in (evaluated r n) (children r p) o i in small_evaluated r n d o
    (subst (λ x. IsEvaluated r n d x) e (evaluated_true r g n d (child_legal r g p d l j)))) in
    (least_small lost_in n os (λ o i. (each o i).0), won_small n os (λ o i. (each o i).1), least_small tied_in n os (λ o i. (each o i).2))

pub fits_since : (a : Option ℕ) (n : ℕ) → IfSome a (λ x. x ≤ n) → n + 1 < 2 ^ 32 → IfSome a (λ k. k + 1 < 2 ^ 32)
fits_since None n h l = tt
fits_since (Some k) n h l = omega arith

-- one more child
pub one_more : {Y : Type 0} (f : Position → Y) (play : ℕ → Position) (xs : List ℕ) (i d : ℕ) → i < length xs → map f (map play (take (i + 1) xs)) ≡ map f
    (map play (take i xs)) ++ f (play (get_or xs i d)) ∷ []
one_more f play xs i d l = ap (map f) (map_more play xs i d l) ∙ map-append f (map play (take i xs)) (play (get_or xs i d) ∷ [])

pub evaluated_open : (r : Rules) (n m : ℕ) (p : Position) → r.primitive p ≡ None → m ≡ n + 1 → evaluated r m p ≡ evaluate (map (evaluated r n) (children r p))
evaluated_open r n zero p h e = absurd (omega arith)
evaluated_open r n (suc m) p h e =
    let f : m ≡ n = omega arith in
    let q : evaluated r (suc m) p ≡ evaluate (map (evaluated r m) (children r p)) = rw (h, evaluated) refl in
    q ∙ ap (λ k. evaluate (map (evaluated r k) (children r p))) f

pub when_known : (k b x : Bool) → k ≡ true → x ≡ b → x ≡ (k && b)
when_known true b x h e = e
when_known false b x h e = absurd (cc)

pub when_unknown : (k b x : Bool) → k ≡ false → x ≡ k → x ≡ (k && b)
when_unknown true b x h e = absurd (cc)
when_unknown false b x h e = e

-- a game that has ended is known at once
pub evaluated_at_end : (r : Rules) (n : ℕ) (p : Position) (e : End) → r.primitive p ≡ Some e → Some (from_end e) ≡ evaluated r n p
evaluated_at_end r zero p e h = rw (h, evaluated) refl
evaluated_at_end r (suc n) p e h = rw (h, evaluated) refl
