-- A position's record is the one that any list of its canonical children gives.
use Rattle.gm_game.proofs.Lower.{◌≡◌, ℕ, ◌↔◌, List, map, Contains, refl, ap, ◌∙◌, subst, arith, Option, None, Some, Position, Solved, Rules, children, IsCanonicalChild, lost_in, tied_in, least_of, all_won, settled_by}
use Rattle.gm_game.specs.Records.{from_children}
use Rattle.gm_game.proofs.Lists.{map_in, map_from}
use Rattle.gm_game.proofs.Within.{IsWithin, least_in, least_from, all_won_in, all_won_from}
use Rattle.gm_game.proofs.Settled.{settled_open}

-- the record that children's records give depends on the members only
within_same : (a b : Option ℕ) → ((n : ℕ) → IsWithin a n ↔ IsWithin b n) → a ≡ b
within_same None None h = refl
within_same None (Some k) h = absurd ((h k).1 (omega arith))
within_same (Some k) None h = absurd ((h k).0 (omega arith))
within_same (Some k) (Some m) h = let x = (h k).0 (omega arith) in let y = (h m).1 (omega arith) in let e : k ≡ m = omega arith in ap Some e

least_same : (f : Option Solved → Option ℕ) (os os' : List (Option Solved)) → ((o : Option Solved) → Contains os o ↔ Contains os' o) → least_of f os ≡
    least_of f os'
least_same f os os' h =
    within_same (least_of f os) (least_of f os') (λ n. (
      λ w. (let (o, i, v) = least_in f os n w in least_from f os' n o ((h o).0 i) v),
      λ w. (let (o, i, v) = least_in f os' n w in least_from f os n o ((h o).1 i) v),
    ))

all_won_same : (os os' : List (Option Solved)) → ((o : Option Solved) → Contains os o ↔ Contains os' o) → all_won os ≡ all_won os'
all_won_same os os' h =
    within_same (all_won os) (all_won os') (λ n. (
      λ w. all_won_from os' n (λ o i. all_won_in os n w o ((h o).1 i)),
      λ w. all_won_from os n (λ o i. all_won_in os' n w o ((h o).0 i)),
    ))

pub from_children_same : (os os' : List (Option Solved)) → ((o : Option Solved) → Contains os o ↔ Contains os' o) → from_children os ≡ from_children os'
from_children_same os os' h =
    let a = least_same lost_in os os' h in
    let b = all_won_same os os' h in
    let c = least_same tied_in os os' h in
    cc

-- so the rules may read the children in any list of them
pub settled_by_list : (r : Rules) (look : Position → Option Solved) (p : Position) (cs : List Position) → r.primitive p ≡ None →
    ((c : Position) → Contains cs c ↔ IsCanonicalChild r p c) → settled_by r look p ≡ from_children (map look cs)
settled_by_list r look p cs o h =
    let ds = map r.canonical (children r p) in
    settled_open r look p o ∙ from_children_same (map look ds) (map look cs) (λ x. (
      λ i. (let (c, j, e) = map_in look ds x i in subst (λ y. Contains (map look cs) y) e (map_from look cs c ((h c).1 j))),
      λ i. (let (c, j, e) = map_in look cs x i in subst (λ y. Contains (map look ds) y) e (map_from look ds c ((h c).0 j))),
    ))
