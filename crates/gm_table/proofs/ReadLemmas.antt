-- Records that are read one by one.
use Rattle.gm_table.proofs.Lower.{◌≡◌, ◌+◌, ◌<◌, ◌≤◌, ◌∙◌, ℕ, Bool, true, false, List, [], ◌∷◌, ◌++◌, length, map, take, get_or, cond, Option, ap, refl, sym, arith, take_all, length-map, length-take, Solved, is_decided, IsSummary, Summary}
use Rattle.std.proofs.Common.{length-append, not, filter}
use Rattle.std.proofs.lemmas.List.{map_more}
use Rattle.std.proofs.lemmas.List.Elements.{filter-append}
use Rattle.std.proofs.lemmas.List.Filters.{length-filter_both}
use Rattle.gm_game.specs.Records.{lost_in, won_in, tied_in, lesser, greater, least_of, all_won}
use Rattle.gm_game.proofs.Folding.{least_push, all_won_push}

-- one of a list passes a test, or none
one_passes : (p : Option Solved → Bool) (o : Option Solved) → length (filter p (o ∷ [])) ≡ cond (p o) 1 0
one_passes p o = go (p o) refl
  where
    go : (b : Bool) → p o ≡ b → length (filter p (o ∷ [])) ≡ cond (p o) 1 0
    go true e = rw (e, filter) refl
    go false e = rw (e, filter) refl

passes_push : (p : Option Solved → Bool) (os : List (Option Solved)) (o : Option Solved) → length (filter p (os ++ o ∷ [])) ≡ length (filter p os) + cond
    (p o) 1 0
passes_push p os o = ap length (filter-append p os (o ∷ [])) ∙ length-append (filter p os) (filter p (o ∷ [])) ∙ ap (λ (n : ℕ). length (filter p os) + n)
    (one_passes p o)

module _ {X : Type 0} (read : X → Option Solved) (ws : List X) (i : ℕ) (d : X) (inside : i < length ws) (o : Option Solved) (is : o ≡ read (get_or ws i d)) where
  more : map read (take (i + 1) ws) ≡ map read (take i ws) ++ o ∷ []
  more = map_more read ws i d inside ∙ ap (λ (x : Option Solved). map read (take i ws) ++ x ∷ []) (sym is)

  pub summary_more : (old new : Summary) → new.lost ≡ lesser old.lost (lost_in o) → new.won ≡ greater old.won (won_in o) → new.tied ≡ lesser old.tied (tied_in o)
      → IsSummary (map read (take i ws)) old → IsSummary (map read (take (i + 1) ws)) new
  summary_more old new lost won tied before =
      let os = map read (take i ws) in
      let same_lost = ap (least_of lost_in) more ∙ least_push lost_in os o in
      let same_won = ap all_won more ∙ all_won_push os o in
      let same_tied = ap (least_of tied_in) more ∙ least_push tied_in os o in
      let b_lost = before.lost in
      let b_won = before.won in
      let b_tied = before.tied in
      record { lost = cc; won = cc; tied = cc }

  pub decided_more : (m n : ℕ) → n ≡ m + cond (is_decided o) 1 0 → m ≡ length (filter is_decided (map read (take i ws)))
      → n ≡ length (filter is_decided (map read (take (i + 1) ws)))
  decided_more m n one before = one ∙ ap (λ (k : ℕ). k + cond (is_decided o) 1 0) before ∙ sym (passes_push is_decided (map read (take i ws)) o)
      ∙ sym (ap (λ (os : List (Option Solved)). length (filter is_decided os)) more)

-- all records are read
pub summary_all : {X : Type 0} (read : X → Option Solved) (ws : List X) (i : ℕ) (old new : Summary) → length ws ≤ i → new.lost ≡ old.lost → new.won ≡ old.won
    → new.tied ≡ old.tied → IsSummary (map read (take i ws)) old → IsSummary (map read ws) new
summary_all read ws i old new past lost won tied sum =
    let all = ap (map read) (take_all i ws past) in
    record { lost = lost ∙ sum.lost ∙ ap (least_of lost_in) all; won = won ∙ sum.won ∙ ap all_won all; tied = tied ∙ sum.tied ∙ ap (least_of tied_in) all }

-- no more are no draws than were read
pub decided_few : (read : ℕ → Option Solved) (ws : List ℕ) (i : ℕ) → length (filter is_decided (map read (take i ws))) ≤ i
decided_few read ws i =
    let os = map read (take i ws) in
    let both = length-filter_both is_decided (λ o. not (is_decided o)) (λ o. refl) os in
    let many = length-map (take i ws) read in
    let taken = length-take i ws in
    omega arith
