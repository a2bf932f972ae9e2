-- What is known of sought positions.
use Rattle.gm_find.proofs.Lower.{◌≡◌, ℕ, suc, ◌↔◌, inl, inr, eqb-true, Bool, true, List, ◌∷◌, [], length, refl, sym, ap, ◌∙◌, subst, arith, Contains, Position, Win, Rules, at, HasValue, IsTrueValue, AreThose, IsMatch, Achieves}
use Rattle.std.proofs.Common.{false, Option, None, Some, ◌==◌, if◌then◌else◌}
use Rattle.gm_game.specs.declared.position.Solved.{Solved}
use Rattle.gm_game.specs.declared.position.Value.{Value}
use Rattle.gm_game.specs.Laws.{IsGame}
use Rattle.gm_game.specs.Rules.{IsAscending, IsCanonical}
use Rattle.gm_game.proofs.Basic.{HasValue_once}
use Rattle.gm_table.specs.Tables.{TableData, IsHeld}
use Rattle.gm_find.specs.declared.only.Aim.{Aim}
use Rattle.gm_find.specs.declared.only.Aim.TheVariants.{Keep, WinIn}
use Rattle.gm_find.specs.declared.sought.Sought.{Sought}
use Rattle.std.proofs.lemmas.Option.{same_Some}
use Rattle.gm_game.specs.declared.position.Phase.{Phase}
use Rattle.gm_game.specs.declared.position.Phase.TheVariants.{WinLose, Ties}
use Rattle.gm_game.specs.declared.position.Value.TheVariants.{Lose, Draw, Tie}
use Rattle.gm_game.specs.Places.{StandsAt}
use Rattle.gm_find.specs.declared.sought.Span.{Span}
use Rattle.gm_find.specs.Finding.{IsAskedFor, IsValueOf, level_of, place_for, kept_by, IsAchievedBy, HasOnlyMove}
use Rattle.gm_play.specs.BestMoves.{wanted_from}
use Rattle.gm_find.proofs.ListLemmas.{those_once, IsRun}

-- the one remoteness, if there is one
abbrev IsLevel : Option ℕ → ℕ → Type 0
IsLevel None n = Unit {0}
IsLevel (Some k) n = k ≡ n

asked_level : (o : Option Span) (n : ℕ) → IsAskedFor o n → IsLevel (level_of o) n
asked_level None n h = tt
asked_level (Some s) n h = pick (s.least == s.most) refl
  where
    pick : (b : Bool) → (s.least == s.most) ≡ b → IsLevel (if b then Some s.least else None) n
    pick true e = let same = eqb-true s.least s.most e in let low = h.0 in let high = h.1 in omega arith
    pick false e = tt

-- a position that is sought is at the place that is searched
stands : (r : Rules) (p : Position) (v : Value) (o : Option ℕ) (place : Phase × ℕ) (s : Solved) → Some place ≡ place_for v o → IsTrueValue r p s → v ≡
    s.value → IsLevel o s.remoteness → StandsAt r place.0 place.1 p
stands r p Lose (Some k) place s e h w n = rw (same_Some place (WinLose, k) e) (inr (rw (sym w, sym n) at h))
stands r p Tie (Some k) place s e h w n = rw (same_Some place (Ties, k) e) (rw (sym w, sym n) at h)
stands r p Win (Some k) place s e h w n = rw (same_Some place (WinLose, k) e) (inl (rw (sym w, sym n) at h))
stands r p Draw (Some k) place s e h w n = absurd (cc)
stands r p v None place s e h w n = absurd (cc)

-- the run of a tier at that place has every index that is sought
pub run_has : (r : Rules) → IsGame r → (entries : List TableData) (q : Sought) (reached : Bool) (tier level : ℕ) (phase : Phase) (is : List ℕ) → Some
    (phase, level) ≡ place_for q.value (level_of q.remoteness) → IsHeld entries tier → IsAscending is
    → ((i : ℕ) → Contains is i ↔ (IsHeld entries tier × IsCanonical r (at tier i) × StandsAt r phase level (at tier i)))
    → IsRun (IsMatch r q reached) (at tier) 0 (r.tier_size tier) is
run_has r g entries q reached tier level phase is e held up exact = record {
  ascending = up;
  within = λ i c. (omega arith, (let l = g.index_below (at tier i) ((exact i).0 c).1.0 in omega arith));
  all = λ i a b m. (exact i).1 (
    held,
    m.canonical,
    stands r (at tier i) q.value (level_of q.remoteness) (phase, level) m.value.0 e m.value.1 m.value.2.0
        (asked_level q.remoteness m.value.0.remoteness m.value.2.1),
  );
}

-- what is sought has the value that is sought
pub match_value : (r : Rules) (q : Sought) (reached : Bool) (p : Position) (s : Solved) → IsTrueValue r p s → IsMatch r q reached p → IsValueOf q s
match_value r q reached p s h m =
    let (t, is, of) = m.value in
    let same = HasValue_once r p t.value s.value t.remoteness s.remoteness is h in
    (of.0 ∙ same.0, subst (IsAskedFor q.remoteness) same.1 of.1)

-- the value that keeps this one is that of the result of a best move
kept_wanted : (v : Value) → wanted_from v ≡ kept_by v
kept_wanted Lose = refl
kept_wanted v = refl

-- a move achieves an aim by the value of its result
pub achieves_is : (r : Rules) (p : Position) (m : ℕ) (aim : Aim) (s : Solved) → IsTrueValue r (r.play p m) s → IsAchievedBy aim s ↔ Achieves r aim p m
achieves_is r p m (Keep v) s h = (
  λ w. (s.remoteness, subst (λ (x : Value). HasValue r (r.play p m) x s.remoteness) (w ∙ kept_wanted v) h),
  λ (k, w). (HasValue_once r (r.play p m) s.value (kept_by v) s.remoteness k h w).0 ∙ sym (kept_wanted v),
)
achieves_is r p m (WinIn n) s h = (
  λ (w, k). (s.remoteness, subst (λ (x : Value). HasValue r (r.play p m) x s.remoteness) w h, k),
  λ (k, w, q). (let same = HasValue_once r (r.play p m) s.value Lose s.remoteness k h w in (same.0, ap suc same.1 ∙ q)),
)

-- one move achieves it
one_element : (ms : List ℕ) → length ms ≡ 1 → (m : ℕ) × (ms ≡ m ∷ [])
one_element [] e = absurd (omega arith)
one_element (m ∷ []) e = (m, refl)
one_element (m ∷ n ∷ ms) e = absurd (omega arith)

pub only_is : (r : Rules) (p : Position) (aim : Aim) (kept : List ℕ) → AreThose (Achieves r aim p) (r.moves p) kept → (length kept ≡ 1) ↔ HasOnlyMove r aim p
only_is r p aim kept h = (
  λ e. (let (m, q) = one_element kept e in (m, subst (AreThose (Achieves r aim p) (r.moves p)) q h)),
  λ (m, k). ap length (those_once (Achieves r aim p) (r.moves p) kept (m ∷ []) h k),
)
