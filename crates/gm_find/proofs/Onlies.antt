-- Moves that achieve an aim, up to symmetry, and wins in which there is one at each turn.
use Rattle.gm_find.proofs.Lower.{◌≡◌, ℕ, zero, suc, ◌<◌, ◌+◌, ◌-◌, ◌↔◌, inl, inr, Bool, List, [], ◌∷◌, ◌++◌, take, get_or, length, refl, sym, ◌∙◌, subst, arith, Contains, is_some, take_more, Contains-append_left, Position, Win, Rules, HasValue, IsTrueValue, Achieves, IsOnlyAfter}
use Rattle.std.proofs.Common.{◌⊎◌, IsTrue, Option, None, Some}
use Rattle.std.proofs.lemmas.List.Elements.{Contains-push_cases, Contains-push}
use Rattle.gm_game.specs.declared.position.Solved.{Solved}
use Rattle.gm_game.specs.declared.position.Value.{Value}
use Rattle.gm_game.specs.declared.position.Value.TheVariants.{Lose, Draw, Tie}
use Rattle.gm_game.proofs.Basic.{HasValue_once}
use Rattle.gm_find.specs.declared.only.Aim.{Aim}
use Rattle.gm_find.specs.Finding.{HasOnly, IsOnlyWin, IsOnlyLine, AfterDefence, line_aim, AgreesWith, HasOnlyResult}

-- c is the canonical position of the result of one of these moves that achieves the aim
abbrev pub IsAchievedAmong : Rules → Aim → Position → List ℕ → Position → Type 0
IsAchievedAmong r aim p ms c = (m : ℕ) × Contains ms m × Achieves r aim p m × (r.canonical (r.play p m) ≡ c)

-- these moves, if they achieve the aim, lead to one position
abbrev pub IsOnlySoFar : Rules → Aim → Position → List ℕ → Option Position → Type 0
IsOnlySoFar r aim p ms None = (c : Position) → IsAchievedAmong r aim p ms c → ⊥
IsOnlySoFar r aim p ms (Some c) = IsAchievedAmong r aim p ms c × ((d : Position) → IsAchievedAmong r aim p ms d → d ≡ c)

module _ (r : Rules) (aim : Aim) (p : Position) where
  -- what one of these moves or one more leads to
  kept_cases : (ms : List ℕ) (m : ℕ) (d : Position) → IsAchievedAmong r aim p (ms ++ m ∷ []) d
      → IsAchievedAmong r aim p ms d ⊎ (Achieves r aim p m × (r.canonical (r.play p m) ≡ d))
  kept_cases ms m d (n, has, k, e) = elim (Contains-push_cases ms m n has) [
    | inl o ↦ inl (n, o, k, e)
    | inr f ↦ inr (subst (λ (x : ℕ). Achieves r aim p x × (r.canonical (r.play p x) ≡ d)) (sym f) (k, e))
  ]

  kept_still : (ms : List ℕ) (m : ℕ) (d : Position) → IsAchievedAmong r aim p ms d → IsAchievedAmong r aim p (ms ++ m ∷ []) d
  kept_still ms m d (n, has, k, e) = (n, Contains-append_left ms (m ∷ []) n has, k, e)

  kept_last : (ms : List ℕ) (m : ℕ) (d : Position) → Achieves r aim p m → r.canonical (r.play p m) ≡ d → IsAchievedAmong r aim p (ms ++ m ∷ []) d
  kept_last ms m d k e = (m, Contains-push ms m, k, e)

  -- one move more, which doesn't achieve the aim
  pub only_skip : (ms : List ℕ) (m : ℕ) (o : Option Position) → IsOnlySoFar r aim p ms o → (Achieves r aim p m → ⊥) → IsOnlySoFar r aim p (ms ++ m ∷ []) o
  only_skip ms m None h n = λ c k. elim (kept_cases ms m c k) [ inl a ↦ h c a | inr b ↦ n b.0 ]
  only_skip ms m (Some c) h n = (kept_still ms m c h.0, λ d k. elim (kept_cases ms m d k) [ inl a ↦ h.1 d a | inr b ↦ absurd (n b.0) ])

  -- one move more, which achieves the aim and leads to no other position
  pub only_more : (ms : List ℕ) (m : ℕ) (o : Option Position) (c : Position) → IsOnlySoFar r aim p ms o → Achieves r aim p m → r.canonical (r.play p m) ≡ c →
      AgreesWith o c
      → IsOnlySoFar r aim p (ms ++ m ∷ []) (Some c)
  only_more ms m None c h k e n = (kept_last ms m c k e, λ d q. elim (kept_cases ms m d q) [ inl a ↦ absurd (h d a) | inr b ↦ sym b.1 ∙ e ])
  only_more ms m (Some b) c h k e n = (kept_last ms m c k e, λ d q. elim (kept_cases ms m d q) [ inl a ↦ h.1 d a ∙ n | inr f ↦ sym f.1 ∙ e ])

  -- two moves that lead to different positions
  pub only_two : (ms : List ℕ) (m : ℕ) (o : Option Position) (c : Position) → IsOnlySoFar r aim p ms o → ((n : ℕ) → Contains ms n → Contains (r.moves p) n) →
      Contains (r.moves p) m → Achieves r aim p m
      → r.canonical (r.play p m) ≡ c → (AgreesWith o c → ⊥) → HasOnlyResult r aim p → ⊥
  only_two ms m None c h inside has k e n x = n tt
  only_two ms m (Some b) c ((w, own, kw, ew), h) inside has k e n (d, kd, same) = n (same b (w, inside w own, kw, ew) ∙ sym (same c (m, has, k, e)))

  -- after all moves
  pub only_all : (o : Option Position) → IsOnlySoFar r aim p (r.moves p) o → IsTrue (is_some o) ↔ HasOnlyResult r aim p
  only_all None h = (λ t. absurd (cc), λ (c, k, same). absurd (h c k))
  only_all (Some c) h = (λ t. (c, h.0, h.1), λ x. refl)

-- a win of so many moves
pub win_is : (r : Rules) (p : Position) (s : Solved) (n : ℕ) → IsTrueValue r p s → s.value ≡ Win → s.remoteness ≡ n → HasValue r p Win n
win_is r p s n h v e = subst (λ (k : ℕ). HasValue r p Win k) e (subst (λ (x : Value). HasValue r p x s.remoteness) v h)

pub is_win : (r : Rules) (p : Position) (s : Solved) (n : ℕ) → IsTrueValue r p s → HasValue r p Win n → (s.value ≡ Win) × (s.remoteness ≡ n)
is_win r p s n h w = HasValue_once r p s.value Win s.remoteness n h w

-- a turn before the last
pub turn_is : (r : Rules) (d f : Bool) (n : ℕ) (p : Position) → 2 < n
    → IsOnlyWin r d f n p ↔ (HasOnly r d (line_aim f n) p × ((m : ℕ) → Contains (r.moves p) m → IsOnlyAfter r d f n p m))
turn_is r d f zero p l = absurd (omega arith)
turn_is r d f (suc zero) p l = absurd (omega arith)
turn_is r d f (suc (suc zero)) p l = absurd (omega arith)
turn_is r d f (suc (suc (suc n))) p l =
    let N = suc (suc (suc n)) in
    let e : suc n ≡ N - 2 = omega arith in
    subst (λ (k : ℕ). IsOnlyWin r d f N p ↔ (HasOnly r d (line_aim f N) p × ((m : ℕ) → Contains (r.moves p) m → Achieves r (line_aim f N) p m →
    AfterDefence r k (IsOnlyWin r d f k) (r.play p m)))) e
    (λ h. h, λ h. h)

-- a property of all moves, after one move more
pub each_more : (P : ℕ → Type 0) (ms : List ℕ) (k m : ℕ) → k < length ms → get_or ms k 0 ≡ m → ((n : ℕ) → Contains (take k ms) n → P n) → P m → (n : ℕ) →
    Contains (take (k + 1) ms) n → P n
each_more P ms k m l e h p n has = elim (Contains-push_cases (take k ms) (get_or ms k 0) n (subst (λ (xs : List ℕ). Contains xs n) (take_more ms k 0 l) has)) [
  | inl o ↦ h n o
  | inr f ↦ subst P (sym e ∙ f) p
]

-- what is no win is a win in no number of moves
pub no_win : (r : Rules) (p : Position) (s : Solved) → IsTrueValue r p s → (s.value ≡ Lose) ⊎ ((s.value ≡ Draw) ⊎ (s.value ≡ Tie)) → (n : ℕ)
    → HasValue r p Win n → ⊥
no_win r p s h e n w = (let v = (is_win r p s n h w).0 in elim e [ inl x ↦ cc | inr y ↦ elim y [ inl x ↦ cc | inr x ↦ cc ] ])

-- a win of this remoteness has such a line if it has one in so many moves
pub line_is : (r : Rules) (d f : Bool) (p : Position) (s : Solved) → IsTrueValue r p s → s.value ≡ Win → IsOnlyWin r d f s.remoteness p ↔ IsOnlyLine r d f p
line_is r d f p s h v = (
  λ t. (s.remoteness, win_is r p s s.remoteness h v refl, t),
  λ (k, w, t). subst (λ (n : ℕ). IsOnlyWin r d f n p) (sym (is_win r p s k h w).1) t,
)

-- an answer about a fact is one about another that comes to the same
pub same_answer : (b : Bool) (A B : Type 0) → (A ↔ B) → IsTrue b ↔ A → IsTrue b ↔ B
same_answer b A B e h = (λ t. e.0 (h.0 t), λ x. h.1 (e.1 x))
