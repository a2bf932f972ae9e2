-- What a search for reached positions keeps.
use Rattle.gm_find.proofs.Lower.{◌≡◌, ℕ, inl, inr, true, List, [], ◌∷◌, ◌++◌, length, refl, sym, ap, ◌∙◌, subst, arith, Contains, ◌↔◌, Contains-append_left, Position, Rules, contains_none, contains_cases, contains_first, contains_later, at, IsSearched}
use Rattle.std.proofs.Common.{◌⊎◌}
use Rattle.std.proofs.lemmas.List.Elements.{Contains-push_cases, Contains-push}
use Rattle.gm_game.specs.Laws.{IsGame}
use Rattle.gm_game.proofs.Lists.{map_from, map_in}
use Rattle.gm_find.specs.Reaching.{key_of, IsPlay, IsReachedByPlay, AreReachedKeys}
use Rattle.std.specs.Prelude.{IsPermutation}
use Rattle.std.proofs.lemmas.List.Sorted.{Contains-permutation, IsPermutation-sym}
use Rattle.gm_game.specs.Rules.{children, IsCanonicalChild}
use Rattle.gm_play.specs.Lines.{position_after}
use Rattle.gm_play.proofs.Walking.{after_push}

-- a line with one move more
play_more : (r : Rules) (p : Position) (ms : List ℕ) (m : ℕ) → IsPlay r p ms → Contains (r.moves (position_after r p ms)) m → IsPlay r p (ms ++ m ∷ [])
play_more r p [] m h has = (has, tt)
play_more r p (n ∷ ns) m h has = (h.0, play_more r (r.play p n) ns m h.1 has)

-- the moves of a canonical child
child_move : (r : Rules) (p c : Position) → IsCanonicalChild r p c → (m : ℕ) × Contains (r.moves p) m × (r.canonical (r.play p m) ≡ c)
child_move r p c h =
    let (q, has, e) = map_in r.canonical (children r p) c h in
    let (m, listed, f) = map_in (r.play p) (r.moves p) q has in
    (m, listed, ap r.canonical f ∙ e)

module _ (r : Rules) (g : IsGame r) where
  after_legal : (p : Position) (ms : List ℕ) → r.is_legal p ≡ true → IsPlay r p ms → r.is_legal (position_after r p ms) ≡ true
  after_legal p [] l h = l
  after_legal p (m ∷ ms) l h = after_legal (r.play p m) ms (g.play_legal p m l h.0) h.1

  pub reached_legal : (c : Position) → IsReachedByPlay r c → r.is_legal c ≡ true
  reached_legal c (ms, h, e) = subst (λ (q : Position). r.is_legal q ≡ true) e (g.canonical_legal (position_after r r.initial ms)
      (after_legal r.initial ms g.initial_legal h))

  pub start_reached : IsReachedByPlay r (r.canonical r.initial)
  start_reached = ([], tt, refl)

  -- the canonical children of what is reached are reached
  pub child_reached : (c d : Position) → IsReachedByPlay r c → IsCanonicalChild r c d → IsReachedByPlay r d
  child_reached c d (ms, h, e) k =
      let q = position_after r r.initial ms in
      let legal = after_legal r.initial ms g.initial_legal h in
      let own : IsCanonicalChild r q d = (g.canonical_children q d legal).0 (subst (λ (x : Position). IsCanonicalChild r x d) (sym e) k) in
      let (m, listed, f) = child_move r q d own in
      (ms ++ m ∷ [], play_more r r.initial ms m h listed, ap r.canonical (after_push r r.initial ms m) ∙ f)

  -- a set of keys that has the canonical position of the start and the canonical children of its positions has all that is reached
  reached_after : (ks : List (ℕ × ℕ)) (p : Position) (ms : List ℕ) → ((c d : Position) → Contains ks (key_of c) → IsCanonicalChild r c d → Contains ks
      (key_of d)) → r.is_legal p ≡ true → IsPlay r p ms → Contains ks (key_of (r.canonical p)) → Contains ks (key_of (r.canonical (position_after r p ms)))
  reached_after ks p [] closed l h has = has
  reached_after ks p (m ∷ ms) closed l h has =
      let child : IsCanonicalChild r p (r.canonical (r.play p m)) = map_from r.canonical (children r p) (r.play p m) (map_from (r.play p) (r.moves p) m h.0) in
      let own = (g.canonical_children p (r.canonical (r.play p m)) l).1 child in
      reached_after ks (r.play p m) ms closed (g.play_legal p m l h.0) h.1 (closed (r.canonical p) (r.canonical (r.play p m)) has own)

-- at first the start is left to find
pub begins : (r : Rules) → IsGame r → (start : Position) → start ≡ r.canonical r.initial → IsSearched r [] [] (start ∷ [])
begins r g start e = record {
  start = inr (subst (Contains (start ∷ [])) e (contains_first start []));
  sound = λ c f. elim f [
    | inl k ↦ absurd (contains_none (key_of c) k)
    | inr l ↦ elim (contains_cases start c [] l) [ inl same ↦ subst (IsReachedByPlay r) (sym e ∙ same) (start_reached r g) | inr n ↦ absurd (contains_none c n) ]
  ];
  inside = λ c w. absurd (contains_none c w);
  closed = λ c k. absurd (contains_none (key_of c) k);
}

-- a position is found
module _ (r : Rules) (keys : List (ℕ × ℕ)) (waiting left : List Position) (c : Position) (h : IsSearched r keys waiting (c ∷ left)) where
  found_one : (new : List (ℕ × ℕ)) (waits : List Position) → ((k : ℕ × ℕ) → Contains keys k → Contains new k) → Contains new (key_of c)
      → ((d : Position) → Contains new (key_of d) → Contains keys (key_of d) ⊎ ((c ≡ d) × Contains waits c))
      → ((d : Position) → Contains waiting d → Contains waits d) → ((d : Position) → Contains waits d → Contains waiting d ⊎ (c ≡ d)) → IsSearched r new waits left
  found_one new waits grown there only kept from =
      let lift : (d : Position) → Contains keys (key_of d) ⊎ Contains (c ∷ left) d → Contains new (key_of d) ⊎ Contains left d = λ d f. elim f [
        | inl k ↦ inl (grown (key_of d) k)
        | inr l ↦ elim (contains_cases c d left l) [ inl e ↦ inl (subst (λ (x : Position). Contains new (key_of x)) e there) | inr t ↦ inr t ]
      ] in
      record {
        start = lift (r.canonical r.initial) h.start;
        sound = λ d f. elim f [
          | inr t ↦ h.sound d (inr (contains_later c d left t))
          | inl n ↦ elim (only d n) [ inl k ↦ h.sound d (inl k) | inr e ↦ h.sound d (inr (subst (Contains (c ∷ left)) e.0 (contains_first c left))) ]
        ];
        inside = λ d w. elim (from d w) [
          | inl o ↦ grown (key_of d) (h.inside d o)
          | inr e ↦ subst (λ (x : Position). Contains new (key_of x)) e there
        ];
        closed = λ d n. elim (only d n) [
          | inr e ↦ inl (subst (Contains waits) e.0 e.1)
          | inl k ↦ elim (h.closed d k) [ inl w ↦ inl (kept d w) | inr all ↦ inr (λ x child. lift x (all x child)) ]
        ];
      }

  pub found_old : Contains keys (key_of c) → IsSearched r keys waiting left
  found_old has = found_one keys waiting (λ k x. x) has (λ d n. inl n) (λ d w. w) (λ d w. inl w)

  pub found_new : (new : List (ℕ × ℕ)) → IsPermutation (key_of c ∷ keys) new → IsSearched r new (waiting ++ c ∷ []) left
  found_new new same =
      found_one new (waiting ++ c ∷ []) (λ k x. Contains-permutation (key_of c ∷ keys) new k same (contains_later (key_of c) k keys x))
      (Contains-permutation (key_of c ∷ keys) new (key_of c) same (contains_first (key_of c) keys))
      (λ d n. elim (contains_cases (key_of c) (key_of d) keys
      (Contains-permutation new (key_of c ∷ keys) (key_of d) (IsPermutation-sym (key_of c ∷ keys) new same) n)) [
        | inl e ↦ inr (ap (λ (k : ℕ × ℕ). at k.0 k.1) e, Contains-push waiting c)
        | inr o ↦ inl o
      ])
      (Contains-append_left waiting (c ∷ [])) (Contains-push_cases waiting c)

module _ (r : Rules) (g : IsGame r) (keys : List (ℕ × ℕ)) where
  -- the last position that waits is reached, and once it no longer waits, its canonical children are left to find
  module _ (waiting : List Position) (p : Position) (h : IsSearched r keys (waiting ++ p ∷ []) []) where
    last_reached : IsReachedByPlay r p
    last_reached = h.sound p (inl (h.inside p (Contains-push waiting p)))

    pub last_legal : r.is_legal p ≡ true
    last_legal = reached_legal r g p last_reached

    pub taken : (children : List Position) → ((d : Position) → Contains children d ↔ IsCanonicalChild r p d) → IsSearched r keys waiting children
    taken children exact =
        let found : (d : Position) → Contains keys (key_of d) ⊎ Contains [] d → Contains keys (key_of d) ⊎ Contains children d = λ d f. elim f [
          | inl k ↦ inl k
          | inr n ↦ absurd (contains_none d n)
        ] in
        record {
          start = found (r.canonical r.initial) h.start;
          sound = λ d f. elim f [ inl k ↦ h.sound d (inl k) | inr is ↦ child_reached r g p d last_reached ((exact d).0 is) ];
          inside = λ d w. h.inside d (Contains-append_left waiting (p ∷ []) d w);
          closed = λ d k. elim (h.closed d k) [
            | inr all ↦ inr (λ x child. found x (all x child))
            | inl w ↦ elim (Contains-push_cases waiting p d w) [
              | inl still ↦ inl still
              | inr e ↦ inr (λ x child. inr ((exact x).1 (subst (λ (y : Position). IsCanonicalChild r y x) (sym e) child)))
            ]
          ];
        }

  -- all is found once nothing waits
  pub all_searched : (waiting : List Position) → IsSearched r keys waiting [] → length waiting ≡ 0 → AreReachedKeys r keys
  all_searched waiting h l c = (
    λ k. h.sound c (inl k),
    λ (ms, play, e). subst (λ (q : Position). Contains keys (key_of q)) e (reached_after r g keys r.initial ms closed g.initial_legal play
        (elim h.start [ inl k ↦ k | inr n ↦ absurd (contains_none (r.canonical r.initial) n) ])),
  )
    where
      closed : (a d : Position) → Contains keys (key_of a) → IsCanonicalChild r a d → Contains keys (key_of d)
      closed a d has k = elim (h.closed a has) [
        | inl w ↦ absurd (let low = w.1 in omega arith)
        | inr all ↦ elim (all d k) [ inl f ↦ f | inr n ↦ absurd (contains_none d n) ]
      ]
