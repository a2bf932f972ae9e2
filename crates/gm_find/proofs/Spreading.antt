-- Positions that are met along best play.
use Rattle.gm_find.proofs.Lower.{◌≡◌, ℕ, ◌+◌, ◌<◌, ◌↔◌, inl, inr, Bool, true, List, [], ◌∷◌, ◌++◌, length, get_or, take, refl, sym, ap, ◌∙◌, subst, arith, All, Contains, Contains-get_or, Position, Rules, at, contains_none, contains_first, contains_later, contains_cases, length-append, take_more}
use Rattle.std.proofs.Common.{◌≤◌, ◌⊎◌, Option, None, Some, false, not, Result, Ok, Err, OnOk}
use Rattle.std.proofs.lemmas.Bool.{not-false}
use Rattle.gm_play.proofs.Lower.{cases_lt}
use Rattle.std.proofs.lemmas.List.Sorted.{Contains-permutation, IsPermutation-sym}
use Rattle.std.specs.Prelude.{IsPermutation}
use Rattle.std.specs.Bool.{MatchBool}
use Rattle.std.specs.List.{list_any}
use Rattle.gm_find.specs.declared.found.Found.{Found}
use Rattle.gm_find.specs.declared.places.Places.{Places}
use Rattle.gm_find.specs.declared.spread.Taken.{Taken}
use Rattle.gm_find.specs.declared.sought.Order.{Order}
use Rattle.gm_find.specs.Reaching.{key_of}
use Rattle.gm_find.specs.inner.Takings.{AreTaken, HasRoom, HasSome, IsIn, IsOneMore, Takes}
use Rattle.gm_find.proofs.Keys.{is_key, key_found}
use Rattle.gm_find.proofs.Picking.{picked_in}
use Rattle.std.proofs.lemmas.List.Elements.{Contains-push_cases, Contains-push, Contains-append_left}
use Rattle.gm_play.specs.BestLines.{AreBest}
use Rattle.gm_play.specs.BestMoves.{IsBestMove}
use Rattle.gm_play.specs.Lines.{position_after}
use Rattle.gm_play.proofs.Keeping.{best_once}
use Rattle.gm_play.proofs.Walking.{after_push}
use Rattle.gm_find.specs.Spreading.{IsMet, AreApart, MayBeTaken, Spreads, IsInOrder, AreApartOf}

module _ (r : Rules) where
  -- one more best move
  best_push : (p : Position) (ms : List ℕ) (m : ℕ) → AreBest r p ms → IsBestMove r (position_after r p ms) (Some m) → AreBest r p (ms ++ m ∷ [])
  best_push p [] m h b = (b, tt)
  best_push p (n ∷ ns) m h b = (h.0, best_push (r.play p n) ns m h.1 b)

  -- a line of best moves that is no longer than another is the beginning of it
  lines_once : (p : Position) (ms ns : List ℕ) → AreBest r p ms → AreBest r p ns → length ms ≡ length ns → ms ≡ ns
  lines_once p [] [] a b e = refl
  lines_once p [] (n ∷ ns) a b e = absurd (cc)
  lines_once p (m ∷ ms) [] a b e = absurd (cc)
  lines_once p (m ∷ ms) (n ∷ ns) a b e =
      let f = best_once r p m n a.0 b.0 in
      let there : AreBest r (r.play p m) ns = subst (λ (x : ℕ). AreBest r (r.play p x) ns) (sym f) b.1 in
      subst (λ (x : ℕ). m ∷ ms ≡ x ∷ ns) f (ap (λ (l : List ℕ). m ∷ l) (lines_once (r.play p m) ms ns a.1 there (omega arith)))

  -- after an end there is no best move
  ends_there : (p : Position) (ms ns : List ℕ) → AreBest r p ms → AreBest r p ns → IsBestMove r (position_after r p ms) None → length ns ≤ length ms
  ends_there p ms [] a b end = omega arith
  ends_there p [] (n ∷ ns) a b end = absurd (end b.0.0)
  ends_there p (m ∷ ms) (n ∷ ns) a b end =
      let f = best_once r p m n a.0 b.0 in
      let there : AreBest r (r.play p m) ns = subst (λ (x : ℕ). AreBest r (r.play p x) ns) (sym f) b.1 in
      let less = ends_there (r.play p m) ms ns a.1 there end in
      omega arith

  -- a list of what is met along these moves
  pub record IsWalked (p here : Position) (k : ℕ) (met : List Position) : Type 0 where
    pub moves : List ℕ
    pub best : AreBest r p moves
    pub long : length moves ≡ k
    pub here_is : here ≡ position_after r p moves
    pub exact : (q : Position) → Contains met q ↔ IsMet r p k q

  pub walk_begins : (p : Position) (met : List Position) → met ≡ r.canonical p ∷ [] → IsWalked p p 0 met
  walk_begins p met e = record {
    moves = [];
    best = tt;
    long = refl;
    here_is = refl;
    exact = λ q. (
      λ has. elim (contains_cases (r.canonical p) q [] (subst (λ (l : List Position). Contains l q) e has)) [
        | inl same ↦ ([], tt, omega arith, same)
        | inr none ↦ absurd (contains_none q none)
      ],
      λ h. subst (λ (l : List Position). Contains l q) (sym e) (first q h),
    );
  }
    where
      first : (q : Position) → IsMet r p 0 q → Contains (r.canonical p ∷ []) q
      first q ([], b, l, same) = subst (Contains (r.canonical p ∷ [])) same (contains_first (r.canonical p) [])
      first q (m ∷ ms, b, l, same) = absurd (omega arith)

  pub walk_goes_on : (p here there : Position) (k m : ℕ) (met new : List Position) → IsWalked p here k met → IsBestMove r here (Some m) → there ≡ r.play here m
      → new ≡ met ++ r.canonical there ∷ [] → IsWalked p there (k + 1) new
  walk_goes_on p here there k m met new w best is e =
      let ms = w.moves in
      let b : IsBestMove r (position_after r p ms) (Some m) = subst (λ (x : Position). IsBestMove r x (Some m)) w.here_is best in
      let longer : length (ms ++ m ∷ []) ≡ k + 1 = length-append ms (m ∷ []) ∙ ap (λ (n : ℕ). n + 1) w.long in
      let goes : position_after r p (ms ++ m ∷ []) ≡ there = after_push r p ms m ∙ ap (λ (x : Position). r.play x m) (sym w.here_is) ∙ sym is in
      record {
        moves = ms ++ m ∷ [];
        best = best_push p ms m w.best b;
        long = longer;
        here_is = sym goes;
        exact = λ q. (
          λ has. elim (Contains-push_cases met (r.canonical there) q (subst (λ (l : List Position). Contains l q) e has)) [
            | inl old ↦ (let (ns, c, l, same) = (w.exact q).0 old in (ns, c, omega arith, same))
            | inr last ↦ (ms ++ m ∷ [], best_push p ms m w.best b, omega arith, ap r.canonical goes ∙ last)
          ],
          λ (ns, c, l, same). subst (λ (l : List Position). Contains l q) (sym e) (elim (cases_lt (length ns) (k + 1)) [
            | inl few ↦ Contains-append_left met (r.canonical there ∷ []) q ((w.exact q).1 (ns, c, omega arith, same))
            | inr past ↦ (
                let all : length ns ≡ k + 1 = omega arith in
                let f = lines_once p (ms ++ m ∷ []) ns (best_push p ms m w.best b) c (longer ∙ sym all) in
                let last : r.canonical there ≡ q = ap r.canonical (sym goes ∙ ap (position_after r p) f) ∙ same in
                subst (Contains (met ++ r.canonical there ∷ [])) last (Contains-push met (r.canonical there)))
          ]),
        );
      }

  -- no more is met where the game has ended, or after the last move
  pub walk_ends : (p here : Position) (k n : ℕ) (met : List Position) → IsWalked p here k met → k ≤ n → IsBestMove r here None → (q : Position)
      → Contains met q ↔ IsMet r p n q
  walk_ends p here k n met w few end q = (
    λ has. (let (ns, c, l, same) = (w.exact q).0 has in (ns, c, omega arith, same)),
    λ (ns, c, l, same). (
        let over : IsBestMove r (position_after r p w.moves) None = subst (λ (x : Position). IsBestMove r x None) w.here_is end in
        let less = ends_there p w.moves ns w.best c over in
        let long = w.long in
        (w.exact q).1 (ns, c, omega arith, same)),
  )

-- ---- sets of positions
pub key_put : (keys new : List (ℕ × ℕ)) (p : Position) (b : Bool) → MatchBool b (IsPermutation (key_of p ∷ keys) new) (new ≡ keys)
    → b ≡ not (list_any (is_key p.tier p.index) keys) → (q : Position) → Contains new (key_of q) ↔ (Contains keys (key_of q) ⊎ (p ≡ q))
key_put keys new p true same added q = (
  λ has. elim (contains_cases (key_of p) (key_of q) keys (Contains-permutation new (key_of p ∷ keys) (key_of q) (IsPermutation-sym (key_of p ∷ keys) new same) has)) [
    | inl e ↦ inr (ap (λ (k : ℕ × ℕ). at k.0 k.1) e)
    | inr old ↦ inl old
  ],
  λ f. Contains-permutation (key_of p ∷ keys) new (key_of q) same (elim f [
    | inl old ↦ contains_later (key_of p) (key_of q) keys old
    | inr e ↦ subst (λ (x : Position). Contains (key_of p ∷ keys) (key_of x)) e (contains_first (key_of p) keys)
  ]),
)
key_put keys new p false same added q =
    let there : Contains keys (key_of p) = key_found p.tier p.index keys (not-false _ (sym added)) in (
      λ has. inl (subst (λ (l : List (ℕ × ℕ)). Contains l (key_of q)) same has),
      λ f. subst (λ (l : List (ℕ × ℕ)). Contains l (key_of q)) (sym same) (elim f [
        | inl old ↦ old
        | inr e ↦ subst (λ (x : Position). Contains keys (key_of x)) e there
      ]),
    )

-- one more of some positions is added to a set
pub met_next : (s t u : Places) (qs : List Position) (k : ℕ) (d : Position) → k < length qs
    → ((q : Position) → IsIn t q ↔ (IsIn s q ⊎ Contains (take k qs) q)) → ((q : Position) → IsIn u q ↔ (IsIn t q ⊎ (get_or qs k d ≡ q))) → (q : Position)
    → IsIn u q ↔ (IsIn s q ⊎ Contains (take (k + 1) qs) q)
met_next s t u qs k d inside before more q =
    let e = take_more qs k d inside in (
      λ has. elim ((more q).0 has) [
        | inl old ↦ elim ((before q).0 old) [
          | inl first ↦ inl first
          | inr there ↦ inr (subst (λ (l : List Position). Contains l q) (sym e) (Contains-append_left (take k qs) (get_or qs k d ∷ []) q there))
        ]
        | inr same ↦ inr (subst (λ (l : List Position). Contains l q) (sym e) (subst (Contains (take k qs ++ get_or qs k d ∷ [])) same
            (Contains-push (take k qs) (get_or qs k d))))
      ],
      λ f. (more q).1 (elim f [
        | inl first ↦ inl ((before q).1 (inl first))
        | inr there ↦ elim (Contains-push_cases (take k qs) (get_or qs k d) q (subst (λ (l : List Position). Contains l q) e there)) [
          | inl old ↦ inl ((before q).1 (inr old))
          | inr same ↦ inr same
        ]
      ]),
    )

-- ---- positions that are taken
module _ (r : Rules) (k n : ℕ) (x : Found) (t : Taken) (h : AreTaken r t) where
  -- without room, or met from another, it may not be taken
  pub no_room : (HasRoom k n x t → ⊥) → MayBeTaken r k n t.found.items x → ⊥
  no_room none may = none (record {
    room = may.room;
    unmet = λ has. (let (y, there, m) = (h.met x.position).0 has in let (i, l, e) = there in (subst (λ (z : Found). AreApart r z x) e (may.apart i y l)).after m);
    few = may.few;
  })

  module _ (along : List Position) (exact : (q : Position) → Contains along q ↔ IsMet r x.position x.value.remoteness q) where
    pub not_beside : HasSome t.own along → MayBeTaken r k n t.found.items x → ⊥
    not_beside (q, has, own) may =
        let (y, there, e) = (h.own q).0 own in
        let (i, l, f) = there in
        (subst (λ (z : Found). AreApart r z x) f (may.apart i y l)).before (subst (IsMet r x.position x.value.remoteness) (sym e) ((exact q).0 has))

    pub may_be : HasRoom k n x t → (HasSome t.own along → ⊥) → MayBeTaken r k n t.found.items x
    may_be room none = record {
      room = room.room;
      apart = λ i d l.
          let y = get_or t.found.items i d in
          let there = Contains-get_or t.found.items i d l in
          record {
            after = λ m. room.unmet ((h.met x.position).1 (y, there, m));
            before = λ m. none (y.position, (exact y.position).1 m, (h.own y.position).1 (y, there, refl));
          };
      few = room.few;
    }

    pub taken_more : (u : Taken) → IsOneMore x along t u → AreTaken r u
    taken_more u one = record {
      own = λ q. (
        λ has. elim ((one.own q).0 has) [
          | inl old ↦ (let (y, there, e) = (h.own q).0 old in (y, kept y there, e))
          | inr e ↦ (x, last, e)
        ],
        λ (y, there, e). (one.own q).1 (elim (cases y there) [
          | inl old ↦ inl ((h.own q).1 (y, old, e))
          | inr same ↦ inr (ap (λ (z : Found). z.position) same ∙ e)
        ]),
      );
      met = λ q. (
        λ has. elim ((one.met q).0 has) [
          | inl old ↦ (let (y, there, m) = (h.met q).0 old in (y, kept y there, m))
          | inr on ↦ (x, last, (exact q).0 on)
        ],
        λ (y, there, m). (one.met q).1 (elim (cases y there) [
          | inl old ↦ inl ((h.met q).1 (y, old, m))
          | inr same ↦ inr ((exact q).1 (subst (λ (z : Found). IsMet r z.position z.value.remoteness q) (sym same) m))
        ]),
      );
    }
      where
        kept : (y : Found) → Contains t.found.items y → Contains u.found.items y
        kept y there = subst (λ (l : List Found). Contains l y) (sym one.found) (Contains-append_left t.found.items (x ∷ []) y there)

        last : Contains u.found.items x
        last = subst (λ (l : List Found). Contains l x) (sym one.found) (Contains-push t.found.items x)

        cases : (y : Found) → Contains u.found.items y → Contains t.found.items y ⊎ (x ≡ y)
        cases y there = Contains-push_cases t.found.items x y (subst (λ (l : List Found). Contains l y) one.found there)

-- one more position is considered
pub spreads_more : (r : Rules) (k n : ℕ) (x : Found) (old new ys zs : List Found) → Takes r k n x old new → Spreads r k n new ys zs → Spreads r k n old (x ∷ ys) zs
spreads_more r k n x old new ys zs (inl (may, e)) h = inl (may, subst (λ (l : List Found). Spreads r k n l ys zs) e h)
spreads_more r k n x old new ys zs (inr (not_so, e)) h = inr (not_so, subst (λ (l : List Found). Spreads r k n l ys zs) e h)

-- ---- what is taken is one of those that are considered
spreads_in : (r : Rules) (k n : ℕ) (xs ys zs : List Found) → Spreads r k n xs ys zs → (z : Found) → Contains zs z → Contains xs z ⊎ Contains ys z
spreads_in r k n xs [] zs h z has = inl (subst (λ (l : List Found). Contains l z) h has)
spreads_in r k n xs (y ∷ ys) zs (inl (may, h)) z has = elim (spreads_in r k n (xs ++ y ∷ []) ys zs h z has) [
  | inl before ↦ elim (Contains-push_cases xs y z before) [
    | inl first ↦ inl first
    | inr same ↦ inr (subst (Contains (y ∷ ys)) same (contains_first y ys))
  ]
  | inr later ↦ inr (contains_later y z ys later)
]
spreads_in r k n xs (y ∷ ys) zs (inr (not_so, h)) z has = elim (spreads_in r k n xs ys zs h z has) [
  | inl before ↦ inl before
  | inr later ↦ inr (contains_later y z ys later)
]

spread_in : (r : Rules) (k n : ℕ) (ys zs : List Found) → Spreads r k n [] ys zs → (z : Found) → Contains zs z → Contains ys z
spread_in r k n ys zs h z has = elim (spreads_in r k n [] ys zs h z has) [ inl none ↦ absurd (contains_none z none) | inr there ↦ there ]

pub apart_in : (r : Rules) (k n : ℕ) (seed : Option ℕ) (ys zs : List Found) → AreApartOf r k n seed ys zs → (z : Found) → Contains zs z → Contains ys z
apart_in r k n None ys zs h z has = spread_in r k n ys zs h z has
apart_in r k n (Some seed) ys zs (all, h, sample) z has = spread_in r k _ ys all h z (picked_in all zs z sample.picked has)

pub in_order_in : (order : Option Order) (xs ys : List Found) → IsInOrder order xs ys → (y : Found) → Contains ys y → Contains xs y
in_order_in None xs ys h y has = subst (λ (l : List Found). Contains l y) h has
in_order_in (Some order) xs ys h y has = Contains-permutation ys xs y (IsPermutation-sym xs ys h.same) has

pub all_within : (P : Found → Type 0) (xs ys : List Found) → ((y : Found) → Contains ys y → Contains xs y) → All P xs → All P ys
all_within P xs ys within all k d inside =
    let (i, l, e) = within (get_or ys k d) (Contains-get_or ys k d inside) in
    subst P e (all i (get_or ys k d) l)

-- what follows where something is so of a success
pub on_ok : {T E : Type 0} → (m : Result T E) (A B : Type 0) → (A → B) → OnOk m A → OnOk m B
on_ok (Ok x) A B f a = f a
on_ok (Err e) A B f a = tt
