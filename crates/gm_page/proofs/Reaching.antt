-- The contents of a listing: positions that play from its start reaches, each from an earlier one, and all of them if no result is missing.
use Rattle.gm_page.proofs.Lower.{◌≡◌, ℕ, zero, suc, ◌+◌, ◌-◌, ◌<◌, ◌≤◌, true, List, [], ◌∷◌, ◌++◌, map, length, get_or, slice_get, Some, refl, sym, ap, ◌∙◌, subst, ◌⊎◌, inl, inr, arith, All, Contains, cases_lt, Contains-get_or, Position, Rules, contains_none, contains_cases, IsReached, MoveValue, AreBest, with_new, with_all, result_of}
use Rattle.std.proofs.lemmas.Option.{slice_get_within, slice_get-get_or}
use Rattle.std.proofs.lemmas.List.Elements.{Contains-push_cases, All-contains, Contains-append_left}
use Rattle.gm_play.specs.BestLines.{AreFresh, IsBestLine, positions_along}
use Rattle.gm_play.specs.MoveValues.{AreMoveValues, IsMoveValue}
use Rattle.gm_page.specs.Listings.{IsListedAfter, ComesFromEarlier, IsListing, IsReachedFrom, IsClosed}
use Rattle.std.proofs.lemmas.List.Sorted.{Contains-permutation, IsPermutation-sym}
use Rattle.gm_game.specs.Laws.{IsGame}
use Rattle.gm_game.proofs.Lists.{map_in, map_from}
use Rattle.gm_play.proofs.Reaching.{own_reached, played_reached, reached_reached}
use Rattle.gm_find.specs.Reaching.{IsPlay}
use Rattle.gm_play.specs.declared.best_line.BestLine.{BestLine}
use Rattle.gm_play.specs.Lines.{position_after}
use Rattle.gm_page.proofs.Places.{new_cases}
use Rattle.gm_page.proofs.Growing.{earlier_more, new_keeps, new_there, all_keep, all_stays, all_longer, all_there, full_all, place_stays, place_more, long_more}
use Rattle.gm_game.proofs.MaskLemmas.{at_place}
use Rattle.gm_play.proofs.Walking.{fresh_push}

module _ (r : Rules) where
  -- ---- lines of play
  play_more : (p : Position) (ms : List ℕ) (m : ℕ) → IsPlay r p ms → Contains (r.moves (position_after r p ms)) m → IsPlay r p (ms ++ m ∷ [])
  play_more p [] m h has = (has, tt)
  play_more p (n ∷ ns) m h has = (h.0, play_more (r.play p n) ns m h.1 has)

  after_more : (p : Position) (ms : List ℕ) (m : ℕ) → position_after r p (ms ++ m ∷ []) ≡ r.play (position_after r p ms) m
  after_more p [] m = refl
  after_more p (n ∷ ns) m = after_more (r.play p n) ns m

  pub reached_more : (start p : Position) (m : ℕ) → IsReachedFrom r start p → Contains (r.moves p) m → IsReachedFrom r start (r.play p m)
  reached_more start p m (ms, h, e) has = (
    ms ++ m ∷ [],
    play_more start ms m h (subst (λ (q : Position). Contains (r.moves q) m) (sym e) has),
    after_more start ms m ∙ ap
        (λ (q : Position). r.play q m) e,
  )

  comes_to : IsGame r → (p : Position) (ms : List ℕ) → r.is_legal p ≡ true → IsPlay r p ms → IsReached r p.tier (position_after r p ms)
  comes_to g p [] l h = own_reached r p l
  comes_to g p (m ∷ ms) l h = reached_reached r p.tier (r.play p m) (position_after r (r.play p m) ms) (played_reached r g p m l h.0)
      (comes_to g (r.play p m) ms (g.play_legal p m l h.0) h.1)

  pub reached_on : IsGame r → (start p : Position) → r.is_legal start ≡ true → IsReachedFrom r start p → IsReached r start.tier p
  reached_on g start p l (ms, h, e) = subst (IsReached r start.tier) e (comes_to g start ms l h)

  -- best play is play
  pub best_is_play : (p : Position) (ms : List ℕ) → AreBest r p ms → IsPlay r p ms
  best_is_play p [] h = tt
  best_is_play p (m ∷ ms) h = (h.0.1.best.there, best_is_play (r.play p m) ms h.1)

  -- ---- the results of the moves of a position
  pub result_is : (p : Position) (xs : List MoveValue) → AreMoveValues r p xs → (q : Position) → Contains (map result_of xs) q → (m : ℕ) × Contains
      (r.moves p) m × (r.play p m ≡ q)
  result_is p xs h q c =
      let number : MoveValue → ℕ = λ (y : MoveValue). y.number in
      let (x, has, e) = map_in result_of xs q c in
      let there : Contains (r.moves p) x.number = Contains-permutation (map number xs) (r.moves p) x.number
      (IsPermutation-sym (r.moves p) (map number xs) h.listed) (map_from number xs x has) in
      (x.number, there, sym (value_at xs h.each x has).position ∙ e)
    where
      value_at : (xs : List MoveValue) → All (IsMoveValue r p) xs → (x : MoveValue) → Contains xs x → IsMoveValue r p x
      value_at xs each x has = All-contains (IsMoveValue r p) xs x each has

  pub result_there : (p : Position) (xs : List MoveValue) → AreMoveValues r p xs → (m : ℕ) → Contains (r.moves p) m → Contains (map result_of xs) (r.play p m)
  result_there p xs h m c =
      let number : MoveValue → ℕ = λ (y : MoveValue). y.number in
      let (x, has, e) = map_in number xs m (Contains-permutation (r.moves p) (map number xs) m h.listed c) in
      subst (Contains (map result_of xs)) ((All-contains (IsMoveValue r p) xs x h.each has).position ∙ ap (r.play p) e) (map_from result_of xs x has)

  -- a closed list has each position that play reaches from one of its positions
  pub closed_has : (all : List Position) → IsClosed r all → (p : Position) (ms : List ℕ) → Contains all p → IsPlay r p ms → Contains all (position_after r p ms)
  closed_has all closed p [] has h = has
  closed_has all closed p (m ∷ ms) has h = closed_has all closed (r.play p m) ms (closed p m has h.0) h.1

-- the first k positions have been processed, beginning with those of the line of best play
abbrev pub IsGoneThrough : Rules → Position → ℕ → ℕ → List Position → Type 0
IsGoneThrough r start limit k all = (line : BestLine) × IsBestLine r start (limit - 1) line × IsListedAfter r limit line.positions.items k all

module _ (r : Rules) (start : Position) (limit : ℕ) where
  -- ---- what each step of a listing keeps
  pub record IsKept (l : List Position) : Type 0 where
    pub few : length l ≤ limit
    pub fresh : AreFresh l
    pub reached : (p : Position) → Contains l p → IsReachedFrom r start p
    pub earlier : ComesFromEarlier r l
    pub first : 1 ≤ limit → slice_get l 0 ≡ Some start

  -- no position, or the start alone
  kept_short : (l : List Position) → length l ≤ 1 → length l ≤ limit → ((p : Position) → Contains l p → start ≡ p) → (1 ≤ limit → slice_get l 0 ≡ Some start)
      → IsKept l
  kept_short l short few same first = record {
    few = few;
    fresh = λ i j d less inside e. absurd (omega arith);
    reached = λ p c. subst (IsReachedFrom r start) (same p c) ([], tt, refl);
    earlier = λ j d some inside. absurd (omega arith);
    first = first;
  }

  -- one more result of a move
  kept_more : (l : List Position) (p q : Position) (m : ℕ) → IsKept l → Contains l p → Contains (r.moves p) m → r.play p m ≡ q → (Contains l q → ⊥)
      → length l < limit → IsKept (l ++ q ∷ [])
  kept_more l p q m h has listed e absent room = record {
    few = let n = long_more l q in omega arith;
    fresh = fresh_push l q h.fresh absent;
    reached = λ x c. elim (Contains-push_cases l q x c) [
      | inl d ↦ h.reached x d
      | inr f ↦ subst (IsReachedFrom r start) (e ∙ f) (reached_more r start p m (h.reached p has) listed)
    ];
    earlier = earlier_more r l p q m h.earlier has listed e;
    first = λ some. place_more l q 0 start (h.first some);
  }

  kept_first : IsKept (with_new limit [] start)
  kept_first = elim (new_cases limit [] start) [
    | inl a ↦ subst IsKept (sym a.0) (kept_short [] (omega arith) (omega arith) (λ p c. absurd (contains_none p c)) (λ some. elim a.1 [
      | inl c ↦ absurd (contains_none start c)
      | inr full ↦ absurd (omega arith)
    ]))
    | inr b ↦ (let room = b.2 in subst IsKept (sym b.0) (kept_short (start ∷ []) (omega arith) (omega arith)
        (λ p c. elim (contains_cases start p [] c) [ inl e ↦ e | inr d ↦ absurd (contains_none p d) ]) (λ some. refl)))
  ]

  -- a line of play from a newly listed position
  kept_along : (ms : List ℕ) (old : List Position) (q : Position) → IsPlay r q ms → IsKept (with_new limit old q) → IsKept
      (with_all limit old (positions_along r q ms))
  kept_along [] old q h k = k
  kept_along (m ∷ ms) old q h k =
      let l = with_new limit old q in
      elim (new_there limit old q) [
        | inl c ↦ kept_along ms l (r.play q m) h.1 (new_keeps limit IsKept l (r.play q m) k (kept_more l q (r.play q m) m k c h.0 refl))
        | inr full ↦ subst IsKept (sym (full_all limit (positions_along r (r.play q m) ms) l full)) k
      ]

  -- the results of the moves of a listed position
  kept_results : (old : List Position) (p : Position) (xs : List MoveValue) → IsKept old → Contains old p → AreMoveValues r p xs → IsKept
      (with_all limit old (map result_of xs))
  kept_results old p xs h has values = (all_keep limit (λ l. Contains l p × IsKept l) (map result_of xs) (λ l q i (inside, kept) absent room.
      (let (m, listed, e) = result_is r p xs values q i in (
        Contains-append_left l (q ∷ []) p inside,
        kept_more l p q m kept inside listed e absent room,
      ))) old (has, h)).1

  -- ---- what is known after the first k positions have been processed
  -- each result of them is listed, or the list is full
  abbrev pub AreThere : ℕ → List Position → Type 0
  AreThere k all = (i : ℕ) (p : Position) (m : ℕ) → i < k → slice_get all i ≡ Some p → Contains (r.moves p) m
      → Contains all (r.play p m) ⊎ (limit ≤ length all)

  there_more : (k : ℕ) (old : List Position) (q : Position) (xs : List MoveValue) → slice_get old k ≡ Some q → AreMoveValues r q xs → AreThere k old
      → AreThere (suc k) (with_all limit old (map result_of xs))
  there_more k old q xs there values before i p m below here listed =
      let qs = map result_of xs in
      elim (cases_lt i k) [
        | inl lower ↦ (
            let within : i < length old = (let a = slice_get_within old k q there in omega arith) in
            let own : slice_get old i ≡ Some (get_or old i p) = slice_get-get_or old i p within in
            let same : get_or old i p ≡ p = (let f : Some (get_or old i p) ≡ Some p = sym (place_stays limit qs old i (get_or old i p) own) ∙ here in cc) in
            elim (before i p m lower (own ∙ ap Some same) listed) [
              | inl c ↦ inl (all_stays limit qs old (r.play p m) c)
              | inr full ↦ inr (let b = all_longer limit qs old in omega arith)
            ])
        | inr at_k ↦ (
            let i_is : i ≡ k = omega arith in
            let same : q ≡ p = (let f : Some q ≡ Some p = sym (place_stays limit qs old k q there) ∙ ap (slice_get (with_all limit old qs)) (sym i_is) ∙ here
            in cc) in
            all_there limit qs old (r.play p m)
            (subst (λ (x : Position). Contains (r.moves x) m → Contains qs (r.play x m)) same (result_there r q xs values m) listed))
      ]

  pub record IsKnown (k : ℕ) (all : List Position) : Type 0 where
    pub kept : IsKept all
    pub within : k ≤ length all
    pub there : AreThere k all

  known_after : (ms : List ℕ) → IsPlay r start ms → (k : ℕ) (all : List Position) → IsListedAfter r limit (positions_along r start ms) k all → IsKnown k all
  known_after ms h zero all e = subst (IsKnown 0) (sym e) (record {
    kept = kept_along ms [] start h kept_first;
    within = omega arith;
    there = λ i p m below here listed. absurd (omega arith);
  })
  known_after ms h (suc k) all (old, p, xs, before, here, values, e) =
      let known = known_after ms h k old before in
      subst (IsKnown (suc k)) (sym e) (record {
        kept = kept_results old p xs known.kept (at_place old k p here) values;
        within = let a = slice_get_within old k p here in let b = all_longer limit (map result_of xs) old in omega arith;
        there = there_more k old p xs here values known.there;
      })

  pub through_known : (k : ℕ) (all : List Position) → IsGoneThrough r start limit k all → IsKnown k all
  through_known k all (line, best, through) =
      known_after line.moves.items (best_is_play r start line.moves.items best.best) k all
      (subst (λ (ps : List Position). IsListedAfter r limit ps k all) best.positions through)

  -- ---- a listing under construction
  -- one more position has been processed
  pub more_through : (k : ℕ) (old new : List Position) (p : Position) → IsGoneThrough r start limit k old → slice_get old k ≡ Some p
      → ((xs : List MoveValue) × AreMoveValues r p xs × (new ≡ with_all limit old (map result_of xs))) → IsGoneThrough r start limit (k + 1) new
  more_through k old new p (line, best, before) here (xs, values, e) =
      subst (λ (n : ℕ). IsGoneThrough r start limit n new) (let z : suc k ≡ k + 1 = omega arith in z) (line, best, (old, p, xs, before, here, values, e))

  -- all positions have been processed
  pub all_through : (k : ℕ) (all : List Position) → IsGoneThrough r start limit k all → length all ≤ k → IsListing r start limit all
  all_through k all (line, best, through) l =
      let within = (through_known k all (line, best, through)).within in
      let same : k ≡ length all = omega arith in
      record { line = line; is_best = best; gone_through = subst (λ (n : ℕ). IsListedAfter r limit line.positions.items n all) same through }

  -- ---- the laws of a listing
  pub listing_known : (all : List Position) → IsListing r start limit all → IsKnown (length all) all
  listing_known all h = through_known (length all) all (h.line, h.is_best, h.gone_through)

  pub listing_held : IsGame r → r.is_legal start ≡ true → (all : List Position) → IsListing r start limit all → All (IsReached r start.tier) all
  listing_held g legal all h k d l =
      reached_on r g start (get_or all k d) legal ((listing_known all h).kept.reached (get_or all k d) (Contains-get_or all k d l))

  pub listing_whole : 1 ≤ limit → (all : List Position) → IsListing r start limit all → IsClosed r all → (p : Position) → IsReachedFrom r start p
      → Contains all p
  listing_whole some all h closed p (ms, play, e) =
      subst (Contains all) e (closed_has r all closed start ms (at_place all 0 start ((listing_known all h).kept.first some)) play)

  -- a list that is not full is closed
  pub listing_full : (all : List Position) → IsListing r start limit all → (IsClosed r all → ⊥) → length all ≡ limit
  listing_full all h open_ =
      let known = listing_known all h in
      elim (cases_lt (length all) limit) [
        | inl room ↦ absurd (open_ (λ p m (k, inside, e) listed. elim (known.there k p m inside (slice_get-get_or all k p inside ∙ ap Some e) listed) [
          | inl c ↦ c
          | inr full ↦ absurd (omega arith)
        ]))
        | inr full ↦ (let few = known.kept.few in omega arith)
      ]
