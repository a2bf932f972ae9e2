-- Tables that are cached: one is found there, and one more is put there; and positions that are read one by one.
use Rattle.gm_table.proofs.Lower.{◌≡◌, ◌≢◌, ℕ, ◌+◌, ◌<◌, ◌≤◌, ◌==◌, ◌⊎◌, inl, inr, Bool, true, false, if◌then◌else◌, List, [], ◌∷◌, ◌++◌, Option, None, Some, IsSome, length, map, take, get_or, set, option_copied, cond, refl, sym, ap, subst, ◌∙◌, eqb-true, eq-eqb, ne_eqb, arith, Contains, Summary, TableData, table_of, record_of, Position, Solved, is_decided, record_of_short, contains_none, take_more, take_all, map-append, length-map, length-take, CacheData, IsSummary, other_table, Rules, IsGame, IsCanonical, AreResults, contains_first, contains_later, look_up, value_in}
use Rattle.std.proofs.Common.{eqb, filter}
use Rattle.std.proofs.lemmas.List.Elements.{Contains-push_cases}
use Rattle.gm_table.specs.declared.cache.Shorts.{Shorts}
use Rattle.std.specs.Borrow.{Bor}
use Rattle.std.proofs.lemmas.Bool.{cases_Bool, eqb-false}
use Rattle.std.proofs.lemmas.List.{length-set, get_or-set_same, get_or-set_other, get_or_default, map_more}
use Rattle.gm_game.specs.Records.{lost_in, tied_in, settle, settled_by, lesser, greater, won_in}
use Rattle.gm_table.specs.inner.Caches.{AreCached, AreRead, AreShorts, IsSumOf, other_record}
use Rattle.gm_game.proofs.Symmetry.{near_child}
use Rattle.gm_table.proofs.CheckLemmas.{found_tier, look_up_value, settled_results, value_canonical}
use Rattle.gm_table.proofs.ReadLemmas.{summary_more, decided_more}
use Rattle.gm_table.proofs.ValueLemmas.{record_held}

-- the table that is found for another tier is the map's, and the tier's
pub other_held : (c : CacheData) (tier : ℕ) (t : TableData) → other_table c tier ≡ Some t → table_of c.tables tier ≡ Some t
other_held c tier t e = go (tier == c.tier) e
  where
    go : (b : Bool) → (if b then None else table_of c.tables tier) ≡ Some t → table_of c.tables tier ≡ Some t
    go true s = absurd (cc)
    go false s = s

other_found : (c : CacheData) (tier : ℕ) (t : TableData) → other_table c tier ≡ Some t → t.tier ≡ tier
other_found c tier t e = found_tier c.tables tier t (other_held c tier t e)

-- where none is found, the tier is the cache's own, or the map has none
pub other_none : (c : CacheData) (tier : ℕ) → other_table c tier ≡ None → (tier ≡ c.tier) ⊎ (table_of c.tables tier ≡ None)
other_none c tier e = go (tier == c.tier) refl e
  where
    go : (b : Bool) → (tier == c.tier) ≡ b → (if b then None else table_of c.tables tier) ≡ None → (tier ≡ c.tier) ⊎ (table_of c.tables tier ≡ None)
    go true q s = inl (eqb-true tier c.tier q)
    go false q s = inr s

-- of its own tier a cache has no table
pub own_table : (c : CacheData) (tier : ℕ) → tier ≡ c.tier → None ≡ other_table c tier
own_table c tier e = sym (ap (λ (b : Bool). if b then None else table_of c.tables tier) (eq-eqb tier c.tier e))

-- of other tiers it has the map's
pub else_table : (c : CacheData) (tier : ℕ) → tier ≢ c.tier → table_of c.tables tier ≡ other_table c tier
else_table c tier e = sym (ap (λ (b : Bool). if b then None else table_of c.tables tier) (ne_eqb tier c.tier e))

module _ (c : CacheData) (last : List (Option (Bor TableData))) (shorts : List Shorts) (cached : AreCached c last shorts) (slot tier : ℕ) (inside : slot < 8)
    (o : Option (Bor TableData)) where
  in_last : slot < length last
  in_last = let long = cached.long in omega (arith, long, inside)

  -- what is in a slot, if it is this tier's table
  pub known_table : o ≡ get_or last slot o → (t : TableData) × (option_copied o ≡ Some t) × (t.tier ≡ tier) → option_copied o ≡ other_table c tier
  known_table is (t, e, f) = e ∙ sym (subst (λ (k : ℕ). other_table c k ≡ Some t) f
      (cached.table slot inside t (ap option_copied (get_or_default last slot None o in_last ∙ sym is) ∙ e)))

  -- the table of a tier and its short forms in a slot, instead of what stood there
  pub still_cached : (new : Shorts) → option_copied o ≡ other_table c tier → AreShorts c new → AreCached c (set last slot o) (set shorts slot new)
  still_cached new found are = record {
    long = length-set last slot o ∙ cached.long;
    long_shorts = length-set shorts slot new ∙ cached.long_shorts;
    table = λ k l t. (elim (cases_Bool (eqb k slot)) [
      | inl e ↦ λ (q : option_copied (get_or (set last slot o) k None) ≡ Some t).
          (let here : option_copied o ≡ Some t = sym (ap option_copied (subst (λ (i : ℕ). get_or (set last slot o) i None ≡ o) (sym (eqb-true k slot e))
          (get_or-set_same last slot o None in_last))) ∙ q in
          let there : other_table c tier ≡ Some t = sym found ∙ here in
          ap (other_table c) (other_found c tier t there) ∙ there)
      | inr e ↦ λ (q : option_copied (get_or (set last slot o) k None) ≡ Some t).
          cached.table k l t (sym (ap option_copied (get_or-set_other last slot k o None (eqb-false k slot e))) ∙ q)
    ]);
    forms = λ k l d. (elim (cases_Bool (eqb k slot)) [
      | inl e ↦ subst (AreShorts c) (sym (subst (λ (i : ℕ). get_or (set shorts slot new) i d ≡ new) (sym (eqb-true k slot e))
          (get_or-set_same shorts slot new d (let long = cached.long_shorts in omega (arith, long, inside))))) are
      | inr e ↦ subst (AreShorts c) (sym (get_or-set_other shorts slot k new d (eqb-false k slot e))) (cached.forms k l d)
    ]);
  }

-- a short form is that of the position's record
pub short_read : (b c : CacheData) → b ≡ c → (s : Shorts) (p : Position) → AreShorts b s → s.tier ≡ p.tier → p.index < length s.forms.now
    → (t : TableData) × (other_table c p.tier ≡ Some t) × (other_record c p ≡ record_of_short (get_or s.forms.now p.index 0))
short_read b c is s p are same inside =
    let (t, held, e) = subst (λ (k : CacheData). AreShorts k s) is are p.index inside in
    let there : other_table c p.tier ≡ Some t = ap (other_table c) (sym same) ∙ held in
    (t, there, ap (λ (o : Option TableData). record_of o p.index) there ∙ e)

module _ (c : CacheData) (ps : List Position) where
  -- one position more that the tables know
  held_more : (i : ℕ) (d : Position) → i < length ps → IsSome (other_table c (get_or ps i d).tier)
      → ((p : Position) → Contains (take i ps) p → IsSome (other_table c p.tier)) → (p : Position) → Contains (take (i + 1) ps) p → IsSome (other_table c p.tier)
  held_more i d inside held old p h = elim
      (Contains-push_cases (take i ps) (get_or ps i d) p (subst (λ (qs : List Position). Contains qs p) (take_more ps i d inside) h))
      [ inl k ↦ old p k | inr k ↦ subst (λ (q : Position). IsSome (other_table c q.tier)) k held ]

  -- positions whose records are read from numbers
  pub read_none : (read : ℕ → Option Solved) (ws : List ℕ) → ws ≡ [] → AreRead c (take 0 ps) (map read ws)
  read_none read ws e = record { held = λ p h. absurd (contains_none p h); records = ap (map read) e }

  pub read_more : (read : ℕ → Option Solved) (i : ℕ) (d : Position) (ws new : List ℕ) (w : ℕ) → i < length ps → IsSome (other_table c (get_or ps i d).tier)
      → other_record c (get_or ps i d) ≡ read w → new ≡ ws ++ w ∷ [] → AreRead c (take i ps) (map read ws) → AreRead c (take (i + 1) ps) (map read new)
  read_more read i d ws new w inside held is e old = record {
    held = held_more i d inside held old.held;
    records = ap (map read) e ∙ map-append read ws (w ∷ []) ∙ ap (λ (os : List (Option Solved)). os ++ read w ∷ []) old.records
        ∙ ap (λ (o : Option Solved). map (other_record c) (take i ps) ++ o ∷ []) (sym is) ∙ sym (map_more (other_record c) ps i d inside);
  }

  -- there are as many numbers as positions that were read
  pub read_few : (read : ℕ → Option Solved) (i : ℕ) (ws : List ℕ) → AreRead c (take i ps) (map read ws) → length ws ≤ i
  read_few read i ws are =
      let many : length ws ≡ length (take i ps) = sym (length-map ws read) ∙ ap length are.records ∙ length-map (take i ps) (other_record c) in
      let taken = length-take i ps in
      omega (arith, many, taken)

  -- what all of them say
  pub sum_read : (read : ℕ → Option Solved) (i : ℕ) (ws xs : List ℕ) (seen : Summary) (number : ℕ) → length ps ≤ i → AreRead c (take i ps) (map read ws)
      → xs ≡ ws → IsSummary (map read xs) seen → number ≡ length (filter is_decided (map read xs)) → IsSumOf c ps seen number
  sum_read read i ws xs seen number past are same summary decided =
      let whole : AreRead c ps (map read xs) = subst (λ (qs : List Position). AreRead c qs (map read xs)) (take_all i ps past)
      (subst (λ (ys : List ℕ). AreRead c (take i ps) (map read ys)) (sym same) are) in
      record {
        held = whole.held;
        summary = subst (λ (os : List (Option Solved)). IsSummary os seen) whole.records summary;
        decided = decided ∙ ap (λ (os : List (Option Solved)). length (filter is_decided os)) whole.records;
      }

  -- positions whose records are combined one by one
  pub sum_none : (seen : Summary) → seen.lost ≡ None → seen.won ≡ Some 0 → seen.tied ≡ None → IsSumOf c (take 0 ps) seen 0
  sum_none seen a b e = record { held = λ p h. absurd (contains_none p h); summary = record { lost = a; won = b; tied = e }; decided = refl }

  pub sum_more : (i : ℕ) (d : Position) (old new : Summary) (m n : ℕ) (known : Option Solved) → i < length ps → IsSome (other_table c (get_or ps i d).tier)
      → known ≡ other_record c (get_or ps i d) → new.lost ≡ lesser old.lost (lost_in known) → new.won ≡ greater old.won (won_in known)
      → new.tied ≡ lesser old.tied (tied_in known) → n ≡ m + cond (is_decided known) 1 0 → IsSumOf c (take i ps) old m → IsSumOf c (take (i + 1) ps) new n
  sum_more i d old new m n known inside held is lost won tied decided before = record {
    held = held_more i d inside held before.held;
    summary = summary_more (other_record c) ps i d inside known is old new lost won tied before.summary;
    decided = decided_more (other_record c) ps i d inside known is m n decided before.decided;
  }

  pub sum_all : (i : ℕ) (seen : Summary) (n : ℕ) → length ps ≤ i → IsSumOf c (take i ps) seen n → IsSumOf c ps seen n
  sum_all i seen n past sum = subst (λ (qs : List Position). IsSumOf c qs seen n) (take_all i ps past) sum

-- two functions that give the same for each of a list
pub map_same : (f g : Position → Option Solved) (ps : List Position) → ((p : Position) → Contains ps p → f p ≡ g p) → map f ps ≡ map g ps
map_same f g [] h = refl
map_same f g (p ∷ ps) h =
    ap (λ (o : Option Solved). o ∷ map f ps) (h p (contains_first p ps)) ∙ ap (λ (os : List (Option Solved)). g p ∷ os)
    (map_same f g ps (λ q k. h q (contains_later p q ps k)))

-- the record of a canonical position in a cached table is the tables' value
pub other_value : (r : Rules) (c : CacheData) (q : Position) → IsCanonical r q → IsSome (other_table c q.tier) → other_record c q ≡ value_in r c.tables q
other_value r c q canonical some = go (other_table c q.tier) refl some
  where
    go : (o : Option TableData) → other_table c q.tier ≡ o → IsSome o → other_record c q ≡ value_in r c.tables q
    go None e k = absurd (cc)
    go (Some t) e k = ap (λ (o : Option TableData). record_of o q.index) e
        ∙ sym (value_canonical r c.tables q canonical ∙ record_held c.tables t q (other_held c q.tier t e))

-- what the tables of other tiers say of all children is what the rules give
pub settled_sum : (r : Rules) (g : IsGame r) (c : CacheData) (records : List (Option Solved)) (p : Position) (cs : List Position) (seen : Summary) (number : ℕ)
    → r.is_legal p ≡ true → r.primitive p ≡ None → AreResults r p cs → IsSumOf c cs seen number
    → settle seen.lost seen.won seen.tied ≡ settled_by r (look_up r c.tables c.tier records) p
settled_sum r g c records p cs seen number legal none are sum = settled_results r look p cs seen none are
    (subst (λ (os : List (Option Solved)). IsSummary os seen) (map_same (other_record c) look cs each) sum.summary)
  where
    look : Position → Option Solved
    look = look_up r c.tables c.tier records

    each : (q : Position) → Contains cs q → other_record c q ≡ look q
    each q h =
        let canonical = (near_child r g p.tier p q refl legal ((are q).0 h)).0 in
        let apart : q.tier ≢ c.tier = λ e. (let some : IsSome {T = TableData} None = subst (λ (o : Option TableData). IsSome o)
        (sym (own_table c q.tier e)) (sum.held q h) in cc) in
        look_up_value r c.tables c.tier records q (other_record c q) apart (other_value r c q canonical (sum.held q h))
