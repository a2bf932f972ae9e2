-- A range to which no pair is delivered twice.
use Rattle.gm_counters.proofs.Lower.{◌≡◌, ℕ, ◌+◌, ◌-◌, ◌<◌, ◌≤◌, List, [], ◌∷◌, ◌++◌, length, get_or, map, refl, ap, sym, subst, ◌∙◌, arith, Some, length-set, ◌==◌, replicate, Contains, slice_get, length-map, MOVES, TIER_SIZE, Position, Phase, WinLose, Rules, at, IsGame, with_position, canonical_children_of, NoteData, IsNote, Start, Status, ShardState, IsInRange, delivered_to, with_pair, state_by, StatusIs, IsShard, IsWithinLimit, IsShardKept, IsCounter, CanDeliver, IsPairHere, first_status, first_left, first_state}
use Rattle.std.proofs.Common.{◌^◌}
use Rattle.std.proofs.Math.ListN.{set}
use Rattle.std.proofs.lemmas.Option.{slice_get_read}
use Rattle.gm_game.proofs.ChildrenLemmas.{canonical_children_few}
use Rattle.gm_counters.specs.inner.Ordered.{with_one, with_all}
use Rattle.gm_counters.specs.inner.Begin.{AreStarts}
use Rattle.gm_counters.proofs.AddedLemmas.{set_cases, range_is, same_here, cases_at, pairs_more}
use Rattle.gm_counters.proofs.BeginLemmas.{first_kept}
use Rattle.gm_counters.proofs.CloseLemmas.{few_there}
use Rattle.gm_counters.proofs.StepLemmas.{NewPair, Step, within_after, same_test, fewer, long, shard_after}

all_more : (lo : ℕ) (ds : List (List Position)) (xs : List (Position × ℕ)) (p : Position × ℕ)
    → with_all lo ds (xs ++ p ∷ []) ≡ with_one lo (with_all lo ds xs) p
all_more lo ds [] p = refl
all_more lo ds (x ∷ xs) p = all_more lo (with_one lo ds x) xs p

-- the state with one pair more
pub state_more : (tier lo : ℕ) (phase : Phase) (level n : ℕ) (xs ys : List (Position × ℕ)) (c : Position) (parent : ℕ) → ys ≡ xs ++ (c, parent) ∷ []
    → state_by tier lo phase level n ys ≡ with_pair (state_by tier lo phase level n xs) c parent
state_more tier lo phase level n xs ys c parent e =
    ap (λ (ps : List (Position × ℕ)). state_by tier lo phase level n ps) e
    ∙ ap (λ (ds : List (List Position)). let s : ShardState = record { tier = tier; lo = lo; phase = phase; level = level; delivered = ds } in s)
    (all_more lo (replicate n []) xs (c, parent))

-- the same as a shard's fields show it
pub shown_more : (tier lo : ℕ) (phase : Phase) (level n m : ℕ) (xs ys : List (Position × ℕ)) (c d : Position) (parent : ℕ) (s : ShardState)
    → state_by tier lo phase level n xs ≡ s → n ≡ m → d ≡ c → ys ≡ xs ++ (d, parent) ∷ []
    → state_by tier lo phase level m ys ≡ with_pair s c parent
shown_more tier lo phase level n m xs ys c d parent s is same position e =
    ap (λ (k : ℕ). state_by tier lo phase level k ys) (sym same)
    ∙ state_more tier lo phase level n xs ys c parent (e ∙ ap (λ (p : Position). xs ++ (p, parent) ∷ []) position)
    ∙ ap (λ (u : ShardState). with_pair u c parent) is

-- the state with no pair
pub first_by : (tier lo : ℕ) (starts : List Start) (ls : List ℕ) (items : List (Position × ℕ)) → ls ≡ map first_left starts → items ≡ []
    → state_by tier lo WinLose 0 (length ls) items ≡ first_state tier lo (length starts)
first_by tier lo starts ls items l e =
    ap (λ (ps : List (Position × ℕ)). state_by tier lo WinLose 0 (length ls) ps) e
    ∙ ap (λ (n : ℕ). first_state tier lo n) (ap (λ (xs : List ℕ). length xs) l ∙ length-map starts first_left)

-- what the fields keep at the start
pub first_fields : (r : Rules) (tier lo : ℕ) (starts : List Start) → AreStarts r tier lo starts → lo + length starts ≤ TIER_SIZE
    → (ls : List ℕ) (ss : List Status) (items : List (Position × ℕ)) → ls ≡ map first_left starts → ss ≡ map first_status starts → items ≡ []
    → IsShardKept r (state_by tier lo WinLose 0 (length ls) items) ss ls 0
first_fields r tier lo starts are few ls ss items l s e =
    subst (λ (t : ShardState). IsShardKept r t ss ls 0) (sym (first_by tier lo starts ls items l e))
    (subst (λ (xs : List Status). IsShardKept r (first_state tier lo (length starts)) xs ls 0) (sym s)
    (subst (λ (ys : List ℕ). IsShardKept r (first_state tier lo (length starts)) (map first_status starts) ys 0) (sym l)
    (first_kept r tier lo starts are few)))

-- what a delivery has found, where the pair is new
pub step_new : {r : Rules} {u s : ShardState} {statuses : List Status} {left : List ℕ} {count : ℕ} {note : NoteData} {parent : ℕ} {old : Status} (l : ℕ)
    → IsShardKept r u statuses left count → u ≡ s → IsNote r note.position note.solved
    → IsPairHere r s note parent → (Contains (delivered_to s parent) note.position → ⊥) → StatusIs r s parent old → IsCounter r s parent l
    → Step r s statuses note parent old (l == 1)
step_new {r} {u} {s} {statuses} {left} {count} {note} {parent} {old} l kept e is_note here new before counter = record {
  shard = subst (λ (u : ShardState). IsShard r u statuses) e kept.shard;
  is_note = is_note;
  here = here;
  new = new;
  before = before;
  last_is = same_test l (length (delivered_to s parent)) (length (canonical_children_of r (at s.tier parent))) (counter.inner here.is_parent.0);
}

module _ {r : Rules} {s : ShardState} {statuses : List Status} {left : List ℕ} {count : ℕ} {c : Position} {parent : ℕ} (g : IsGame r)
    (kept : IsShardKept r s statuses left count) (can : CanDeliver r s c parent) where
  fresh_pair : NewPair r s c parent
  fresh_pair = record { stands = can.stands; is_mine = can.is_mine; is_parent = can.is_parent; new = can.new }

  high : parent - s.lo < length s.delivered
  high = let a = can.is_mine.0 in let b = can.is_mine.1 in omega arith

  pub place_left : parent - s.lo < length left
  place_left = let m = kept.as_many in let h = high in omega arith

  pub place_statuses : parent - s.lo < length statuses
  place_statuses = let m = kept.shard.many in let h = high in omega arith

  counter_here : (l : ℕ) → l ≡ get_or left (parent - s.lo) l → l + length (delivered_to s parent) ≡ length (canonical_children_of r (at s.tier parent))
  counter_here l is = (kept.counted parent l can.is_mine (slice_get_read left (length left) (parent - s.lo) l refl place_left is)).inner can.is_parent.0

  -- the counter can go down
  pub can_fall : (l : ℕ) → l ≡ get_or left (parent - s.lo) l → 1 ≤ l
  can_fall l is = let f = fewer kept.shard fresh_pair in let e = counter_here l is in omega arith

  -- the number of pairs can go up
  pub can_rise : count + 1 < 2 ^ 64
  can_rise = let m = few_there r s statuses left count kept in let n = kept.number in omega arith

  small : length (with_position c (delivered_to s parent)) ≤ MOVES
  small =
      let f = fewer kept.shard fresh_pair in
      let l = long kept.shard fresh_pair in
      let m = canonical_children_few r g (at s.tier parent) can.is_parent.0.legal in
      omega arith

  -- what the fields keep after the pair is added
  pub kept_more : (next : Status) → StatusIs r (with_pair s c parent) parent next → (l : ℕ) → l ≡ get_or left (parent - s.lo) l → IsWithinLimit next
      → IsShardKept r (with_pair s c parent) (set statuses (parent - s.lo) next) (set left (parent - s.lo) (l - 1)) (count + 1)
  kept_more next after l is near = record {
    shard = shard_after kept.shard fresh_pair next after near;
    as_many = length-set left (parent - s.lo) (l - 1) ∙ kept.as_many ∙ sym (length-set s.delivered (parent - s.lo) (with_position c (delivered_to s parent)));
    counted = λ (i n : ℕ) (m : IsInRange (with_pair s c parent) i) (got : slice_get (set left (parent - s.lo) (l - 1)) (i - s.lo) ≡ Some n). counted i n
        (range_is s c parent can.is_mine i m) got;
    number = (let more = pairs_more s c parent can.is_mine can.new in let n = kept.number in omega arith);
    short = λ (i : ℕ) (m : IsInRange (with_pair s c parent) i).
        cases_at s c parent can.is_mine (λ d. length d ≤ MOVES) i (range_is s c parent can.is_mine i m) (λ _. small)
        (λ _. kept.short i (range_is s c parent can.is_mine i m));
    few = (let e = length-set s.delivered (parent - s.lo) (with_position c (delivered_to s parent)) in let f = kept.few in omega arith);
  }
    where
      counted : (i n : ℕ) → IsInRange s i → slice_get (set left (parent - s.lo) (l - 1)) (i - s.lo) ≡ Some n → IsCounter r (with_pair s c parent) i n
      counted i n m got = set_cases (IsCounter r (with_pair s c parent) i) left (parent - s.lo) (l - 1) (i - s.lo) n got
          (λ e. (let a = can.is_mine.0 in let b = m.0 in let same : parent ≡ i = omega arith in
          let one = can_fall l is in let sum = counter_here l is in let grown = long kept.shard fresh_pair in
          let here = ap (λ (xs : List Position). length xs) (same_here s c parent can.is_mine) in
          subst (λ (j : ℕ). IsCounter r (with_pair s c parent) j (l - 1)) same
          (record { inner = λ _. omega arith; other = λ none. absurd (none can.is_parent.0) })))
          (λ ne was. (let old = kept.counted i n m was in record {
            inner = λ x. cases_at s c parent can.is_mine (λ d. n + length d ≡ length (canonical_children_of r (at s.tier i))) i m
                (λ e. absurd (ne (ap (λ (j : ℕ). j - s.lo) e))) (λ _. old.inner x);
            other = old.other;
          }))

-- what the fields keep after the pair is added, where the state is what the fields show
pub kept_seen : {r : Rules} {statuses : List Status} {left : List ℕ} {count : ℕ} → IsGame r
    → (tier lo : ℕ) (phase : Phase) (level : ℕ) (xs ys : List (Position × ℕ)) (c d : Position) (parent : ℕ) (s : ShardState)
    → state_by tier lo phase level (length left) xs ≡ s → IsShardKept r (state_by tier lo phase level (length left) xs) statuses left count → CanDeliver r s c
    parent
    → (next : Status) → StatusIs r (with_pair s c parent) parent next → (l : ℕ) → l ≡ get_or left (parent - lo) l → (put : List Status)
    → put ≡ set statuses (parent - lo) next → d ≡ c → ys ≡ xs ++ (d, parent) ∷ []
    → IsShardKept r (state_by tier lo phase level (length (set left (parent - lo) (l - 1))) ys) put (set left (parent - lo) (l - 1)) (count + 1)
kept_seen {r} {statuses} {left} {count} g tier lo phase level xs ys c d parent s is kept can next after l read put put_is position e =
    let n = length left in
    let more : state_by tier lo phase level (length (set left (parent - lo) (l - 1))) ys ≡ with_pair (state_by tier lo phase level n xs) c parent =
    shown_more tier lo phase level n (length (set left (parent - lo) (l - 1))) xs ys c d parent (state_by tier lo phase level n xs) refl
    (sym (length-set left (parent - lo) (l - 1))) position e in
    let can' = subst (λ (u : ShardState). CanDeliver r u c parent) (sym is) can in
    let after' = subst (λ (u : ShardState). StatusIs r (with_pair u c parent) parent next) (sym is) after in
    subst (λ (xs' : List Status). IsShardKept r (state_by tier lo phase level (length (set left (parent - lo) (l - 1))) ys) xs' (set left (parent - lo) (l - 1))
    (count + 1)) (sym put_is)
    (subst (λ (u : ShardState). IsShardKept r u (set statuses (parent - lo) next) (set left (parent - lo) (l - 1)) (count + 1)) (sym more)
    (kept_more g kept can' next after' l read (within_after r (state_by tier lo phase level n xs) c parent next can' after')))
