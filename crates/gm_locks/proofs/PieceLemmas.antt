-- A shard to which the pieces of a level are delivered, each pair once.
use Rattle.gm_locks.proofs.Lower.{◌≡◌, ℕ, ◌+◌, ◌-◌, ◌<◌, ◌≤◌, inl, inr, true, false, List, length, get_or, slice_get, refl, sym, ap, subst, ◌∙◌, arith, Some, Result, ◌⊎◌, Contains, Position, Rules, NoteData, piece_of, Delivery, Refused, ShardState, IsInRange, delivered_to, with_pair, pairs_in, Delivers, IsAdded, Spot, spot_of, AreFirst, PiecedData, piece_pairs, IsTurnAt}
use Rattle.std.proofs.Common.{zero, suc, ◌==◌, max, Bool, [], ◌∷◌, ◌++◌, take, drop, replicate, set, get_or-set_same, get_or-set_other, length-set}
use Rattle.std.specs.Int.{div_ceil}
use Rattle.std.specs.Result.{IsOk}
use Rattle.std.proofs.lemmas.Bool.{cases_eq}
use Rattle.std.proofs.lemmas.Bool.Decides.{Decides-eqb}
use Rattle.std.proofs.lemmas.List.{length-take-le, length-drop, length-replicate, take_more, get_or-drop}
use Rattle.std.proofs.lemmas.Option.{slice_get-get_or, slice_get_within, get_or_from_slice_get}
use Rattle.gm_game.specs.Rules.{IsParent}
use Rattle.gm_game.specs.Laws.{IsGame}
use Rattle.gm_game.proofs.Lists.{map_in}
use Rattle.gm_frontier.specs.Levels.{IsLevel}
use Rattle.gm_table.proofs.Distinct.{same_image, no_repeats_before}
use Rattle.gm_frontier.proofs.PairLemmas.{in_pairs, in_piece, pairs_have, positions_once, near_of_pair, contains_taken}
use Rattle.gm_frontier.proofs.CoverLemmas.{one_piece, in_some_piece}
use Rattle.gm_counters.specs.Good.{IsGood}
use Rattle.gm_counters.specs.Steps.{IsWhole, place_of}
use Rattle.gm_locks.specs.Rounds.{pairs_into, place_of_spot, HasNoneHere}
use Rattle.gm_locks.specs.Pieces.{IsPieced, AreNew}
use Rattle.gm_frontier.proofs.ForGame.{stands_now}
use Rattle.std.proofs.lemmas.Grind.{get_or-set_at}
use Rattle.gm_locks.proofs.Gains.{gained, gain_is, stays, delivered_more}
use Rattle.gm_locks.proofs.RoundLemmas.{AreHere, item_in, next_here, first_none, of_piece}
pub use Rattle.gm_locks.proofs.Gains.{added_is, ok_added}

dropped_in : {X : Type 0} (n : ℕ) (xs : List X) (x : X) → Contains (drop n xs) x → Contains xs x
dropped_in n xs x (k, l, e) = let long = length-drop n xs in (n + k, omega arith, sym (get_or-drop n xs k x) ∙ e)

-- new pairs, and one more
pub run_push : (r : Rules) (xs : List (NoteData × ℕ)) (x : NoteData × ℕ) (s t u : ShardState) (answer : Result Delivery Refused) → AreNew r xs s t
    → Delivers r x.0 x.1 t u answer → IsAdded answer → AreNew r (xs ++ x ∷ []) s u
run_push r [] x s t u answer run d a = (u, answer, subst (λ (v : ShardState). Delivers r x.0 x.1 v u answer) run d, a, refl)
run_push r (y ∷ ys) x s t u answer run d a = (run.0, run.1, run.2, run.3, run_push r ys x run.0 t u answer run.4 d a)

-- they raise the number of pairs, and leave the shard where it stands
pub run_count : (r : Rules) (xs : List (NoteData × ℕ)) (s t : ShardState) → AreNew r xs s t → pairs_in t ≡ pairs_in s + length xs
run_count r [] s t run = (let same = ap pairs_in run in omega arith)
run_count r (x ∷ xs) s t run =
    let rest = run_count r xs run.0 t run.4 in
    let first = gained r x.0 x.1 s run.0 run.1 run.2 in
    let one = (gain_is run.1).0 run.3 in
    omega arith

pub run_spot : (r : Rules) (xs : List (NoteData × ℕ)) (s t : ShardState) → AreNew r xs s t → spot_of t ≡ spot_of s
run_spot r [] s t run = ap spot_of run
run_spot r (x ∷ xs) s t run = run_spot r xs run.0 t run.4 ∙ stays r x.0 x.1 s run.0 run.1 run.2

-- the next pair of a list after some of them
pub run_next : (r : Rules) (pairs : List (NoteData × ℕ)) (from k : ℕ) (x : NoteData × ℕ) (s t u : ShardState) (answer : Result Delivery Refused) → from ≤ k
    → slice_get pairs k ≡ Some x → AreNew r (take (k - from) (drop from pairs)) s t
    → Delivers r x.0 x.1 t u answer → IsAdded answer → AreNew r (take (k + 1 - from) (drop from pairs)) s u
run_next r pairs from k x s t u answer order e run d a =
    let inside = slice_get_within pairs k x e in
    let long = length-drop from pairs in
    let within : k - from < length (drop from pairs) = omega arith in
    let at : get_or (drop from pairs) (k - from) x ≡ x = get_or-drop from pairs (k - from) x
    ∙ ap (λ (j : ℕ). get_or pairs j x) (let j : from + (k - from) ≡ k = omega arith in j) ∙ get_or_from_slice_get pairs k x x e in
    let more = take_more (drop from pairs) (k - from) x within in
    let all : take (k + 1 - from) (drop from pairs) ≡ take (k - from) (drop from pairs) ++ x ∷ [] =
    ap (λ (m : ℕ). take m (drop from pairs)) (let m : k + 1 - from ≡ k - from + 1 = omega arith in m) ∙ more
    ∙ ap (λ (y : NoteData × ℕ). take (k - from) (drop from pairs) ++ y ∷ []) at in
    subst (λ (xs : List (NoteData × ℕ)). AreNew r xs s u) (sym all) (run_push r (take (k - from) (drop from pairs)) x s t u answer run d a)

-- of notes that have none of their children, as many pairs stay delivered
module _ (r : Rules) (g : IsGame r) (spot : Spot) (notes : List NoteData) (here : AreHere r spot notes) where
  first_other : (s : ShardState) (n : ℕ) (x : NoteData × ℕ) → spot_of s ≡ spot → IsInRange s x.1
      → ((y : NoteData × ℕ) → Contains (pairs_into r spot notes) y → x.0.position ≡ y.0.position → ⊥)
      → AreFirst (pairs_into r spot notes) s n → AreFirst (pairs_into r spot notes) (with_pair s x.0.position x.1) n
  first_other s n x at mine other h = record {
    within = h.within;
    each = λ k y q. (let exact = delivered_more s x mine y (next_here r g spot notes here s at k y q).here.is_mine in (
      (λ d. elim (exact.0 d) [
        | inl old ↦ (h.each k y q).0 old
        | inr (index, child) ↦ absurd (other y (item_in (pairs_into r spot notes) k y q) child)
      ]),
      (λ l. exact.1 (inl ((h.each k y q).1 l))),
    ));
  }

  run_other : (xs : List (NoteData × ℕ)) (s t : ShardState) (n : ℕ) → spot_of s ≡ spot
      → ((x : NoteData × ℕ) → Contains xs x → (y : NoteData × ℕ) → Contains (pairs_into r spot notes) y → x.0.position ≡ y.0.position → ⊥)
      → AreNew r xs s t → AreFirst (pairs_into r spot notes) s n → AreFirst (pairs_into r spot notes) t n
  run_other [] s t n at other run h = subst (λ (u : ShardState). AreFirst (pairs_into r spot notes) u n) (sym run) h
  run_other (x ∷ xs) s t n at other run h =
      let (is, pair) = added_is r x s run.0 run.1 run.2 run.3 in
      let first : Contains (x ∷ xs) x = (0, omega arith, refl) in
      let more = first_other s n x at pair.is_mine (other x first) h in
      let later : (z : NoteData × ℕ) → Contains xs z → Contains (x ∷ xs) z = (λ z c. (suc c.0, (let l = c.1 in omega arith), c.2)) in
      run_other xs run.0 t n (stays r x.0 x.1 s run.0 run.1 run.2 ∙ at) (λ z c. other z (later z c)) run.4
      (subst (λ (u : ShardState). AreFirst (pairs_into r spot notes) u n) (sym is) more)

-- an item of a list of which one item was changed
set_at : {X : Type 0} (P : X → Type 0) (xs : List X) (k : ℕ) (y d : X) (i : ℕ) → k < length xs → (i ≡ k → P y) → ((i ≡ k → ⊥) → P (get_or xs i d))
    → P (get_or (set xs k y) i d)
set_at P xs k y d i within same other = elim (cases_eq i k) [
  | inl e ↦ subst P (sym (get_or-set_at xs k i y d e within)) (same e)
  | inr ne ↦ subst P (sym (get_or-set_other xs k i y d ne)) (other ne)
]

-- two pieces of a level have no common child
pieces_apart : (r : Rules) (g : IsGame r) (spot : Spot) (notes : List NoteData) → IsLevel r (place_of_spot spot) notes → (size p q : ℕ) → (p ≡ q → ⊥)
    → (x y : NoteData × ℕ) → Contains (piece_pairs r spot notes size p) x → Contains (piece_pairs r spot notes size q) y → x.0.position ≡ y.0.position → ⊥
pieces_apart r g spot notes level size p q other x y a b child =
    let once = positions_once r g (place_of_spot spot) notes level in
    let in_p = (in_pairs r spot.tier spot.lo spot.hi (piece_of p size notes) x a).0 in
    let in_q = (in_pairs r spot.tier spot.lo spot.hi (piece_of q size notes) y b).0 in
    let same = same_image (λ (m : NoteData). m.position) notes once x.0 y.0 (in_piece p size notes x.0 in_p) (in_piece q size notes y.0 in_q) child in
    other (one_piece size notes x.0 p q (no_repeats_before (λ (m : NoteData). m.position) notes once) in_p
    (subst (λ (m : NoteData). Contains (piece_of q size notes) m) (sym same) in_q))

-- a call delivers the pairs of one piece from one number to another, and the other pieces stay as they were
module _ {r : Rules} (g : IsGame r) {spot : Spot} {notes : List NoteData} {size base : ℕ} {d : PiecedData} (e : PiecedData)
    (h : IsPieced r spot notes size base d) (piece from next : ℕ) (few : piece < div_ceil (length notes) size) (begin : from ≡ get_or d.counts piece 0)
    (order : from ≤ next) (run : AreNew r (take (next - from) (drop from (piece_pairs r spot notes size piece))) d.shard e.shard)
    (first : AreFirst (piece_pairs r spot notes size piece) e.shard next) (counts : e.counts ≡ set d.counts piece next)
    (whole : e.whole ≡ set d.whole piece (next == length (piece_pairs r spot notes size piece))) (book : e.book ≡ d.book + (next - from)) where
  turned : IsPieced r spot notes size base e
  turned =
      let pairs = piece_pairs r spot notes size piece in
      let taken = take (next - from) (drop from pairs) in
      let within : piece < length d.counts = (let a = h.many in omega arith) in
      let in_bits : piece < length d.whole = (let a = h.bits in omega arith) in
      let among = λ (x : NoteData × ℕ) (c : Contains taken x). dropped_in from pairs x (contains_taken (next - from) (drop from pairs) x c) in
      record {
        spot = run_spot r taken d.shard e.shard run ∙ h.spot;
        level = h.level;
        some = h.some;
        many = ap length counts ∙ length-set d.counts piece next ∙ h.many;
        bits = ap length whole ∙ length-set d.whole piece (next == length pairs) ∙ h.bits;
        first = λ q. rw counts (set_at (AreFirst (piece_pairs r spot notes size q) e.shard) d.counts piece next 0 q within
            (λ is. subst (λ (k : ℕ). AreFirst (piece_pairs r spot notes size k) e.shard next) (sym is) first)
            (λ other. run_other r g spot (piece_of q size notes) (of_piece r g spot notes h.level q size) taken d.shard e.shard (get_or d.counts q 0) h.spot
            (λ x c y b child. pieces_apart r g spot notes h.level size piece q (λ s. other (sym s)) x y (among x c) b child) run (h.first q)));
        all = λ q. rw (whole, counts) (set_at (λ (b : Bool). b ≡ true → get_or (set d.counts piece next) q 0 ≡ length (piece_pairs r spot notes size q))
            d.whole piece (next == length pairs) false q in_bits
            (λ is yes. get_or-set_at d.counts piece q next 0 is within ∙ (Decides-eqb next (length pairs)).0 yes
            ∙ ap (λ (k : ℕ). length (piece_pairs r spot notes size k)) (sym is))
            (λ other yes. get_or-set_other d.counts piece q next 0 other ∙ h.all q yes));
        number = (let more = run_count r taken d.shard e.shard run in
            let left = length-drop from pairs in
            let most = first.within in
            let long : length taken ≡ next - from = length-take-le (next - from) (drop from pairs) (omega arith) in
            let number = h.number in omega arith);
      }

  -- what the call leaves, by where it was to end
  pub turned_at : (to end : ℕ) (answer : Result (Unit {0}) Refused) → IsGood r d.shard → IsGood r e.shard → end ≡ max to from → next ≤ end
      → (IsOk answer → end ≤ next) → IsTurnAt r spot notes size base piece to (next - from) answer d e
  turned_at to end answer old_good new_good stop high done =
      let pairs = piece_pairs r spot notes size piece in
      let within : piece < length d.counts = (let a = h.many in omega arith) in
      let up : next ≡ get_or d.counts piece 0 + (next - from) = omega arith in
      record {
        old_good = old_good;
        new_good = new_good;
        old_kept = h;
        new_kept = turned;
        turn = record {
          run = subst (λ (k : ℕ). AreNew r (take (next - from) (drop k pairs)) d.shard e.shard) begin run;
          counts = counts ∙ ap (set d.counts piece) up;
          whole = whole ∙ ap (λ (k : ℕ). set d.whole piece (k == length pairs)) up;
          book = book;
          most = omega arith;
        };
        done = λ ok. (let last = done ok in let at = ap (λ (ns : List ℕ). get_or ns piece 0) counts
            ∙ get_or-set_same d.counts piece next 0 within in omega arith);
      }

-- a call that delivers a piece to its end sets its bit, and clears no other one
pub turned_bits : {r : Rules} {spot : Spot} {notes : List NoteData} {size base piece to n : ℕ} {answer : Result (Unit {0}) Refused} {d e : PiecedData}
    → IsTurnAt r spot notes size base piece to n answer d e → to ≡ length (piece_pairs r spot notes size piece) → piece < div_ceil (length notes) size
    → IsOk answer → (p : ℕ) → (p ≡ piece) ⊎ (get_or d.whole p false ≡ true) → get_or e.whole p false ≡ true
turned_bits {r} {spot} {notes} {size} {base} {piece} {to} {n} {answer} {d} {e} turn all few ok p which =
    let pairs = piece_pairs r spot notes size piece in
    let many = turn.old_kept.many in
    let bits = turn.old_kept.bits in
    let count = get_or d.counts piece 0 + n in
    let now : get_or e.counts piece 0 ≡ count = ap (λ (ns : List ℕ). get_or ns piece 0) turn.turn.counts
    ∙ get_or-set_same d.counts piece count 0 (omega arith) in
    let least = turn.done ok in
    let most = (turn.new_kept.first piece).within in
    let full = (Decides-eqb count (length pairs)).1 (omega arith) in
    rw turn.turn.whole (set_at (λ (b : Bool). b ≡ true) d.whole piece (count == length pairs) false p (omega arith) (λ same. full)
    (λ other. elim which [ inl same ↦ absurd (other same) | inr was ↦ was ]))

-- a shard that has none of the level's pairs
pub begun_pieced : (r : Rules) (g : IsGame r) (spot : Spot) (notes : List NoteData) (size base n : ℕ) (d : PiecedData) → IsLevel r (place_of_spot spot) notes
    → 0 < size → n ≡ div_ceil (length notes) size → spot_of d.shard ≡ spot → HasNoneHere r d.shard
    → d.counts ≡ replicate n 0 → d.whole ≡ replicate n false → pairs_in d.shard ≡ base → d.book ≡ 0 → IsPieced r spot notes size base d
begun_pieced r g spot notes size base n d level some pieces at none zeros clear number book =
    let count : (p : ℕ) → get_or d.counts p 0 ≡ 0 = (λ p. ap (λ (ns : List ℕ). get_or ns p 0) zeros ∙ all_same n p 0) in
    record {
      spot = at;
      level = level;
      some = some;
      many = ap length zeros ∙ length-replicate n 0 ∙ pieces;
      bits = ap length clear ∙ length-replicate n false ∙ pieces;
      first = λ p. subst (λ (k : ℕ). AreFirst (piece_pairs r spot notes size p) d.shard k) (sym (count p))
          (first_none r g spot (piece_of p size notes) (of_piece r g spot notes level p size) d.shard at none);
      all = λ p yes. (let no : get_or d.whole p false ≡ false = ap (λ (bs : List Bool). get_or bs p false) clear ∙ all_same n p false in absurd (cc));
      number = omega arith;
    }
  where
    all_same : {X : Type 0} (n i : ℕ) (x : X) → get_or (replicate n x) i x ≡ x
    all_same zero i x = refl
    all_same (suc n) zero x = refl
    all_same (suc n) (suc i) x = all_same n i x

-- if each pair of the level is delivered, the level is whole
pub whole_all : (r : Rules) → IsGame r → (t : ShardState) (notes : List NoteData) → IsLevel r (place_of t) notes → IsGood r t
    → ((n : NoteData) (i : ℕ) → Contains notes n → Contains (r.parents n.position t.tier) i → t.lo ≤ i → i < t.lo + length t.delivered
    → Contains (delivered_to t i) n.position) → IsWhole r t
whole_all r g t notes level good all i c mine parent before = elim (stands_now r t.phase t.level c before) [
  | inl earlier ↦ good.whole i c mine parent earlier
  | inr stands ↦ (let near = near_of_pair r g t.tier i c parent in
      let (note, among, e) = map_in (λ (x : NoteData). x.position) notes c ((level.each c).0 (near.0, near.1, stands)) in
      let listed = (g.parents_exact note.position t.tier i (level.noted note among).note.canonical).1
      (subst (λ (q : Position). IsParent r q t.tier i) (sym e) parent) in
      subst (λ (q : Position). Contains (delivered_to t i) q) e (all note i among listed mine.0 mine.1))
]

-- if all pieces are delivered, the level is whole
pub pieces_whole : {r : Rules} → IsGame r → {spot : Spot} {notes : List NoteData} {size base : ℕ} {d : PiecedData} → IsPieced r spot notes size base d
    → IsGood r d.shard → ((p : ℕ) → p < div_ceil (length notes) size → get_or d.whole p false ≡ true) → IsWhole r d.shard
pieces_whole {r} g {spot} {notes} {size} {base} {d} h good bits =
    let s = d.shard in
    let at = subst (λ (x : Spot). IsPieced r x notes size base d) (sym h.spot) h in
    whole_all r g s notes at.level good (λ n i among listed low high.
    (let (p, few, inside) = in_some_piece size notes n h.some among in
    let pairs = piece_pairs r (spot_of s) notes size p in
    let (k, w, e) = pairs_have r s.tier s.lo (s.lo + length s.delivered) (piece_of p size notes) n i inside listed low high in
    let pair : NoteData × ℕ = (n, i) in
    let there : slice_get pairs k ≡ Some pair = slice_get-get_or pairs k pair w ∙ ap Some e in
    let full = at.all p (bits p few) in
    ((at.first p).each k pair there).1 (omega arith)))
