-- A shard to which the pairs of a level are delivered in their order.
use Rattle.gm_locks.proofs.Lower.{◌≡◌, ℕ, ◌+◌, ◌<◌, inl, inr, List, length, slice_get, refl, sym, ap, subst, ◌∙◌, arith, Some, Result, Ok, Err, true, false, Contains, Rules, NoteData, piece_of, Delivery, Refused, ShardState, IsInRange, delivered_to, with_pair, pairs_in, Delivers, Spot, spot_of, AreFirst, IsAdded}
use Rattle.std.proofs.Common.{zero, suc, [], ◌∷◌, ap₂}
use Rattle.std.proofs.lemmas.Bool.{cases_lt}
use Rattle.std.proofs.lemmas.Option.{slice_get_within, get_or_from_slice_get, slice_get_cases}
use Rattle.std.proofs.lemmas.List.Elements.{Contains-get_or}
use Rattle.gm_game.specs.declared.position.Place.{Place}
use Rattle.gm_game.specs.Rules.{at, IsParent}
use Rattle.gm_game.specs.Laws.{IsGame}
use Rattle.gm_game.proofs.Counts.{HasNoRepeats}
use Rattle.gm_frontier.specs.Notes.{IsNoteAt}
use Rattle.gm_frontier.specs.Levels.{LevelData, IsLevel, positions}
use Rattle.gm_frontier.proofs.PairLemmas.{pairs_once, in_pairs, in_piece, positions_once, piece_positions_once}
use Rattle.gm_frontier.specs.Pairs.{pairs_of}
use Rattle.gm_table.proofs.Distinct.{same_image}
use Rattle.gm_frontier.proofs.ForGame.{now_stands}
use Rattle.gm_counters.specs.declared.status.Delivery.TheVariants.{Fresh, FreshSettled, Repeat}
use Rattle.gm_counters.specs.declared.status.Refused.TheVariants.{NotThisLevel, NotMine, NotAParent, TooFar}
use Rattle.gm_counters.specs.Good.{IsGood}
use Rattle.gm_counters.specs.Steps.{IsWhole}
use Rattle.gm_locks.specs.Spots.{gain, IsDeliverable}
use Rattle.gm_locks.specs.Rounds.{pairs_into, place_of_spot, IsRound, HasNoneHere, IsLevelAt, IsNextAnswer}
use Rattle.gm_counters.proofs.AddedLemmas.{note_stands, outcome}
use Rattle.std.specs.Result.{is_err}
use Rattle.gm_locks.specs.Pieces.{IsRefusedAt}
use Rattle.gm_locks.proofs.Gains.{gained, delivered_more, gain_is, ok_added}

-- the item at a place of a list without repeats is at no other place
pub item_in : {X : Type 0} (xs : List X) (k : ℕ) (x : X) → slice_get xs k ≡ Some x → Contains xs x
item_in {X} xs k x e = subst (λ (u : X). Contains xs u) (get_or_from_slice_get xs k x x e) (Contains-get_or xs k x (slice_get_within xs k x e))

item_once : {X : Type 0} (xs : List X) → HasNoRepeats xs → (k j : ℕ) (x : X) → slice_get xs k ≡ Some x → slice_get xs j ≡ Some x → k ≡ j
item_once [] n k j x a b = absurd (cc)
item_once (y ∷ ys) n zero zero x a b = refl
item_once {X} (y ∷ ys) n zero (suc j) x a b = absurd (let e : x ≡ y = cc in n.0 (subst (λ (u : X). Contains ys u) e (item_in ys j x b)))
item_once {X} (y ∷ ys) n (suc k) zero x a b = absurd (let e : x ≡ y = cc in n.0 (subst (λ (u : X). Contains ys u) e (item_in ys k x a)))
item_once (y ∷ ys) n (suc k) (suc j) x a b = ap suc (item_once ys n.1 k j x a b)

-- notes of different positions that are at the spot's place
pub record AreHere (r : Rules) (spot : Spot) (notes : List NoteData) : Type 0 where
  pub noted : (n : NoteData) → Contains notes n → IsNoteAt r (place_of_spot spot) n
  pub once : HasNoRepeats (positions notes)

-- those of a level, and those of a piece of it
pub of_level : (r : Rules) (g : IsGame r) (spot : Spot) (notes : List NoteData) → IsLevel r (place_of_spot spot) notes → AreHere r spot notes
of_level r g spot notes level = record { noted = level.noted; once = positions_once r g (place_of_spot spot) notes level }

pub of_piece : (r : Rules) (g : IsGame r) (spot : Spot) (notes : List NoteData) → IsLevel r (place_of_spot spot) notes → (piece n : ℕ)
    → AreHere r spot (piece_of piece n notes)
of_piece r g spot notes level piece n = record {
  noted = λ m h. level.noted m (in_piece piece n notes m h);
  once = piece_positions_once r g (place_of_spot spot) notes level piece n;
}

-- the pairs of such notes into a spot's range
module _ (r : Rules) (g : IsGame r) (spot : Spot) (notes : List NoteData) (here : AreHere r spot notes) where
  -- each is one for a shard at the spot
  pub next_here : (s : ShardState) → spot_of s ≡ spot → (k : ℕ) (pair : NoteData × ℕ) → slice_get (pairs_into r spot notes) k ≡ Some pair
      → IsDeliverable r s pair
  next_here s at k pair e =
      let (note, parent, low, high) = in_pairs r spot.tier spot.lo spot.hi notes pair (item_in (pairs_into r spot notes) k pair e) in
      let noted = here.noted pair.0 note in
      let back = sym at in
      let lo = ap (λ (x : Spot). x.lo) at in
      let hi = ap (λ (x : Spot). x.hi) at in
      record {
        is_note = noted.note;
        here = record {
          is_level = (noted.phase ∙ ap (λ (x : Spot). x.phase) back, noted.level ∙ ap (λ (x : Spot). x.level) back);
          is_mine = (omega arith, omega arith);
          is_parent = subst (λ (x : Spot). IsParent r pair.0.position x.tier pair.1) back
              ((g.parents_exact pair.0.position spot.tier pair.1 noted.note.canonical).0 parent);
        };
      }

  -- two of them are not the same child and parent
  apart : (k j : ℕ) (p q : NoteData × ℕ) → slice_get (pairs_into r spot notes) k ≡ Some p → slice_get (pairs_into r spot notes) j ≡ Some q
      → p.0.position ≡ q.0.position → p.1 ≡ q.1 → k ≡ j
  apart k j p q a b same index =
      let pairs = pairs_into r spot notes in
      let in_p = in_pairs r spot.tier spot.lo spot.hi notes p (item_in pairs k p a) in
      let in_q = in_pairs r spot.tier spot.lo spot.hi notes q (item_in pairs j q b) in
      let note = same_image (λ (m : NoteData). m.position) notes here.once p.0 q.0 in_p.0 in_q.0 same in
      let is : p ≡ q = ap₂ (λ (m : NoteData) (i : ℕ). (m, i)) note index in
      item_once pairs (pairs_once r g spot.tier spot.lo spot.hi notes here.once (λ n l. (here.noted n l).note.canonical)) k j p a
      (subst (λ (x : NoteData × ℕ). slice_get pairs j ≡ Some x) (sym is) b)

  -- none is delivered to a shard that has no pair of the place
  pub first_none : (s : ShardState) → spot_of s ≡ spot → HasNoneHere r s → AreFirst (pairs_into r spot notes) s 0
  first_none s at none = record {
    within = omega arith;
    each = λ k pair e. (
      (λ h. (let d = next_here s at k pair e in
          absurd (none pair.1 pair.0.position d.here.is_mine h (note_stands r s pair.0 pair.1 d.is_note d.here)))),
      (λ l. absurd (let z : k < 0 = l in omega arith)),
    );
  }

  -- the next pair is delivered
  pub first_more : (s : ShardState) (n : ℕ) (pair : NoteData × ℕ) → spot_of s ≡ spot → slice_get (pairs_into r spot notes) n ≡ Some pair → IsInRange s pair.1
      → AreFirst (pairs_into r spot notes) s n
      → AreFirst (pairs_into r spot notes) (with_pair s pair.0.position pair.1) (n + 1)
  first_more s n pair at e mine h =
      let inside = slice_get_within (pairs_into r spot notes) n pair e in
      record {
        within = omega arith;
        each = λ k x q. (let exact = delivered_more s pair mine x (next_here s at k x q).here.is_mine in (
          (λ d. elim (exact.0 d) [
            | inl old ↦ (let l = (h.each k x q).0 old in omega arith)
            | inr (index, child) ↦ (let same : k ≡ n = apart k n x pair q e (sym child) index in omega arith)
          ]),
          (λ l. exact.1 (elim (cases_lt k n) [
            | inl before ↦ inl ((h.each k x q).1 before)
            | inr last ↦ (let same : n ≡ k = omega arith in
                let one : Some pair ≡ Some x = sym e ∙ ap (slice_get (pairs_into r spot notes)) same ∙ q in
                let is : pair ≡ x = cc in inr (ap (λ (y : NoteData × ℕ). y.1) (sym is), ap (λ (y : NoteData × ℕ). y.0.position) is))
          ])),
        ));
      }

  -- in a whole shard they are all delivered
  pub round_all : (base : ℕ) (s : ShardState) (n : ℕ) → spot_of s ≡ spot → IsWhole r s → IsRound (pairs_into r spot notes) base s n
      → n ≡ length (pairs_into r spot notes)
  round_all base s n at whole h = elim (slice_get_cases (pairs_into r spot notes) n).1 [
    | inl (pair, less, e, _) ↦ (let d = next_here s at n pair e in
        let l = (h.first.each n pair e).0 (whole pair.1 pair.0.position d.here.is_mine d.here.is_parent
        (now_stands r s.phase s.level pair.0.position (note_stands r s pair.0 pair.1 d.is_note d.here))) in
        omega arith)
    | inr (all, _) ↦ (let most = h.first.within in omega arith)
  ]

-- the next pair of such notes for a shard that has those before it
pub record IsNext (r : Rules) (spot : Spot) (notes : List NoteData) (s : ShardState) (n : ℕ) (pair : NoteData × ℕ) : Type 0 where
  pub lawful : IsGame r
  pub here : AreHere r spot notes
  pub at : spot_of s ≡ spot
  pub there : slice_get (pairs_into r spot notes) n ≡ Some pair
  pub first : AreFirst (pairs_into r spot notes) s n

module _ {r : Rules} {spot : Spot} {notes : List NoteData} {s : ShardState} {n : ℕ} {pair : NoteData × ℕ} (is : IsNext r spot notes s n pair) where
  pub next_there : IsDeliverable r s pair
  next_there = next_here r is.lawful spot notes is.here s is.at n pair is.there

  pub next_new : Contains (delivered_to s pair.1) pair.0.position → ⊥
  next_new c = let l = (is.first.each n pair is.there).0 c in omega arith

  -- its delivery adds it, or it is too far
  pub next_answer : (t : ShardState) (answer : Result Delivery Refused) → Delivers r pair.0 pair.1 s t answer → IsNextAnswer spot answer
  next_answer t (Err NotThisLevel) d = d.1 next_there.here.is_level
  next_answer t (Err NotMine) d = d.2 next_there.here.is_mine
  next_answer t (Err NotAParent) d = d.3 next_there.here.is_parent
  next_answer t (Err TooFar) d = let far = d.4 in let l = ap (λ (x : Spot). x.level) is.at in omega arith
  next_answer t (Ok Repeat) d = next_new d.2
  next_answer t (Ok Fresh) d = tt
  next_answer t (Ok FreshSettled) d = tt

  pub next_first : (t : ShardState) (answer : Result Delivery Refused) → Delivers r pair.0 pair.1 s t answer
      → AreFirst (pairs_into r spot notes) t (n + gain answer)
  next_first t answer d = elim (outcome r pair.0 pair.1 s t answer d) [
    | inl (a, more, mine, _) ↦ rw (more, (gain_is answer).0 a) (first_more r is.lawful spot notes is.here s n pair is.at is.there mine.is_mine is.first)
    | inr (none, same) ↦ (let zero_more = (gain_is answer).1 none in let all : n + gain answer ≡ n = omega arith in rw (same, all) is.first)
  ]

  pub next_round : {base : ℕ} → pairs_in s ≡ base + n → (t : ShardState) (answer : Result Delivery Refused) → Delivers r pair.0 pair.1 s t answer
      → (m : ℕ) → m ≡ n + gain answer → IsRound (pairs_into r spot notes) base t m
  next_round count t answer d m more =
      record { count = (let a = gained r pair.0 pair.1 s t answer d in omega arith); first = rw more (next_first t answer d) }

  pub next_taken : (t : ShardState) (answer : Result Delivery Refused) → is_err answer ≡ false → Delivers r pair.0 pair.1 s t answer
      → IsAdded answer × AreFirst (pairs_into r spot notes) t (n + 1)
  next_taken t (Err refused) ok d = absurd (cc)
  next_taken t (Ok answer) ok d = let a = ok_added r pair s t answer next_new d in (a, rw ((gain_is (Ok answer)).0 a) at (next_first t (Ok answer) d))

  pub next_refused : (t : ShardState) (answer : Result Delivery Refused) → is_err answer ≡ true → IsGood r t → Delivers r pair.0 pair.1 s t answer
      → IsRefusedAt r spot
  next_refused t (Ok a) on good d = absurd (cc)
  next_refused t (Err NotThisLevel) on good d = absurd (next_answer t (Err NotThisLevel) d)
  next_refused t (Err NotMine) on good d = absurd (next_answer t (Err NotMine) d)
  next_refused t (Err NotAParent) on good d = absurd (next_answer t (Err NotAParent) d)
  next_refused t (Err TooFar) on good d =
      record { state = s; good = subst (IsGood r) d.0 good; spot = is.at; pair = pair; here = next_there; event = (refl, d.1, d.2, d.3, d.4) }

-- the notes of a level are those of a level at the spot
pub level_into : (r : Rules) (l : LevelData) (spot : Spot) (notes : List NoteData) → IsLevelAt l spot notes → IsLevel r l.place l.notes
    → IsLevel r (place_of_spot spot) notes
level_into r l spot notes at level = subst (λ (p : Place). IsLevel r p notes) at.place (subst (λ (ns : List NoteData). IsLevel r l.place ns) at.notes_are level)

-- the pairs of all notes of a level at the spot into its range
pub pairs_are_into : (r : Rules) (l : LevelData) (spot : Spot) (notes : List NoteData) → IsLevelAt l spot notes → (lo hi : ℕ) → lo ≡ spot.lo → hi ≡ spot.hi
    → (pairs : List (NoteData × ℕ)) → pairs ≡ pairs_of r l.place.tier lo hi l.notes → pairs ≡ pairs_into r spot notes
pairs_are_into r l spot notes at lo hi from to pairs is =
    let tier : l.place.tier ≡ spot.tier = ap (λ (p : Place). p.tier) at.place in
    is ∙ rw (tier, from, to, at.notes_are) refl
