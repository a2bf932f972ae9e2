-- Over all pieces and tiles each pair whose child is at the place comes once.
use Rattle.gm_frontier.proofs.Lower.{◌≡◌, ◌≢◌, ℕ, ◌+◌, ◌/◌, ◌<◌, inl, inr, List, length, get_or, take, drop, refl, sym, ap, ap₂, subst, ◌∙◌, arith, Contains, flat_map, div_ceil, cases_lt, Position, Solved, Lose, Draw, Tie, Win, Phase, WinLose, Ties, Place, Rules, at, IsParent, IsGame, IsTrueValue, StandsAt, map_in, HasNoRepeats, NoteData, IsNoteAt, IsLevel, pairs_of, piece_of, tile_start, tile_end, numbers_from}
use Rattle.std.proofs.Math.Nat.{lt-div-mul-add}
use Rattle.std.proofs.lemmas.Nat.{div-add-mod', div-mul-add}
use Rattle.std.proofs.lemmas.List.{length-drop, length-take, get_or-drop, get_or-take}
use Rattle.gm_game.specs.declared.position.Value.{Value}
use Rattle.gm_game.specs.Values.{HasValue}
use Rattle.gm_game.specs.Numbers.{ListsExactly}
use Rattle.gm_game.proofs.Checker.{IsTrueValue_once}
use Rattle.gm_frontier.specs.Notes.{phase_of}
use Rattle.std.proofs.Common.{◌%◌, ◌*◌}
use Rattle.gm_frontier.specs.Pairs.{IsPairAt}
use Rattle.gm_frontier.specs.inner.Tallies.{tiled_pairs}
use Rattle.gm_frontier.proofs.CountLemmas.{numbers_have}
use Rattle.gm_table.proofs.Distinct.{in_flat_map, flat_map_has, no_repeats_flat_map, no_repeats_before, no_repeats_to}
use Rattle.gm_frontier.proofs.PairLemmas.{near_of_pair, in_pairs, pairs_have, pairs_once, in_piece, positions_once, canonical_notes, piece_positions_once, piece_canonical}
use Rattle.gm_frontier.proofs.SumLemmas.{numbers_once}
use Rattle.gm_frontier.proofs.TileLemmas.{in_tile, tile_below}

-- a note is at its place
stands_of : (r : Rules) (p : Position) (v : Value) (m : ℕ) (phase : Phase) (n : ℕ) → HasValue r p v m → v ≢ Draw → phase_of v ≡ phase → m ≡ n
    → StandsAt r phase n p
stands_of r p Lose m WinLose n h d e f = inr (subst (HasValue r p Lose) f h)
stands_of r p Win m WinLose n h d e f = inl (subst (HasValue r p Win) f h)
stands_of r p Tie m Ties n h d e f = subst (HasValue r p Tie) f h
stands_of r p Lose m Ties n h d e f = absurd (cc)
stands_of r p Win m Ties n h d e f = absurd (cc)
stands_of r p Tie m WinLose n h d e f = absurd (cc)
stands_of r p Draw m phase n h d e f = absurd (d refl)

-- the index of what is in a piece
piece_index : {X : Type 0} (p n : ℕ) (xs : List X) (x : X) → Contains (take n (drop (p * n) xs)) x → (i : ℕ) × (i < length xs)
    × (get_or xs i x ≡ x) × (i / n ≡ p)
piece_index p n xs x (j, l, e) =
    let a = length-take n (drop (p * n) xs) in
    let b = length-drop (p * n) xs in
    let small : j < n = omega arith in
    (p * n + j, omega arith, sym (get_or-drop (p * n) xs j x) ∙ sym (get_or-take n (drop (p * n) xs) j x small) ∙ e, div-mul-add p n j small)

-- a list without repeats has each member at one index
one_index : {X : Type 0} (xs : List X) (x : X) (i j : ℕ) → HasNoRepeats xs → i < length xs → j < length xs → get_or xs i x ≡ x → get_or xs j x ≡ x → i ≡ j
one_index xs x i j once k l e f = elim (cases_lt i j) [
  | inl b ↦ absurd (no_repeats_to xs once i j x b l (e ∙ sym f))
  | inr b ↦ elim (cases_lt j i) [
    | inl c ↦ absurd (no_repeats_to xs once j i x c k (f ∙ sym e))
    | inr c ↦ omega arith
  ]
]

-- each member is in one piece
pub in_some_piece : {X : Type 0} (n : ℕ) (xs : List X) (x : X) → 0 < n → Contains xs x → (p : ℕ) × (p < div_ceil (length xs) n)
    × Contains (take n (drop (p * n) xs)) x
in_some_piece n xs x some (i, l, e) =
    let whole = div-add-mod' i n in
    let past = lt-div-mul-add {a = i} {b = n} some in
    let a = length-take n (drop (i / n * n) xs) in
    let b = length-drop (i / n * n) xs in
    let small : i % n < n = omega arith in
    let here : i / n * n + i % n ≡ i = whole in (
      i / n,
      tile_below (length xs) n i some l,
      (i % n, omega arith, get_or-take n (drop (i / n * n) xs) (i % n) x small ∙ get_or-drop (i / n * n) xs (i % n) x ∙ ap (λ (m : ℕ). get_or xs m x) here ∙ e),
    )

pub one_piece : {X : Type 0} (n : ℕ) (xs : List X) (x : X) (p q : ℕ) → HasNoRepeats xs → Contains (take n (drop (p * n) xs)) x
    → Contains (take n (drop (q * n) xs)) x → p ≡ q
one_piece n xs x p q once h k =
    let (i, a, e, f) = piece_index p n xs x h in
    let (j, b, c, d) = piece_index q n xs x k in
    let same = one_index xs x i j once a b e c in
    sym f ∙ ap (λ (m : ℕ). m / n) same ∙ d

module _ (r : Rules) (g : IsGame r) (place : Place) (notes : List NoteData) (level : IsLevel r place notes) where
  -- a note of the place, near the tier, is one of the level's
  listed : (n : NoteData) → IsNoteAt r place n → (i : ℕ) → IsParent r n.position place.tier i → Contains notes n
  listed n at_place i parent =
      let near = near_of_pair r g place.tier i n.position parent in
      let stands = stands_of r n.position n.solved.value n.solved.remoteness place.phase place.level at_place.note.value at_place.note.decided
      at_place.phase at_place.level in
      let (m, l, e) = map_in (λ (x : NoteData). x.position) notes n.position ((level.each n.position).0 (near.0, near.1, stands)) in
      let value : m.solved ≡ n.solved = IsTrueValue_once r n.position m.solved n.solved
      (subst (λ (p : Position). IsTrueValue r p m.solved) e (level.noted m l).note.value) at_place.note.value in
      let same : m ≡ n = ap₂ (λ (p : Position) (s : Solved). let x : NoteData = record { position = p; solved = s } in x) e value in
      subst (Contains notes) same l

  module _ (n width : ℕ) (some : 0 < n) (wide : 0 < width) where
    size : ℕ
    size = r.tier_size place.tier

    tiles : ℕ
    tiles = div_ceil (r.tier_size place.tier) width

    into : ℕ → ℕ → List (NoteData × ℕ)
    into piece tile = pairs_of r place.tier (tile_start width tile) (tile_end (r.tier_size place.tier) width tile) (piece_of piece n notes)

    of_piece : ℕ → List (NoteData × ℕ)
    of_piece piece = flat_map (λ tile. into piece tile) (numbers_from 0 tiles)

    all_pairs_there : (x : NoteData × ℕ) → IsPairAt r place x → Contains (tiled_pairs r place.tier notes n width) x
    unfolding size tiles into of_piece
    all_pairs_there x is =
        let among = listed x.0 is.note x.1 is.is_parent in
        let (p, below, there) = in_some_piece n notes x.0 some among in
        let inside : x.1 < r.tier_size place.tier = g.index_below (at place.tier x.1) is.is_parent.0.legal in
        let tile = x.1 / width in
        let before : x.1 / width < div_ceil (r.tier_size place.tier) width = tile_below (r.tier_size place.tier) width x.1 wide inside in
        let (low, high) = (in_tile width (x.1 / width) x.1 wide).0 refl in
        let parent = (g.parents_exact x.0.position place.tier x.1 is.note.note.canonical).1 is.is_parent in
        let pair = pairs_have r place.tier (tile_start width tile) (tile_end (r.tier_size place.tier) width tile) (piece_of p n notes)
        x.0 x.1 there parent low (omega arith) in
        flat_map_has of_piece (numbers_from 0 (div_ceil (length notes) n)) p x (numbers_have 0 (div_ceil (length notes) n) p (omega arith) (omega arith))
        (flat_map_has (into p) (numbers_from 0 tiles) tile x (numbers_have 0 tiles tile (omega arith) (omega arith)) pair)

    pairs_there : (x : NoteData × ℕ) → Contains (tiled_pairs r place.tier notes n width) x → IsPairAt r place x
    unfolding size tiles into of_piece
    pairs_there x h =
        let (p, pl, k) = in_flat_map of_piece (numbers_from 0 (div_ceil (length notes) n)) x h in
        let (tile, tl, q) = in_flat_map (into p) (numbers_from 0 tiles) x k in
        let (note, parent, low, high) = in_pairs r place.tier (tile_start width tile) (tile_end (r.tier_size place.tier) width tile) (piece_of p n notes) x q in
        let among = in_piece p n notes x.0 note in
        record {
          note = level.noted x.0 among;
          is_parent = (g.parents_exact x.0.position place.tier x.1 (canonical_notes r g place notes level x.0 among)).0 parent;
        }

    once : HasNoRepeats (tiled_pairs r place.tier notes n width)
    unfolding size tiles into of_piece
    once =
        no_repeats_flat_map of_piece (numbers_from 0 (div_ceil (length notes) n)) (numbers_once 0 (div_ceil (length notes) n))
        (λ p pl. no_repeats_flat_map (into p) (numbers_from 0 tiles) (numbers_once 0 tiles)
        (λ tile tl. pairs_once r g place.tier (tile_start width tile) (tile_end (r.tier_size place.tier) width tile) (piece_of p n notes)
        (piece_positions_once r g place notes level p n) (piece_canonical r g place notes level p n))
        (λ s t x sl tl a b. sym (tile_of p s x a) ∙ tile_of p t x b))
        (λ p q x pl ql a b. one_piece n notes x.0 p q (no_repeats_before (λ (m : NoteData). m.position) notes (positions_once r g place notes level))
        (note_of p x a) (note_of q x b))
      where
        tile_of : (p tile : ℕ) (x : NoteData × ℕ) → Contains (into p tile) x → x.1 / width ≡ tile
        tile_of p tile x h =
            let (note, parent, low, high) = in_pairs r place.tier (tile_start width tile) (tile_end (r.tier_size place.tier) width tile)
            (piece_of p n notes) x h in
            (in_tile width tile x.1 wide).1 (low, omega arith)

        note_of : (p : ℕ) (x : NoteData × ℕ) → Contains (of_piece p) x → Contains (piece_of p n notes) x.0
        note_of p x h =
            let (tile, tl, q) = in_flat_map (into p) (numbers_from 0 tiles) x h in
            (in_pairs r place.tier (tile_start width tile) (tile_end (r.tier_size place.tier) width tile) (piece_of p n notes) x q).0

    pub covered : ListsExactly (IsPairAt r place) (tiled_pairs r place.tier notes n width)
    covered = record { each = λ x. (all_pairs_there x, pairs_there x); once = no_repeats_to (tiled_pairs r place.tier notes n width) once }
