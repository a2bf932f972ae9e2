-- The note of an index that is read from a table.
use Rattle.gm_frontier.proofs.Lower.{◌≡◌, ℕ, ◌<◌, List, length, get_or, sym, ap, subst, ◌∙◌, Option, Some, slice_get, Contains, slice_get-get_or, Position, Solved, Draw, Rules, at, TableData, NoteData}
use Rattle.std.proofs.Common.{IsSome, unwrap_or, option_map}
use Rattle.std.proofs.lemmas.List.Elements.{Contains-get_or}
use Rattle.gm_game.specs.Records.{solved}
use Rattle.gm_table.specs.Tables.{record_at}
use Rattle.gm_frontier.specs.Notes.{IsNote}
use Rattle.gm_frontier.specs.inner.Records.{note_of, notes_at, IsRecorded, AreRecorded}
use Rattle.std.proofs.lemmas.Option.{slice_get-map}

abbrev pub note : Position → Solved → NoteData
note p s = record { position = p; solved = s }

module _ (r : Rules) (t : TableData) (indexes : List ℕ) (k i : ℕ) (o : Option Solved) (recorded : AreRecorded r t indexes) (inside : k < length indexes)
    (is : i ≡ get_or indexes k 0) (read : o ≡ record_at t.records i) where
  here : IsRecorded r t i
  here = recorded i (subst (Contains indexes) (sym is) (Contains-get_or indexes k 0 inside))

  pub has_record : IsSome o
  has_record = subst (λ (u : Option Solved). IsSome u) (sym read) here.0

  module _ (tier : ℕ) (x : Solved) (own : tier ≡ t.tier) (some : o ≡ Some x) where
    solved_is : (note_of t i).solved ≡ x
    solved_is = ap (λ (u : Option Solved). unwrap_or u (solved Draw 0)) (sym read ∙ some)

    pub read_is_note : IsNote r (at tier i) x
    read_is_note = subst (IsNote r (at tier i)) solved_is (subst (λ (u : ℕ). IsNote r (at u i) (note_of t i).solved) (sym own) here.1)

    pub note_read : (n : NoteData) → n.position ≡ at tier i → n.solved ≡ x → slice_get (notes_at t indexes) k ≡ Some n
    note_read n p s =
        let same : note_of t i ≡ n =
        ap (λ (u : ℕ). note (at u i) (note_of t i).solved) (sym own) ∙ ap (note (at tier i)) (solved_is ∙ sym s)
        ∙ ap (λ (q : Position). note q n.solved) (sym p) in
        slice_get-map (note_of t) indexes k ∙ ap (option_map (note_of t)) (slice_get-get_or indexes k 0 inside)
        ∙ ap (λ (j : ℕ). Some (note_of t j)) (sym is) ∙ ap Some same
