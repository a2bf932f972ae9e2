use Rattle.gm_locks.proofs.Lower.{◌≡◌, ℕ, ◌⊎◌, inl, inr, true, false, get_or, length, refl, ap, ◌∙◌, Result, Ok, Err, List, NoteData}
use Rattle.std.proofs.Common.{OnOk, IsOk}
use Rattle.gm_locks.proofs.PieceLemmas.{turned_bits}
use Rattle.gm_locks.proofs.piece.Pieced.deliver_rest.Given.{Over}
use Rattle.gm_locks.proofs.piece.Pieced.deliver_rest.Goals.{After-deliver}
use Rattle.gm_locks.proofs.piece.Pieced.deliver_rest.Goals as goal

on_ok_by : {T E : Type 0} (answer : Result T E) (P : Type 0) → (IsOk answer → P) → OnOk answer P
on_ok_by (Ok x) P f = f refl
on_ok_by (Err e) P f = tt

bits : (g : Over) (c : After-deliver g) → IsOk c.deliver.result → (p : ℕ) → (p ≡ c.args.piece) ⊎ (get_or c.args.self.now.whole p false ≡ true)
    → get_or c.deliver.new.self.whole p false ≡ true
bits g c ok p which = turned_bits c.deliver.ensures.turn.1 (c.len.ensures ∙ ap (λ (ps : List (NoteData × ℕ)). length ps) c.requires.pairs) c.requires.piece ok p which

pub returns-clause-here : goal.returns-clause-here
returns-clause-here g c = on_ok_by c.deliver.result (get_or c.deliver.new.self.whole c.args.piece false ≡ true)
    (λ ok. bits g (goal.at.returns-clause-here g c).After-deliver ok c.args.piece (inl refl))

pub returns-clause-others : goal.returns-clause-others
returns-clause-others g c = on_ok_by c.deliver.result ((p : ℕ) → get_or c.args.self.now.whole p false ≡ true → get_or c.deliver.new.self.whole p false ≡ true)
    (λ ok p was. bits g (goal.at.returns-clause-others g c).After-deliver ok p (inr was))
