use Rattle.gm_frontier.proofs.Lower.{inl, inr, List, [], ◌∷◌, sym, subst, Contains, Contains-append_cases, contains_none, contains_cases, Position}
use Rattle.gm_frontier.specs.Notes.{IsNote}
use Rattle.gm_frontier.specs.declared.pair_list.Pair.{Pair}
use Rattle.gm_frontier.specs.inner.PairLists.{ArePairs}
use Rattle.gm_frontier.proofs.pair_list.PairList.push.Goals as goal

pub invariant_of-self : goal.invariant_of-self
invariant_of-self g c = subst (ArePairs g.G.Game.rules) (sym c.in_err-push.ensures.items) c.self.invariant

pub invariant_of-self-2 : goal.invariant_of-self-2
invariant_of-self-2 g c pair h =
    let r = g.G.Game.rules in
    let old = c.self.inside.pairs.items in
    let n = c.args.note.now in
    let x : Pair = record { position = c.position.result; solved = c.solved.result; parent = c.args.parent } in
    let here : IsNote r c.position.result c.solved.result =
    subst (λ (p : Position). IsNote r p c.solved.result) (sym c.position.ensures.value)
    (subst (IsNote r n.position) (sym c.solved.ensures.value) c.position.ensures.note) in
    elim (Contains-append_cases old (x ∷ []) pair (subst (λ (ps : List Pair). Contains ps pair) c.in_ok-push.ensures.items h)) [
      | inl a ↦ c.self.invariant pair a
      | inr b ↦ elim (contains_cases x pair [] b) [
        | inl s ↦ subst (λ (p : Pair). IsNote r p.position p.solved) s here
        | inr t ↦ absurd (contains_none pair t)
      ]
    ]
