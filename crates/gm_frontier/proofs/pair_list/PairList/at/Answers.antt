use Rattle.gm_frontier.proofs.Lower.{◌≡◌, ℕ, ◌<◌, List, length, get_or, sym, ap, ap₂, subst, ◌∙◌, arith, Some, slice_get, Contains, slice_get-get_or, length-map, NoteData}
use Rattle.std.proofs.Common.{option_map}
use Rattle.std.proofs.lemmas.List.Elements.{Contains-get_or}
use Rattle.std.proofs.lemmas.Option.{slice_get-map}
use Rattle.gm_frontier.specs.declared.pair_list.Pair.{Pair}
use Rattle.gm_frontier.specs.inner.PairLists.{pair_of}
use Rattle.gm_frontier.proofs.ReadLemmas.{note}
use Rattle.gm_frontier.proofs.pair_list.PairList.at.Given.{Over}
use Rattle.gm_frontier.proofs.pair_list.PairList.at.Goals.{After-index-pair}
use Rattle.gm_frontier.proofs.pair_list.PairList.at.Goals as goal

inside : (g : Over) (c : After-index-pair g) → c.args.k < length c.self.inside.pairs.items
inside g c =
    let same : length c.args.self.now ≡ length c.self.inside.pairs.items =
    ap (λ (ps : List (NoteData × ℕ)). length ps) (sym c.self.view_is) ∙ length-map c.self.inside.pairs.items pair_of in
    omega (arith, c.requires)

pub of-requires : goal.of-requires
of-requires g c =
    let items = c.self.inside.pairs.items in
    let pair = c.index-pair.result.now in
    c.self.invariant pair (subst (Contains items) (sym c.index-pair.ensures)
    (Contains-get_or items c.args.k pair (inside g (goal.at.of-requires g c).After-index-pair)))

pub returns : goal.returns
returns g c =
    let items = c.self.inside.pairs.items in
    let pair = c.index-pair.result.now in
    let n = c.of.result in
    let is : pair_of pair ≡ (n, pair.parent) = ap₂ (λ p s. (note p s, pair.parent)) (sym c.of.ensures.position) (sym c.of.ensures.solved) in
    subst (λ (ps : List (NoteData × ℕ)). slice_get ps c.args.k ≡ Some (n, pair.parent)) c.self.view_is
    (slice_get-map pair_of items c.args.k
    ∙ ap (option_map pair_of) (slice_get-get_or items c.args.k pair (inside g (goal.at.returns g c).After-index-pair))
    ∙ ap (λ (p : Pair). Some (pair_of p)) (sym c.index-pair.ensures) ∙ ap Some is)
