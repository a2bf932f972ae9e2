use Rattle.gm_find.proofs.Lower.{Contains-append_left, ◌≡◌, ℕ, List, take, get_or, sym, ap, ◌∙◌, subst, Contains, take_more, take_all, Contains-get_or}
use Rattle.std.proofs.Common.{drop, take-append-drop}
use Rattle.gm_find.proofs.Onlies.{only_skip, only_more, only_two, only_all}
use Rattle.gm_find.proofs.only.has_only_result.Goals.{then-achieves+else-not-agrees, else-achieves}
use Rattle.gm_find.proofs.only.has_only_result.Goals as goal

pub returns-then-not-agrees : goal.returns-then-not-agrees
returns-then-not-agrees g c =
    let r = g.G.Game.rules in
    let items = c.as_slice-m-items.result.now in
    let k = c.loop-m.m-index in
    let m = get_or items k 0 in
    let all = c.as_slice-m-items.ensures.value ∙ c.moves-moves.ensures in
    let listed = subst (λ (xs : List ℕ). Contains xs m) all (Contains-get_or items k 0 c.loop-m-test.true) in
    let leads : r.canonical (r.play c.args.known.now.position m) ≡ c.canonical-found.result = sym
    (c.canonical-found.ensures ∙ ap r.canonical c.play.ensures) in (
      λ t. absurd (cc),
      λ x. absurd (only_two r c.args.aim c.args.known.now.position (take k items) m c.loop-m.only c.canonical-found.result c.loop-m.invariant
          (λ n has. subst (λ (xs : List ℕ). Contains xs n) (take-append-drop k items ∙ all) (Contains-append_left (take k items) (drop k items) n has))
          listed (c.achieves.ensures.0 c.if-achieves.true) leads
          (λ a. let t = c.agrees.ensures.1 a in let f = c.if-not-agrees.true in cc) x),
    )

pub loop-m-preserved : goal.loop-m-preserved
loop-m-preserved g c =
    let r = g.G.Game.rules in
    let p = c.args.known.now.position in
    let aim = c.args.aim in
    let items = c.as_slice-m-items.result.now in
    let k = c.loop-m.m-index in
    let m = get_or items k 0 in
    elim c.if-achieves.branch [
      | then-achieves+else-not-agrees w ↦ (
          let leads = sym (w.canonical-found.ensures ∙ ap r.canonical w.play.ensures) in
          let kept = c.achieves.ensures.0 w.if-achieves.true in
          let agrees = w.agrees.ensures.0 w.if-not-agrees.false in
          rw (take_more items k 0 c.loop-m-test.true, w.only-is)
          (only_more r aim p (take k items) m c.loop-m.only w.canonical-found.result c.loop-m.invariant kept leads agrees))
      | else-achieves w ↦ rw (take_more items k 0 c.loop-m-test.true, w.only-is)
          (only_skip r aim p (take k items) m c.loop-m.only c.loop-m.invariant (λ n. let t = c.achieves.ensures.1 n in let f = w.if-achieves.false in cc))
    ]

pub returns : goal.returns
returns g c =
    let all = take_all c.loop-m.m-index c.as_slice-m-items.result.now c.loop-m-test.false ∙ c.as_slice-m-items.ensures.value ∙ c.moves-moves.ensures in
    rw c.is_some.ensures (only_all g.G.Game.rules c.args.aim c.args.known.now.position c.loop-m.only (rw all at c.loop-m.invariant))
