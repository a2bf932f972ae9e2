use Rattle.gm_page.proofs.Lower.{◌≡◌, ℕ, List, get_or, refl, sym, subst, ◌∙◌, Contains, Contains-get_or, Position}
use Rattle.std.proofs.lemmas.Bool.{false≢true}
use Rattle.gm_page.proofs.Closing.{each_next, each_done}
use Rattle.gm_page.proofs.listing.has_results.Goals as goal

pub loop-m-preserved : goal.loop-m-preserved
loop-m-preserved g c =
    let r = g.G.Game.rules in
    let p = c.args.p in
    let all = c.args.list.now in
    each_next (λ (m : ℕ). Contains all (r.play p m)) c.as_slice-m-items.result.now c.loop-m.m-index 0 c.loop-m-test.true c.loop-m.invariant
    (subst (Contains all) c.play.ensures (c.has.ensures.0 c.if-not-has.false))

pub returns : goal.returns
returns g c =
    let r = g.G.Game.rules in
    let p = c.args.p in
    let all = c.args.list.now in
    let items = c.as_slice-m-items.result.now in
    let same : items ≡ r.moves p = c.as_slice-m-items.ensures.value ∙ c.moves-moves.ensures in (
      λ t m listed. each_done (λ (m : ℕ). Contains all (r.play p m)) items c.loop-m.m-index c.loop-m-test.false c.loop-m.invariant m
          (subst (λ (l : List ℕ). Contains l m) (sym same) listed),
      λ h. refl,
    )

pub returns-then-not-has : goal.returns-then-not-has
returns-then-not-has g c =
    let r = g.G.Game.rules in
    let p = c.args.p in
    let all = c.args.list.now in
    let items = c.as_slice-m-items.result.now in
    let same : items ≡ r.moves p = c.as_slice-m-items.ensures.value ∙ c.moves-moves.ensures in
    let m = get_or items c.loop-m.m-index 0 in
    let listed : Contains (r.moves p) m = subst (λ (l : List ℕ). Contains l m) same (Contains-get_or items c.loop-m.m-index 0 c.loop-m-test.true) in (
      λ t. absurd (false≢true t),
      λ h. absurd (false≢true (sym c.if-not-has.true ∙ c.has.ensures.1
          (subst (Contains all) (sym {A = Position} c.play.ensures) (h m listed)))),
    )
