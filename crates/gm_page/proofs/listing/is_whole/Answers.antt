use Rattle.gm_page.proofs.Lower.{◌≡◌, ℕ, List, refl, sym, subst, Contains, Position, at}
use Rattle.gm_page.proofs.Closing.{each_next, each_done}
use Rattle.gm_page.proofs.listing.is_whole.Goals as goal

pub loop-p-preserved : goal.loop-p-preserved
loop-p-preserved g c =
    let r = g.G.Game.rules in
    let all = c.args.list.now in
    each_next (λ (p : Position). (m : ℕ) → Contains (r.moves p) m → Contains all (r.play p m)) c.positions-p-items.result.now c.loop-p.p-index (at 0 0)
    c.loop-p-test.true c.loop-p.invariant
    (c.has_results.ensures.0 c.if-not-has_results.false)

pub returns : goal.returns
returns g c =
    let r = g.G.Game.rules in
    let all = c.args.list.now in
    let same : c.positions-p-items.result.now ≡ all = c.positions-p-items.ensures in (
      λ t p m has listed. each_done (λ (p : Position). (m : ℕ) → Contains (r.moves p) m → Contains all (r.play p m)) c.positions-p-items.result.now
          c.loop-p.p-index c.loop-p-test.false c.loop-p.invariant p
          (subst (λ (l : List Position). Contains l p) (sym {A = List Position} same) has) m listed,
      λ h. refl,
    )
