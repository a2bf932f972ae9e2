use Rattle.gm_play.proofs.Lower.{◌≡◌, inl, refl, sym, ◌∙◌, rules, HasValue_once, wanted_from}
use Rattle.gm_play.proofs.Wanted.{result_held}
use Rattle.gm_play.proofs.best_moves.consider.Goals as goal

pub unwrap-child-requires : goal.unwrap-child-requires
unwrap-child-requires g c =
    let laws = g.met.G.Game.lawful in
    let legal = laws.play_legal c.args.p c.args.number c.requires.legal c.requires.listed in
    let held = result_held g.G.Game.rules laws c.args.tables.now c.args.p c.args.number c.requires.legal c.requires.listed c.requires.own c.requires.children in
    c.get.ensures.held.1 (rw c.play.ensures (legal, held))

pub returns-then-ne : goal.returns-then-ne
returns-then-ne g c =
    let child = c.unwrap-child.result in
    let here = rw c.play.ensures at (rw c.unwrap-child.ensures at c.get.ensures.is_true) in
    let differs : c.unwrap-child.result.value ≡ c.wanted.result → ⊥ = search rules in
    inl (
      refl,
      λ k goes. differs ((HasValue_once g.G.Game.rules (g.G.Game.rules.play c.args.p c.args.number) child.value (wanted_from c.args.value)
          child.remoteness k here goes).0 ∙ sym c.wanted.ensures),
    )
