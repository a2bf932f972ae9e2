use Rattle.gm_frontier.proofs.Lower.{◌≡◌, sym, subst, Phase, WinLose, Place, IsLastLevel, IsExpected}
use Rattle.gm_frontier.specs.Levels.{place_at}
use Rattle.gm_frontier.specs.Counts.{ExpectedData, next_level}
use Rattle.gm_frontier.proofs.ExpectedLemmas.{expected_turned, shown}
use Rattle.gm_frontier.proofs.expected.Expected.next_phase.Goals as goal

pub invariant_of-self : goal.invariant_of-self
invariant_of-self g c =
    let r = g.G.Game.rules in
    let e = c.self.inside in
    let first : e.phase ≡ WinLose = subst (λ (d : ExpectedData). d.phase ≡ WinLose) (sym c.self.view_is) c.requires.phase in
    let before = subst (λ (phase : Phase). IsExpected r (shown e.tier e.lo e.hi e.last phase e.number)) first c.self.invariant in
    let stands : c.args.last.now ≡ place_at e.tier WinLose (next_level e.last e.phase) =
    subst (λ (d : ExpectedData). c.args.last.now ≡ place_at d.tier WinLose d.level) (sym c.self.view_is) c.requires.stands in
    let end : IsLastLevel r e.tier WinLose (next_level e.last e.phase) =
    subst (λ (p : Place). IsLastLevel r p.tier p.phase p.level) stands c.place-last.ensures.last in
    expected_turned r g.met.G.Game.lawful e.tier e.lo e.hi e.last e.number before
    (subst (λ (phase : Phase). IsLastLevel r e.tier WinLose (next_level e.last phase)) first end)
