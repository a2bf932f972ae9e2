use Rattle.gm_frontier.proofs.Lower.{◌≡◌, refl, sym, ap, subst, arith, length, Place, IsLastLevel}
use Rattle.gm_frontier.specs.Levels.{AreBelow}
use Rattle.gm_frontier.proofs.LastLemmas.{last_iff, no_notes_left}
use Rattle.gm_frontier.proofs.level.Level.last.Goals as goal

pub returns-then-len-gt0-clause-exact : goal.returns-then-len-gt0-clause-exact
returns-then-len-gt0-clause-exact g c =
    let l = c.args.self.now in (
      (λ b. absurd (cc)),
      (λ last. (let empty = ((last_iff g.G.Game.rules g.met.G.Game.lawful l.place l.notes c.place-place.ensures.level).1 last).0 in
          let none : length l.notes ≡ 0 = ap length empty in
          absurd (omega arith))),
    )

pub returns-then-not-are_below-clause-found : goal.returns-then-not-are_below-clause-found
returns-then-not-are_below-clause-found g c = (
  (λ b. absurd (cc)),
  (λ (empty, below). (let is = c.are_below.ensures.1 (subst (AreBelow g.G.Game.rules) (sym c.place-place.ensures.value) below) in cc)),
)

pub of-requires : goal.of-requires
of-requires g c =
    let l = c.args.self.now in
    let below = subst (AreBelow g.G.Game.rules) c.place-place.ensures.value (c.are_below.ensures.0 c.if-not-are_below.false) in
    subst (λ (p : Place). IsLastLevel g.G.Game.rules p.tier p.phase p.level) (sym c.place-place.ensures.value)
    ((last_iff g.G.Game.rules g.met.G.Game.lawful l.place l.notes c.place-place.ensures.level).0 (no_notes_left l.notes (omega arith), below))

pub returns-clause-found : goal.returns-clause-found
returns-clause-found g c =
    let below = subst (AreBelow g.G.Game.rules) c.place-place.ensures.value (c.are_below.ensures.0 c.if-not-are_below.false) in
    ((λ b. (no_notes_left c.args.self.now.notes (omega arith), below)), (λ h. refl))
