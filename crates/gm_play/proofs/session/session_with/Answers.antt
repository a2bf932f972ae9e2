use Rattle.std.proofs.lemmas.Result.{on_ok_weaker}
use Rattle.gm_play.proofs.Reaching.{own_reached}
use Rattle.gm_play.proofs.Advising.{advised}
use Rattle.gm_play.proofs.Courses.{course_won, course_even}
use Rattle.gm_play.proofs.session.session_with.Goals as goal

pub returns-clause-known : goal.returns-clause-known
returns-clause-known g c =
    let start = c.args.start.now in
    advised g.G.Game.rules g.met.G.Game.lawful start.tables.now c.truth.ensures start.position.tier start.held

pub returns-clause-won : goal.returns-clause-won
returns-clause-won g c n h k known bytes =
    let r = g.G.Game.rules in
    let start = c.args.start.now.position in
    (course_won r g.met.G.Game.lawful g.G.Shown.shown g.G.Shown.move_shown k g.V.View.seen start.tier known start c.args.first n bytes
    (own_reached r start c.args.start.now.legal) h).0

pub returns-clause-even : goal.returns-clause-even
returns-clause-even g c h k known bytes =
    let r = g.G.Game.rules in
    let start = c.args.start.now.position in
    (course_even r g.met.G.Game.lawful g.G.Shown.shown g.G.Shown.move_shown k g.V.View.seen start.tier known start c.args.first bytes
    (own_reached r start c.args.start.now.legal) h).0

pub returns-clause-won_text : goal.returns-clause-won_text
returns-clause-won_text g c n h =
    let start = c.args.start.now.position in
    let (k, known) = returns-clause-known g c in
    on_ok_weaker c.converse.result (λ t. (
      _,
      t.writes,
      (course_won g.G.Game.rules g.met.G.Game.lawful g.G.Shown.shown g.G.Shown.move_shown k g.V.View.seen start.tier known start c.args.first n t.bytes
          (own_reached g.G.Game.rules start c.args.start.now.legal) h).1,
    )) (c.converse.ensures.ok k known)

pub returns-clause-even_text : goal.returns-clause-even_text
returns-clause-even_text g c h =
    let start = c.args.start.now.position in
    let (k, known) = returns-clause-known g c in
    on_ok_weaker c.converse.result (λ t. (
      _,
      t.writes,
      (course_even g.G.Game.rules g.met.G.Game.lawful g.G.Shown.shown g.G.Shown.move_shown k g.V.View.seen start.tier known start c.args.first t.bytes
          (own_reached g.G.Game.rules start c.args.start.now.legal) h).1,
    )) (c.converse.ensures.ok k known)
