use Rattle.gamesman.proofs.play.sit.Goals as goal

pub returns-then-drawn-clause-ok : goal.returns-then-drawn-clause-ok
returns-then-drawn-clause-ok g c k known = rw c.if-drawn.true (c.session_with.ensures.ok k known)

pub returns-then-drawn-clause-err : goal.returns-then-drawn-clause-err
returns-then-drawn-clause-err g c k known = rw c.if-drawn.true (c.session_with.ensures.err k known)
