use Rattle.gamesman.proofs.Lower.{List, ℕ, refl, inl, inr, subst, Appends, AppendsPart, err_from_is_err_and}
use Rattle.gamesman.specs.Plays.{opening}
use Rattle.gamesman.proofs.play.play.Goals as goal

pub returns-in_err-write_opening : goal.returns-in_err-write_opening
returns-in_err-write_opening g c =
    let q = err_from_is_err_and c.from_residual.result c.from_residual.ensures.1 in
    let asked = c.args.asked in
    rw (q.1, q.2) (inl (
      c.in_err-write_opening.ensures.fault,
      subst (λ (mover : List ℕ). AppendsPart (g.O.Write.contents c.args.output.now) (g.O.Write.contents c.write_opening.new.output)
          (opening asked.drawn mover asked.first)) c.mover-mover.ensures c.in_err-write_opening.ensures.err,
    ))

pub returns-in_err-sit : goal.returns-in_err-sit
returns-in_err-sit g c =
    let q = err_from_is_err_and c.from_residual-in_err-sit.result c.from_residual-in_err-sit.ensures.1 in
    let asked = c.args.asked in
    rw q.1 (inr (
      c.in_err-sit.field-0.0,
      q.2,
      record {
        left = g.I.Read.remaining c.sit.new.input;
        between = g.O.Write.contents c.write_opening.new.output;
        opened = subst (λ (mover : List ℕ). Appends (g.O.Write.contents c.args.output.now) (g.O.Write.contents c.write_opening.new.output)
            (opening asked.drawn mover asked.first)) c.mover-mover.ensures c.in_ok-write_opening.ensures.ok;
        broken = c.in_err-sit.ensures.err;
        known = c.sit.ensures.known;
      },
    ))

pub returns : goal.returns
returns g c =
    let asked = c.args.asked in (
      refl,
      record {
        left = g.I.Read.remaining c.sit.new.input;
        between = g.O.Write.contents c.write_opening.new.output;
        opened = subst (λ (mover : List ℕ). Appends (g.O.Write.contents c.args.output.now) (g.O.Write.contents c.write_opening.new.output)
            (opening asked.drawn mover asked.first)) c.mover-mover.ensures c.in_ok-write_opening.ensures.ok;
        session = c.in_ok-sit.ensures.ok;
        won = c.in_ok-sit.ensures.won;
        even = c.in_ok-sit.ensures.even;
        known = c.sit.ensures.known;
      },
    )
