use Rattle.gamesman.proofs.Lower.{◌≡◌, ℕ, length, arith, subst}
use Rattle.gamesman.specs.Listed.{AreAllFilled, IsUnfilledOf}
use Rattle.gamesman.proofs.Cut.{passed}
use Rattle.gamesman.proofs.sheet.fill_all.Goals as goal

pub loop-k-init : goal.loop-k-init
loop-k-init g c = record {
  many = c.requires.many;
  made = λ j l game here place less. absurd (omega (arith, less));
  legends = c.requires.empty;
}

pub returns-in_err-fill_at-clause-err : goal.returns-in_err-fill_at-clause-err
returns-in_err-fill_at-clause-err g c =
    passed c.from_residual.result (IsUnfilledOf c.args.list.now) c.in_err-fill_at.field-0.0 c.from_residual.ensures.1 c.in_err-fill_at.ensures.err

pub returns-clause-ok : goal.returns-clause-ok
returns-clause-ok g c =
    let list = c.args.list.now in
    let all : c.loop-k.k ≡ length list.games.items = omega (arith, c.loop-k-test.false, c.loop-k.auto.k-end, c.len-k-end.ensures, list.games.ok.0) in
    subst (λ (n : ℕ). AreAllFilled c.args.look list n c.loop-k.parts) all c.loop-k.invariant
