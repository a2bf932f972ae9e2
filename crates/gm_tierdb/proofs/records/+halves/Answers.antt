use Rattle.gm_tierdb.proofs.Lower.{rules, ◌≡◌, ◌+◌, ◌-◌, length, IfErr, subst, arith, ap, ◌∙◌, width, AreDecoded}
use Rattle.std.proofs.Common.{IfOk, ◌/◌, ◌*◌}
use Rattle.gm_tierdb.specs.Refusals.{IsFirstBad}
use Rattle.gm_tierdb.proofs.HalfLemmas.{has_read, bad_first, bad_second, read_joined, passed_on}
use Rattle.gm_tierdb.proofs.records.+halves.Goals as goal

pub returns-in_err-front-clause-bad : goal.returns-in_err-front-clause-bad
returns-in_err-front-clause-bad g t c =
    let v = c.args.version in
    let n = c.args.size / 2 in
    let k = c.args.size - n in
    let sum : c.args.size ≡ n + k = omega arith in
    let first = c.split_at.result.0.now in
    let len : length first ≡ width v * n = c.split_at.ensures.front_len ∙ ap (λ m. m * n) c.record_len.ensures.value in
    let bad : IfErr c.join-front.result.0 (IsFirstBad v n first) = search rules in
    let here = subst (λ x. IfErr x (IsFirstBad v n first)) c.in_err-front.was bad in
    passed_on (IsFirstBad v c.args.size c.args.bytes.now) c.from_residual.result c.in_err-front.field-0.0 c.from_residual.ensures.1
    (bad_first v n k c.args.size c.args.bytes.now first c.split_at.result.1.now c.in_err-front.field-0.0 c.split_at.ensures.by_index.0 sum len here)

pub returns-in-Ok-clause-found : goal.returns-in-Ok-clause-found
returns-in-Ok-clause-found g t c =
    let v = c.args.version in
    let n = c.args.size / 2 in
    let k = c.args.size - n in
    let sum : c.args.size ≡ n + k = omega arith in
    let first = c.split_at.result.0.now in
    let rest = c.split_at.result.1.now in
    let one : IfOk c.join-front.result.0 (AreDecoded v n first) = search rules in
    let two : IfOk c.join-front.result.1 (AreDecoded v k rest) = search rules in
    read_joined v n k c.args.size c.args.bytes.now first rest c.in_ok-front.front c.in-Ok.back c.joined.result c.split_at.ensures.by_index.0 sum
    (subst (λ x. IfOk x (AreDecoded v n first)) c.in_ok-front.was one) (subst (λ x. IfOk x (AreDecoded v k rest)) c.in-Ok.is two) c.joined.ensures

pub returns-in-Err-clause-bad : goal.returns-in-Err-clause-bad
returns-in-Err-clause-bad g t c =
    let v = c.args.version in
    let n = c.args.size / 2 in
    let k = c.args.size - n in
    let sum : c.args.size ≡ n + k = omega arith in
    let first = c.split_at.result.0.now in
    let rest = c.split_at.result.1.now in
    let one : IfOk c.join-front.result.0 (AreDecoded v n first) = search rules in
    let bad : IfErr c.join-front.result.1 (IsFirstBad v k rest) = search rules in
    bad_second v n k c.args.size c.args.bytes.now first rest c.in-Err.index c.split_at.ensures.by_index.0 sum
    (has_read v n first c.in_ok-front.front (subst (λ x. IfOk x (AreDecoded v n first)) c.in_ok-front.was one))
    (subst (λ x. IfErr x (IsFirstBad v k rest)) c.in-Err.is bad)
