use Rattle.gamesman.proofs.Lower.{◌++◌, [], ◌∷◌, subst, Appends, Appends-trans, err_from_is_err_and, AppendsPart, part_after}
use Rattle.gm_play.proofs.Parts.{part_longer}
use Rattle.gamesman.specs.Plays.{whose_text}
use Rattle.gamesman.proofs.Fronts.{err_after}
use Rattle.gamesman.proofs.play.write_side.Goals as goal

pub returns-in_err-put-clause-err : goal.returns-in_err-put-clause-err
returns-in_err-put-clause-err g c =
    let w0 = g.O.Write.contents c.args.output.now in
    let w1 = g.O.Write.contents c.put.new.output in
    let q = err_from_is_err_and c.from_residual.result c.from_residual.ensures.1 in
    let who = whose_text c.args.side in
    let mover = c.args.mover.now in
    rw q.1 (part_longer w0 w1 (who ++ mover) (10 ∷ []) (part_longer w0 w1 who mover
    (subst (AppendsPart w0 w1) c.whose_text.ensures c.in_err-put.ensures.err)))

pub returns-in_err-put-2-clause-err : goal.returns-in_err-put-2-clause-err
returns-in_err-put-2-clause-err g c =
    let w0 = g.O.Write.contents c.args.output.now in
    let w1 = g.O.Write.contents c.put.new.output in
    let w2 = g.O.Write.contents c.put-2.new.output in
    let q = err_from_is_err_and c.from_residual-in_err-put-2.result c.from_residual-in_err-put-2.ensures.1 in
    let who = whose_text c.args.side in
    let mover = c.args.mover.now in
    rw q.1 (part_longer w0 w2 (who ++ mover) (10 ∷ []) (part_after w0 w1 w2 who mover
    (subst (Appends w0 w1) c.whose_text.ensures c.in_ok-put.ensures.ok) c.in_err-put-2.ensures.err))

pub returns-clause-err : goal.returns-clause-err
returns-clause-err g c =
    let w0 = g.O.Write.contents c.args.output.now in
    let w1 = g.O.Write.contents c.put.new.output in
    let w2 = g.O.Write.contents c.put-2.new.output in
    let w3 = g.O.Write.contents c.put-3.new.output in
    let who = whose_text c.args.side in
    let mover = c.args.mover.now in
    err_after c.put-3.result (AppendsPart w2 w3 (10 ∷ [])) (AppendsPart w0 w3 (who ++ mover ++ 10 ∷ []))
    (λ part. part_after w0 w2 w3 (who ++ mover) (10 ∷ []) (Appends-trans w0 w1 w2 who mover
    (subst (Appends w0 w1) c.whose_text.ensures c.in_ok-put.ensures.ok) c.in_ok-put-2.ensures.ok) part) c.put-3.ensures.err
