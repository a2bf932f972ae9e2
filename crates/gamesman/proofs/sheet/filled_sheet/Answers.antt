use Rattle.gamesman.proofs.Lower.{Bool, ap, subst, length, ◌∙◌, IfOk-weaker}
use Rattle.std.proofs.lemmas.Result.{IfErr-weaker}
use Rattle.gm_caption.specs.declared.caption.Caption.{Caption}
use Rattle.gm_caption.specs.Captions.{is_valued}
use Rattle.gm_page.specs.declared.puzzles.SheetLook.{SheetLook}
use Rattle.gamesman.specs.Listed.{AreAllFilled}
use Rattle.gamesman.proofs.Sheeted.{sheet_filled, game_fault}
use Rattle.gamesman.proofs.sheet.filled_sheet.Goals as goal

pub returns-in-Ok-clause-ok : goal.returns-in-Ok-clause-ok
returns-in-Ok-clause-ok g c =
    let list = c.args.list.now in
    let parts = c.fill_all.new.parts in
    let look : Bool → SheetLook = λ valued. record { valued = valued; arrow = c.args.request.arrow } in
    let filled = subst (λ (valued : Bool). AreAllFilled (look valued) list (length list.games.items) parts)
    (c.is_valued.ensures ∙ ap (λ (caption : Caption). is_valued caption) c.sheet_caption.ensures) c.in-Ok.ensures.ok in
    IfOk-weaker c.sheet_with.result _ _ (λ v is all lines are. sheet_filled all c.args.request list lines parts v.items filled is are) c.sheet_with.ensures.ok

pub returns-in-Ok-clause-err : goal.returns-in-Ok-clause-err
returns-in-Ok-clause-err g c = IfErr-weaker c.sheet_with.result _ _ (λ fault is all lines are. is all lines) c.sheet_with.ensures.err

pub returns-in-Err-clause-err : goal.returns-in-Err-clause-err
returns-in-Err-clause-err g c all lines are =
    let (k, game, at, before, is) = c.in-Err.ensures.err in
    game_fault all c.args.list.now lines are k game at before c.in-Err.fault is
