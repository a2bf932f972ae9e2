use Rattle.gamesman.proofs.Lower.{List, ℕ, subst, IfOk-weaker}
use Rattle.std.proofs.lemmas.Result.{IfErr-weaker}
use Rattle.gm_json.specs.Asking.{lines_of}
use Rattle.gamesman.specs.Lists.{IsListOf}
use Rattle.gamesman.specs.Listed.{IsNoSheet}
use Rattle.gamesman.proofs.Sheeted.{input_fault}
use Rattle.gamesman.proofs.sheet.sheet_of_input.Goals as goal

pub returns-in-Err-clause-err : goal.returns-in-Err-clause-err
returns-in-Err-clause-err g c = c.in-Err.ensures.err c.args.all

pub returns-in-Err-list_of-clause-err : goal.returns-in-Err-list_of-clause-err
returns-in-Err-list_of-clause-err g c =
    let all = c.args.all in
    let bytes = c.in-Ok.bytes.items in
    let fault = c.in-Err-list_of.fault in
    input_fault all (g.I.Read.remaining c.args.input.now) bytes c.in-Ok.ensures.ok fault
    (subst (λ (t : List ℕ). IsNoSheet all (lines_of t) fault) c.as_slice.ensures.value c.in-Err-list_of.ensures.err)

pub returns-clause-ok : goal.returns-clause-ok
returns-clause-ok g c =
    let all = c.args.all in
    let bytes = c.in-Ok.bytes.items in
    let list = c.in-Ok-list_of.list in
    let are = subst (λ (t : List ℕ). IsListOf all (lines_of t) list) c.as_slice.ensures.value c.in-Ok-list_of.ensures.ok in
    IfOk-weaker c.sheet_of-sheet.result _ _ (λ v is. (bytes, c.in-Ok.ensures.ok, is all (lines_of bytes) are)) c.sheet_of-sheet.ensures.ok

pub returns-clause-err : goal.returns-clause-err
returns-clause-err g c =
    let all = c.args.all in
    let bytes = c.in-Ok.bytes.items in
    let list = c.in-Ok-list_of.list in
    let are = subst (λ (t : List ℕ). IsListOf all (lines_of t) list) c.as_slice.ensures.value c.in-Ok-list_of.ensures.ok in
    IfErr-weaker c.sheet_of-sheet.result _ _
    (λ fault is. input_fault all (g.I.Read.remaining c.args.input.now) bytes c.in-Ok.ensures.ok fault (is all (lines_of bytes) are)) c.sheet_of-sheet.ensures.err
