use Rattle.gamesman.proofs.Lower.{ℕ, List, sym, subst, inr}
use Rattle.gamesman.specs.Listed.{IsSheetOfInput, IsNoSheetOfInput}
use Rattle.gamesman.proofs.Cut.{kept_cut}
use Rattle.gamesman.proofs.Telling.{put_told}
use Rattle.gamesman.proofs.Sheeted.{not_failed, not_closed}
use Rattle.gamesman.proofs.sheet.write_all.Goals as goal

pub returns-in-Err : goal.returns-in-Err
returns-in-Err g c =
    let all = c.args.all in
    let input = g.I.Read.remaining c.args.input.now in
    let IsText : List ℕ → Type 0 = IsSheetOfInput all c.args.request input in
    record {
      written = kept_cut IsText (g.O.Write.contents c.args.output.now) (IsNoSheetOfInput all input) (not_failed all input) (not_closed all input)
          c.in-Err.fault c.in-Err.ensures.err;
      refused = inr c.in-Err.ensures.err;
    }

pub returns : goal.returns
returns g c =
    let all = c.args.all in
    let input = g.I.Read.remaining c.args.input.now in
    let IsText : List ℕ → Type 0 = IsSheetOfInput all c.args.request input in
    put_told IsText (IsNoSheetOfInput all input) c.as_slice.result.now _ _ c.put_all.result (subst IsText (sym c.as_slice.ensures.value) c.in-Ok.ensures.ok)
    c.put_all.ensures
