use Rattle.gm_frontier.proofs.Lower.{sym, ap, ◌∙◌, Some}
use Rattle.gm_frontier.proofs.RowLemmas.{row_none, row_over, row_next, none_left}
use Rattle.gm_frontier.proofs.row.Row.next.Goals as goal

pub returns-in_err-note : goal.returns-in_err-note
returns-in_err-note g c = none_left c.from_residual.result c.args.self.now c.from_residual.ensures
    (sym c.self.view_is ∙ row_none c.self.inside.note _ c.in_err-note.ensures.value)

pub returns-in_err-parent : goal.returns-in_err-parent
returns-in_err-parent g c =
    none_left c.from_residual-in_err-parent.result c.args.self.now c.from_residual-in_err-parent.ensures
    (sym c.self.view_is ∙ row_over c.self.inside.note c.self.inside.parents.items c.as_slice.result.now c.self.inside.passed c.as_slice.ensures.value
    c.in_err-parent.ensures.lookup.3)

pub returns : goal.returns
returns g c =
    sym c.self.view_is
    ∙ row_next c.self.inside.note c.copied.result c.self.inside.parents.items c.as_slice.result.now c.self.inside.passed c.in_ok-parent.field-0.now
    (ap Some c.copied.ensures ∙ c.in_ok-note.ensures.value) c.as_slice.ensures.value
    c.in_ok-parent.ensures.lookup.3.0 c.in_ok-parent.ensures.lookup.1
