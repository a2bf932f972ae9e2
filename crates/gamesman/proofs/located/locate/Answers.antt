use Rattle.gamesman.proofs.Lower.{ℕ, List, refl, subst, ◌∙◌, err_from_is_err_and}
use Rattle.gamesman.specs.Answers.{IsLocatedText}
use Rattle.gm_play.specs.Places.{IsLocated}
use Rattle.gamesman.proofs.Cut.{kept, unlocated_answer}
use Rattle.gamesman.proofs.located.locate.Goals as goal

pub returns-in_err-text : goal.returns-in_err-text
returns-in_err-text g c =
    let l = c.in-Some.located in
    let at : IsLocated g.G.Game.rules g.G.Shown.shown c.args.position.now l = subst (λ (t : List ℕ). IsLocated g.G.Game.rules g.G.Shown.shown t l)
    c.as_bytes.ensures.value c.in-Some.ensures.located in
    let q = err_from_is_err_and c.from_residual.result c.from_residual.ensures.1 in
    rw (q.1, q.2) (record { written = kept _; refused = tt; unread = λ none. absurd (none l.position at.legal at.reads) })

pub returns-in_err-put : goal.returns-in_err-put
returns-in_err-put g c =
    let r = g.G.Game.rules in
    let shown = g.G.Shown.shown in
    let text = c.args.position.now in
    let row = c.as_slice.result.now in
    let l = c.in-Some.located in
    let at : IsLocated r shown text l = subst (λ (t : List ℕ). IsLocated r shown t l) c.as_bytes.ensures.value c.in-Some.ensures.located in
    let is : IsLocatedText r shown text c.args.json row = (l, at, c.as_slice.ensures.value ∙ c.in_ok-text.ensures) in
    let e = c.in_err-put in
    let q = err_from_is_err_and c.from_residual-in_err-put.result c.from_residual-in_err-put.ensures.1 in
    rw (q.1, q.2) (unlocated_answer r shown text c.args.json e.field-0.0 _ _ row e.ensures.fault is e.ensures.err)

pub returns : goal.returns
returns g c =
    let r = g.G.Game.rules in
    let shown = g.G.Shown.shown in
    let text = c.args.position.now in
    let row = c.as_slice.result.now in
    let l = c.in-Some.located in
    let at : IsLocated r shown text l = subst (λ (t : List ℕ). IsLocated r shown t l) c.as_bytes.ensures.value c.in-Some.ensures.located in
    let is : IsLocatedText r shown text c.args.json row = (l, at, c.as_slice.ensures.value ∙ c.in_ok-text.ensures) in
    record { written = (refl, (row, is, c.in_ok-put.ensures.ok)); refused = tt; unread = λ none. absurd (none l.position at.legal at.reads) }
