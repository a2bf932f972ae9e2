use Rattle.gm_play.proofs.Lower.{List, ℕ, [], ◌++◌, ◌∙◌, codes, ap, sym}
use Rattle.gm_play.proofs.Saying.{nested}
use Rattle.gm_play.proofs.turns.close.Goals as goal

pub returns-in-Some : goal.returns-in-Some
returns-in-Some g c k known =
    let h = c.reply-part.ensures k known in
    rw (sym c.is_empty.ensures ∙ c.if-is_empty.false, sym h.0, sym h.1, c.in-Some.is)
    (c.joined-in-Some.ensures ∙ nested c.as_slice.result.now (codes "input ended\n") [] []
    ∙ ap (λ (x : List ℕ). x ++ codes "input ended\n") c.as_slice.ensures.value)

pub returns-in-None : goal.returns-in-None
returns-in-None g c k known =
    let h = c.reply-part.ensures k known in
    rw (sym c.is_empty.ensures ∙ c.if-is_empty.false, sym h.0, sym h.1, c.in-None.is)
    (c.joined-in-None.ensures ∙ nested c.as_slice-in-None.result.now [] [] [] ∙ ap (λ (x : List ℕ). x ++ []) c.as_slice-in-None.ensures.value)
