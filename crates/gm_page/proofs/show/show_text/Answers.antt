use Rattle.gm_page.proofs.Lower.{refl, arith}
use Rattle.std.proofs.lemmas.Grind.{common_steps}
use Rattle.gm_page.proofs.show.show_text.Goals.{then-explained+in_ok-push_naming, else-explained}
use Rattle.gm_page.proofs.show.show_text.Goals as goal

pub returns : goal.returns
returns g c = (
  c.args.known.now.position,
  (c.args.known.now.legal, refl),
  c.value.result,
  c.value.ensures.value,
  elim c.if-explained.branch [
    | then-explained+in_ok-push_naming w ↦ grind (arith, common_steps)
    | else-explained w ↦ grind (arith, common_steps)
  ],
)
