use Rattle.gamesman.proofs.Lower.{refl, ap, List, ◌++◌, ◌∙◌, ℕ}
use Rattle.gamesman.proofs.list.push_text.Goals as goal

pub returns : goal.returns
returns c = (
  record { game = c.args.game; text = c.extend_from_slice.new.self },
  c.in_ok-push.ensures.items,
  refl,
  c.in_ok-extend_from_slice.ensures.items ∙ ap (λ (t : List ℕ). t ++ c.args.text.now) c.new-owned.ensures.items,
)
