use Rattle.gm_json.proofs.Lower.{◌≡◌, ◌++◌, List, ℕ, sym, subst, ◌∙◌, quoted}
use Rattle.std.proofs.Common.{OnOk}
use Rattle.gm_json.proofs.Writing.{clear_lossy}
use Rattle.gm_json.proofs.parts.push_text.Goals as goal

pub returns-then-are_clear : goal.returns-then-are_clear
returns-then-are_clear c =
    subst (λ (l : List ℕ). OnOk c.push_clear.result (c.push_clear.new.out.items ≡ c.args.out.now.items ++ quoted l))
    (sym (clear_lossy c.args.text.now (sym c.are_clear.ensures ∙ c.if-are_clear.true))) c.push_clear.ensures
