use Rattle.std.proofs.Common.{◌∙◌, ap, sym, List, ℕ, Option}
use Rattle.std.specs.Prelude.{option_map, unwrap_or}
use Rattle.std.specs.Borrow.{Bor}
use Rattle.gm_command.proofs.Cuts.{dots_cut}
use Rattle.gm_command.proofs.numbers.ends_of.Goals as goal

abbrev texts : Bor (List ℕ) × Bor (List ℕ) → List ℕ × List ℕ
texts x = (x.0.now, x.1.now)

pub returns-in-Some : goal.returns-in-Some
returns-in-Some c =
    let text = c.args.text.now in
    ap (λ (o : Option (List ℕ × List ℕ)). unwrap_or o (text, text))
    (sym (ap (option_map texts) c.in-Some.is) ∙ dots_cut text c.split_once.result c.split_once.ensures.cases)

pub returns-in-None : goal.returns-in-None
returns-in-None c =
    let text = c.args.text.now in
    ap (λ (o : Option (List ℕ × List ℕ)). unwrap_or o (text, text))
    (sym (ap (option_map texts) c.in-None.is) ∙ dots_cut text c.split_once.result c.split_once.ensures.cases)
