use Rattle.std.proofs.Common.{◌∙◌, ◌^◌, ap, sym, Bool, cond, None}
use Rattle.gm_command.specs.Given.{number_below}
use Rattle.gm_command.proofs.Givens.{below_read}
use Rattle.gm_command.proofs.numbers.number_of.Goals as goal

pub returns-then-is_plain : goal.returns-then-is_plain
returns-then-is_plain c =
    let text = c.args.text.now in
    below_read _ 32 text c.parse.result c.parse.ensures.value.0 c.ok.result c.ok.ensures.value
    ∙ sym (ap (λ (b : Bool). cond b (number_below (2 ^ 32) text) None) (sym c.is_plain.ensures ∙ c.if-is_plain.true))
