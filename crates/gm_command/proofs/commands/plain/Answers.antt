use Rattle.std.proofs.Common.{◌≡◌, ◌∙◌, ap, Some, rules, to_z, of_z, w64}
use Rattle.clap.specs.Words.{Rule, rule_of}
use Rattle.gm_command.proofs.Added.{number_told}
use Rattle.gm_command.proofs.commands.plain.Goals as goal

pub returns-in-Number : goal.returns-in-Number
returns-in-Number c =
    let name = c.args.word.now.name.now in
    let is_least : to_z w64 (of_z w64 c.in-Number.least) ≡ c.in-Number.least = search rules in
    let is_most : to_z w64 (of_z w64 c.in-Number.most) ≡ c.in-Number.most = search rules in
    number_told c.args.word.now c.in-Number.shown c.in-Number.least c.in-Number.most c.in-Number.default c.value_name-in-Number.result c.with_number.result c.in-Number.is
    (ap rule_of c.value_name-in-Number.ensures ∙ ap (λ (r : Rule). record r { value_names = 1 }) (ap rule_of c.long-in-Number.ensures
    ∙ ap (λ (r : Rule). record r { long = Some name }) (ap rule_of c.help-arg.ensures ∙ c.new.ensures.rule)))
    (to_z w64 (of_z w64 c.in-Number.least)) (to_z w64 (of_z w64 c.in-Number.most)) c.with_number.ensures is_least is_most
