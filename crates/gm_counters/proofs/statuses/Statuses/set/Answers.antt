use Rattle.gm_counters.proofs.Lower.{List, ap, ◌∙◌, Status, status_numbered}
use Rattle.std.proofs.lemmas.List.{map-set}
use Rattle.std.proofs.Common.{set}
use Rattle.gm_counters.proofs.NumberLemmas.{in_numbers}
use Rattle.gm_counters.proofs.statuses.Statuses.set.Goals as goal

pub returns : goal.returns
returns c =
    map-set status_numbered c.self.inside.numbers.items c.args.k c.number_of_status.result
    ∙ ap (set (Rattle.std.proofs.Common.map status_numbered c.self.inside.numbers.items) c.args.k) c.number_of_status.ensures
    ∙ ap (λ (xs : List Status). set xs c.args.k c.args.status) c.self.view_is

pub number_of_status-requires : goal.number_of_status-requires
number_of_status-requires c = c.requires.near

pub index_mut-requires : goal.index_mut-requires
index_mut-requires c = in_numbers c.self.inside.numbers.items c.args.self.now _ c.args.k c.self.view_is c.self.inside.numbers.ok.0 c.requires.place
