use Rattle.gm_page.proofs.Lower.{ap, ◌∙◌}
use Rattle.std.proofs.Common.{is_some}
use Rattle.gm_page.proofs.Places.{has_place}
use Rattle.gm_page.proofs.listing.Listing.has.Goals as goal

pub returns : goal.returns
returns c = has_place c.args.self.now c.args.p c.is_some.result (c.is_some.ensures ∙ ap is_some c.place.ensures)
