use Rattle.gm_page.proofs.Lower.{◌≡◌, List, ap, ◌∙◌, get, Position, is_key, place_of, rules}
use Rattle.gm_page.proofs.Places.{made_of}
use Rattle.gm_page.proofs.listing.Listing.place.Goals as goal

pub returns : goal.returns
returns c =
    let p = c.args.p in
    let got : c.copied.result ≡ get is_key c.self.inside.places (p.tier, p.index) = search rules in
    got ∙ c.self.invariant (p.tier, p.index) ∙ ap (place_of c.self.inside.positions.items) (made_of p)
    ∙ ap (λ (l : List Position). place_of l p) c.self.view_is
