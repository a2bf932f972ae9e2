use Rattle.gm_page.proofs.Lower.{◌≡◌, None, ℕ, List, Some, cond, sym, ap, subst, ◌∙◌, get, Position, is_key, place_of}
use Rattle.gm_page.specs.Listings.{Tells}
use Rattle.gm_page.proofs.Places.{tells_more}
use Rattle.gm_page.proofs.listing.Listing.add.Goals as goal

pub invariant_of-self-in-Ok : goal.invariant_of-self-in-Ok
invariant_of-self-in-Ok c =
    let ps = c.self.inside.positions.items in
    let p = c.args.p in
    let old = c.self.inside.places in
    subst (λ (l : List Position). Tells c.insert.new.self l) (sym c.in_ok-push.ensures.items)
    (tells_more old c.insert.new.self ps p c.self.invariant (subst (λ (l : List Position). place_of l p ≡ None) (sym c.self.view_is) c.requires)
    (λ k. c.in-Ok.ensures.updates.0 k ∙ ap (λ (v : ℕ). cond (is_key (p.tier, p.index) k) (Some v) (get is_key old k))
    (c.len-place.ensures ∙ c.self.inside.positions.ok.0)))
