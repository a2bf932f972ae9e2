use Rattle.gm_play.proofs.Lower.{◌≡◌, ℕ, true, List, refl, sym, ap, subst, ◌∙◌, arith, Position, IsGame, Rules, IsShown}
use Rattle.gm_game.specs.Rules.{at}
use Rattle.gm_game.proofs.SetLemmas.{same_position}
use Rattle.gm_play.specs.declared.places.Located.{Located}
use Rattle.gm_play.specs.declared.places.PlaceError.{PlaceError}
use Rattle.gm_play.specs.declared.places.PlaceError.TheVariants.{NoSuchTier, NoSuchIndex, NotLegal, NotCanonical}
use Rattle.gm_play.specs.Places.{IsAt, IsRefusedAt, IsLocated, ArePlaces}
use Rattle.gm_play.proofs.places.places.Goals as goal

module _ (r : Rules) (g : IsGame r) (shown : Position → List ℕ) (move_shown : Position → ℕ → List ℕ) (t : IsShown r shown move_shown) where
  located_at : (tier index : ℕ) (p : Position) (l : Located) → IsAt r tier index p → IsLocated r shown (shown p) l → (l.position ≡ at tier index) ×
      (l.canonical ≡ l.position)
  located_at tier index p l a h =
      let same : l.position ≡ p = t.shown_once l.position p h.legal a.1.0 h.reads in
      (same ∙ a.0, h.canonical ∙ ap r.canonical same ∙ a.1.1 ∙ sym same)

  found_at : (text : List ℕ) (l : Located) → IsLocated r shown text l → IsAt r l.position.tier l.canonical.index l.canonical
  found_at text l h =
      let tier : l.canonical.tier ≡ l.position.tier = ap (λ (q : Position). q.tier) h.canonical ∙ g.canonical_tier l.position h.legal in (
        same_position l.canonical (at l.position.tier l.canonical.index) tier refl,
        (
          subst (λ (q : Position). r.is_legal q ≡ true) (sym h.canonical) (g.canonical_legal l.position h.legal),
          ap r.canonical h.canonical ∙
              g.canonical_twice l.position h.legal ∙ sym h.canonical,
        ),
      )

  -- what is at a tier and index is refused for no reason
  never : (tier index : ℕ) (p : Position) (why : PlaceError) → IsAt r tier index p → IsRefusedAt r tier index why → ⊥
  never tier index p NoSuchTier a e = (let low = g.index_below (at tier index) (subst (λ (q : Position). r.is_legal q ≡ true) a.0 a.1.0) in omega arith)
  never tier index p NoSuchIndex a e = (let low = g.index_below (at tier index) (subst (λ (q : Position). r.is_legal q ≡ true) a.0 a.1.0) in let past = e.1
      in omega arith)
  never tier index p NotLegal a e = (let legal = subst (λ (q : Position). r.is_legal q ≡ true) a.0 a.1.0 in let not = e.1 in let z : ⊥ = cc in z)
  never tier index p NotCanonical a e = e.1 (subst (λ (q : Position). r.canonical q ≡ q) a.0 a.1.1)

  are_places : ArePlaces r shown
  are_places = record {
    located = located_at;
    there = λ tier index p a none. none p a.1.0 refl;
    found = found_at;
    unrefused = λ text l why h e. never l.position.tier l.canonical.index l.canonical why (found_at text l h) e;
  }

pub returns : goal.returns
returns g c = are_places g.G.Game.rules g.met.G.Game.lawful g.G.Shown.shown g.G.Shown.move_shown g.met.G.Shown.readable
