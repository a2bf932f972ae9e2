use Rattle.gm_backward.proofs.Lower.{ℕ, ◌≤◌, ap, sym, subst, ◌∙◌, REMOTENESS, Spot, spot_of, HasNoneHere}
use Rattle.gm_backward.specs.inner.Tiling.{next_spot}
use Rattle.gm_backward.proofs.RoundLemmas.{none_next}
use Rattle.gm_backward.proofs.tiles.close_all.Goals as goal

pub close-requires-clause-fits : goal.close-requires-clause-fits
close-requires-clause-fits g c = subst (λ (n : ℕ). n ≤ REMOTENESS) (sym (ap (λ (s : Spot). s.level) c.requires.here.a)) c.requires.near

pub close-requires-2-clause-fits : goal.close-requires-2-clause-fits
close-requires-2-clause-fits g c = subst (λ (n : ℕ). n ≤ REMOTENESS) (sym (ap (λ (s : Spot). s.level) c.requires.here.b)) c.requires.near

pub close-requires-3-clause-fits : goal.close-requires-3-clause-fits
close-requires-3-clause-fits g c = subst (λ (n : ℕ). n ≤ REMOTENESS) (sym (ap (λ (s : Spot). s.level) c.requires.here.c)) c.requires.near

pub close-requires-4-clause-fits : goal.close-requires-4-clause-fits
close-requires-4-clause-fits g c = subst (λ (n : ℕ). n ≤ REMOTENESS) (sym (ap (λ (s : Spot). s.level) c.requires.here.d)) c.requires.near

pub returns-clause-shards : goal.returns-clause-shards
returns-clause-shards g c =
    let at = c.requires.here in
    record {
      a = ap spot_of c.close.ensures ∙ ap next_spot at.a;
      b = ap spot_of c.close-2.ensures ∙ ap next_spot at.b;
      c = ap spot_of c.close-3.ensures ∙ ap next_spot at.c;
      d = ap spot_of c.close-4.ensures ∙ ap next_spot at.d;
    }

pub returns-clause-none : goal.returns-clause-none
returns-clause-none g c =
    let r = g.G.Game.rules in
    let s = c.args.shards in
    record {
      a = subst (HasNoneHere r) (sym c.close.ensures) (none_next r s.a c.range-a.ensures.good);
      b = subst (HasNoneHere r) (sym c.close-2.ensures) (none_next r s.b c.range-b.ensures.good);
      c = subst (HasNoneHere r) (sym c.close-3.ensures) (none_next r s.c c.range-c.ensures.good);
      d = subst (HasNoneHere r) (sym c.close-4.ensures) (none_next r s.d c.range-d.ensures.good);
    }
