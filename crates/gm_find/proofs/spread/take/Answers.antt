use Rattle.gm_find.proofs.Lower.{inl, inr, subst, contains_none, take_all, List, Position}
use Rattle.gm_find.specs.inner.Takings.{IsOneMore}
use Rattle.gm_find.proofs.Spreading.{met_next}
use Rattle.gm_find.proofs.spread.take.Goals as goal

pub loop-q-init : goal.loop-q-init
loop-q-init c = record {
  found = c.in_ok-push.ensures.items;
  own = c.in_ok-add.ensures;
  met = λ q. (λ has. inl has, λ f. elim f [ inl has ↦ has | inr none ↦ absurd (contains_none q none) ]);
}

pub loop-q-preserved : goal.loop-q-preserved
loop-q-preserved c =
    let before = c.loop-q.invariant in
    record {
      found = before.found;
      own = before.own;
      met = met_next c.args.taken.now.met c.loop-q.taken.met c.add-in-loop-q.new.self c.args.along.now c.loop-q.q-index _ c.loop-q-test.true before.met
          c.in_ok-add-2.ensures;
    }

pub returns : goal.returns
returns c =
    subst (λ (qs : List Position). IsOneMore c.args.x qs c.args.taken.now c.loop-q.taken) (take_all c.loop-q.q-index c.args.along.now c.loop-q-test.false)
    c.loop-q.invariant
