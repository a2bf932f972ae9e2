use Rattle.gm_solver.proofs.Lower.{◌≡◌, ℕ, Some, slice_get, sym, ap, subst, ◌∙◌, arith, Part, pairs_into}
use Rattle.gm_locks.proofs.Gains.{gained, stays}
use Rattle.gm_locks.proofs.RoundLemmas.{IsNext, of_level, next_there, next_new, next_answer, next_round}
use Rattle.gm_solver.proofs.pass.HeldInOrder.deliver_next.Given.{Over}
use Rattle.gm_solver.proofs.pass.HeldInOrder.deliver_next.Goals.{After-audit}
use Rattle.gm_solver.proofs.pass.HeldInOrder.deliver_next.Goals as goal

-- the pass has delivered as many pairs as the book counts, so its next pair is the shard's
same : (g : Over) (c : After-audit g) → c.args.pass.now ≡ c.self.inside.book.total
same g c = sym c.pass.view_is ∙ c.audit.ensures.whole c.pass.invariant.0

next : (g : Over) (c : After-audit g) → IsNext g.G.Game.rules g.L.ShardLedger.spot g.L.LevelLedger.notes c.self.inside.shard c.self.inside.book.total
    (c.args.note.now, c.args.parent)
next g c = record {
  lawful = g.met.G.Game.lawful;
  here = of_level g.G.Game.rules g.met.G.Game.lawful g.L.ShardLedger.spot g.L.LevelLedger.notes c.self.invariant.1;
  at = c.self.invariant.0;
  there = subst (λ (m : ℕ). slice_get (pairs_into g.G.Game.rules g.L.ShardLedger.spot g.L.LevelLedger.notes) m ≡ Some (c.args.note.now, c.args.parent))
      (same g c) c.requires;
  first = c.self.invariant.2.first;
}

pub invariant_of-self : goal.invariant_of-self
invariant_of-self g c = (
  stays g.G.Game.rules c.args.note.now c.args.parent c.self.inside.shard c.deliver_new-answer.new.self c.deliver_new-answer.result
      c.deliver_new-answer.ensures ∙ c.self.invariant.0,
  c.self.invariant.1,
  next_round (next g (goal.at.invariant_of-self g c).After-audit) c.self.invariant.2.count c.deliver_new-answer.new.self c.deliver_new-answer.result
      c.deliver_new-answer.ensures c.raise.new.book.total
      (let a = c.raise.ensures.book in let b = c.gained.ensures in let e = c.audit.ensures.same.1 in omega arith),
)

pub invariant_of-pass : goal.invariant_of-pass
invariant_of-pass g c =
    let inv = c.pass.invariant in
    let share = rw c.audit.ensures.same.0 at c.raise.ensures.share in
    let amount = ap (λ (p : Part). p.amount) share in
    let more = gained g.G.Game.rules c.args.note.now c.args.parent c.self.inside.shard c.deliver_new-answer.new.self c.deliver_new-answer.result
    c.deliver_new-answer.ensures in
    let count = c.self.invariant.2.count in
    let few = c.delivered-few.ensures.small in
    let gain_is = c.gained.ensures in
    let whole = c.audit.ensures.whole inv.0 in
    (ap (λ (p : Part). p.parts) share ∙ inv.0, inv.1, inv.2, omega arith)

pub returns-clause-answer : goal.returns-clause-answer
returns-clause-answer g c = next_answer (next g (goal.at.returns-clause-answer g c).After-audit) c.deliver_new-answer.new.self c.deliver_new-answer.result
    c.deliver_new-answer.ensures

pub returns-clause-step : goal.returns-clause-step
returns-clause-step g c =
    let at = (goal.at.returns-clause-step g c).After-audit in
    let d = c.deliver_new-answer.ensures in
    record {
      old = c.self.inside.shard;
      new = c.deliver_new-answer.new.self;
      old_good = c.range-before.ensures.good;
      new_good = c.range-after.ensures.good;
      old_spot = c.self.invariant.0;
      new_spot = stays g.G.Game.rules c.args.note.now c.args.parent c.self.inside.shard c.deliver_new-answer.new.self c.deliver_new-answer.result d
          ∙ c.self.invariant.0;
      old_round = rw (same g at) c.self.invariant.2;
      new_round = next_round (next g at) c.self.invariant.2.count c.deliver_new-answer.new.self c.deliver_new-answer.result d c.raise.new.self.amount
          (let share = ap (λ (p : Part). p.amount) (rw c.audit.ensures.same.0 at c.raise.ensures.share) in
          let whole = c.audit.ensures.whole c.pass.invariant.0 in let gain_is = c.gained.ensures in omega arith);
      event = d;
    }

pub deliver_new-answer-requires-clause-here : goal.deliver_new-answer-requires-clause-here
deliver_new-answer-requires-clause-here g c = (next_there (next g (goal.at.deliver_new-answer-requires-clause-here g c).After-audit)).here

pub deliver_new-answer-requires-clause-new : goal.deliver_new-answer-requires-clause-new
deliver_new-answer-requires-clause-new g c = next_new (next g (goal.at.deliver_new-answer-requires-clause-new g c).After-audit)

pub raise-requires : goal.raise-requires
raise-requires g c = rw (c.audit.ensures.same.0, c.pass.invariant.0) c.pass.invariant.1
