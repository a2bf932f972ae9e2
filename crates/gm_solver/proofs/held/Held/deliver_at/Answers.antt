use Rattle.gm_solver.proofs.Lower.{◌≡◌, ℕ, ap, subst, sym, ◌∙◌, arith, pairs_in, Spot, Part}
use Rattle.gm_shard.specs.inner.Masks.{IsPlaceOf}
use Rattle.gm_counters.specs.Delivery.{Delivers}
use Rattle.gm_solver.specs.Boards.{HeldData}
use Rattle.gm_locks.proofs.Gains.{gained, stays}
use Rattle.gm_solver.proofs.AnswerLemmas.{answered}
use Rattle.gm_solver.proofs.held.Held.deliver_at.Goals as goal

pub invariant_of-self : goal.invariant_of-self
invariant_of-self g c =
    let t = c.deliver_at-answer.new.self in
    let d = c.deliver_at-answer.ensures in
    let rise = gained g.G.Game.rules c.args.note.now c.args.parent c.self.inside.shard t c.deliver_at-answer.result d in
    let total : c.audit.new.book.total ≡ pairs_in t = (let a = c.audit.ensures.same.1 in let b = c.raise.ensures.book in let e = c.gained.ensures in
    let f = c.self.invariant.0 in omega arith) in
    (total, stays g.G.Game.rules c.args.note.now c.args.parent c.self.inside.shard t c.deliver_at-answer.result d ∙ c.self.invariant.1)

pub returns : goal.returns
returns g c =
    let r = g.G.Game.rules in
    let s = c.self.inside.shard in
    let t = c.deliver_at-answer.new.self in
    let d = c.deliver_at-answer.ensures in
    let answer = c.deliver_at-answer.result in
    let spot = stays r c.args.note.now c.args.parent s t answer d ∙ c.self.invariant.1 in
    let same = c.audit.ensures.same.1 in
    record {
      answer = subst (λ (h : HeldData). Delivers r c.args.note.now c.args.parent h.shard t answer) c.self.view_is d;
      event = record {
        old = s;
        new = t;
        old_good = c.range-before.ensures.good;
        new_good = c.range-after.ensures.good;
        old_spot = c.self.invariant.1;
        new_spot = spot;
        event = d;
      };
      refusals = answered r c.args.note.now c.args.parent s t answer g.L.ShardLedger.spot c.self.invariant.1 d;
      spot = spot;
      book = (let up = c.raise.ensures.book in let gain_is = c.gained.ensures in let e = ap (λ (h : HeldData). h.book) c.self.view_is in omega arith);
      share = rw (sym c.gained.ensures) (c.audit.ensures.same.0 ∙ c.raise.ensures.share);
      bound = (let a = ap (λ (p : Part). p.amount) c.audit.ensures.same.0 in let b = c.audit.ensures.bound in omega arith);
    }

pub deliver_at-answer-requires : goal.deliver_at-answer-requires
deliver_at-answer-requires g c =
    subst (λ (tier : ℕ). IsPlaceOf g.G.Game.rules c.args.note.now.position tier c.args.parent c.args.place)
    (sym (ap (λ (s : Spot). s.tier) c.self.invariant.1)) c.requires.place

pub raise-requires : goal.raise-requires
raise-requires g c = c.requires.parts
