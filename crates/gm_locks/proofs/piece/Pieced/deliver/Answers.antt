use Rattle.gm_locks.proofs.Lower.{◌-◌, ◌<◌, ◌≤◌, ℕ, List, length, refl, sym, ap, ◌∙◌, arith, Result, Ok, Err, NoteData, Refused, PiecedData, IsTurnAt}
use Rattle.std.proofs.Common.{◌==◌, set}
use Rattle.std.specs.Result.{IsOk}
use Rattle.std.proofs.lemmas.List.{get_or_read}
use Rattle.gm_counters.specs.declared.status.Refused.TheVariants.{TooFar}
use Rattle.gm_locks.proofs.PieceLemmas.{turned_at}
use Rattle.gm_locks.proofs.piece.Pieced.deliver.Given.{Over}
use Rattle.gm_locks.proofs.piece.Pieced.deliver.Goals.{After-range-after}
use Rattle.gm_locks.proofs.piece.Pieced.deliver.Goals as goal

-- the contents of the lock afterwards
abbrev new : (g : Over) → After-range-after g → PiecedData
new g c = record {
  shard = c.deliver_from-next.new.shard;
  counts = set c.self.inside.counts.items c.args.piece c.deliver_from-next.result;
  whole = set c.self.inside.whole.items c.args.piece (c.deliver_from-next.result == c.len.result);
  book = c.raise.new.book.total;
}

turn : (g : Over) (c : After-range-after g) (answer : Result (Unit {0}) Refused) → (IsOk answer → c.max-end.result ≤ c.deliver_from-next.result)
    → IsTurnAt g.G.Game.rules g.L.ShardLedger.spot g.L.LevelLedger.notes g.L.PieceLedger.size g.L.LevelLedger.base c.args.piece c.args.to
    (c.deliver_from-next.result - c.index-from.result.now) answer c.args.self.now (new g c)
turn g c answer done =
    let next = c.deliver_from-next in
    let h = c.self.invariant in
    let within : c.args.piece < length c.self.inside.counts.items = (let a = h.many in let b = c.requires.piece in omega arith) in
    let begin = get_or_read c.self.inside.counts.items c.args.piece c.index-from.result.now within c.index-from.ensures 0 in
    let long = c.len.ensures ∙ ap (λ (ps : List (NoteData × ℕ)). length ps) c.requires.pairs in
    let bits = ap (λ (n : ℕ). set c.self.inside.whole.items c.args.piece (next.result == n)) long in
    rw (sym c.self.view_is) (turned_at g.met.G.Game.lawful (new g c) h c.args.piece c.index-from.result.now next.result c.requires.piece begin
    next.ensures.order next.ensures.run next.ensures.first refl bits c.raise.ensures.book c.args.to c.max-end.result answer c.range-before.ensures.good
    c.range-after.ensures.good c.max-end.ensures next.ensures.most done)

pub invariant_of-self : goal.invariant_of-self
invariant_of-self g c = (turn g (goal.at.invariant_of-self g c).After-range-after (Err TooFar) (λ ok. absurd (cc))).new_kept

pub invariant_of-self-2 : goal.invariant_of-self-2
invariant_of-self-2 g c = (turn g (goal.at.invariant_of-self-2 g c).After-range-after (Ok tt) (λ ok. c.if-next-end.false)).new_kept

pub returns-then-next-end-clause-turn : goal.returns-then-next-end-clause-turn
returns-then-next-end-clause-turn g c =
    let turned = turn g (goal.at.returns-then-next-end-clause-turn g c).After-range-after (Err TooFar) (λ ok. absurd (cc)) in
    (c.deliver_from-next.result - c.index-from.result.now, turned, c.raise.ensures.share)

pub returns-clause-turn : goal.returns-clause-turn
returns-clause-turn g c =
    let turned = turn g (goal.at.returns-clause-turn g c).After-range-after (Ok tt) (λ ok. c.if-next-end.false) in
    (c.deliver_from-next.result - c.index-from.result.now, turned, c.raise.ensures.share)
