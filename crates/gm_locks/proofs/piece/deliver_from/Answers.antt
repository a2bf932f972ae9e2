use Rattle.gm_locks.proofs.Lower.{◌≡◌, ℕ, List, Some, slice_get, true, false, sym, subst, ◌∙◌, arith, Result, Ok, Err, Rules, NoteData, Delivery, Refused, ShardState, Delivers, AreFirst, piece_of, piece_pairs}
use Rattle.gm_counters.specs.declared.status.Refused.TheVariants.{NotThisLevel, NotMine, NotAParent, TooFar}
use Rattle.std.specs.Result.{is_err}
use Rattle.gm_locks.proofs.Gains.{stays}
use Rattle.gm_locks.proofs.RoundLemmas.{IsNext, of_piece, next_there, next_new, next_taken, next_refused}
use Rattle.gm_locks.proofs.PieceLemmas.{run_next}
use Rattle.gm_locks.proofs.piece.deliver_from.Given.{Over}
use Rattle.gm_locks.proofs.piece.deliver_from.Goals.{After-at-note}
use Rattle.gm_locks.proofs.piece.deliver_from.Goals as goal

-- the pair of an iteration is the shard's next one of the piece
next : (g : Over) (c : After-at-note g) → IsNext g.G.Game.rules g.L.ShardLedger.spot (piece_of c.args.piece g.L.PieceLedger.size g.L.LevelLedger.notes)
    c.loop-k.shard c.loop-k.k c.at-note.result
next g c = record {
  lawful = g.met.G.Game.lawful;
  here = of_piece g.G.Game.rules g.met.G.Game.lawful g.L.ShardLedger.spot g.L.LevelLedger.notes c.requires.level c.args.piece g.L.PieceLedger.size;
  at = c.loop-k.invariant.spot;
  there = subst (λ (ps : List (NoteData × ℕ)). slice_get ps c.loop-k.k ≡ Some c.at-note.result) c.requires.pairs c.at-note.ensures;
  first = c.loop-k.invariant.first;
}

pub deliver_new-requires-clause-here : goal.deliver_new-requires-clause-here
deliver_new-requires-clause-here g c = (next_there (next g (goal.at.deliver_new-requires-clause-here g c).After-at-note)).here

pub deliver_new-requires-clause-new : goal.deliver_new-requires-clause-new
deliver_new-requires-clause-new g c = next_new (next g (goal.at.deliver_new-requires-clause-new g c).After-at-note)

refused_same : (r : Rules) (note : NoteData) (parent : ℕ) (s t : ShardState) (answer : Result Delivery Refused) → is_err answer ≡ true
    → Delivers r note parent s t answer → t ≡ s
refused_same r note parent s t (Ok a) on d = absurd (cc)
refused_same r note parent s t (Err NotThisLevel) on d = d.0
refused_same r note parent s t (Err NotMine) on d = d.0
refused_same r note parent s t (Err NotAParent) on d = d.0
refused_same r note parent s t (Err TooFar) on d = d.0

pub returns-then-is_err-clause-first : goal.returns-then-is_err-clause-first
returns-then-is_err-clause-first g c =
    let x = c.at-note.result in
    let yes : is_err c.deliver_new.result ≡ true = cc in
    let same = refused_same g.G.Game.rules x.0 x.1 c.loop-k.shard c.deliver_new.new.self c.deliver_new.result yes c.deliver_new.ensures in
    subst (λ (t : ShardState). AreFirst (piece_pairs g.G.Game.rules g.L.ShardLedger.spot g.L.LevelLedger.notes g.L.PieceLedger.size c.args.piece) t c.loop-k.k)
    (sym same) c.loop-k.invariant.first

pub returns-then-is_err-clause-far : goal.returns-then-is_err-clause-far
returns-then-is_err-clause-far g c less =
    let yes : is_err c.deliver_new.result ≡ true = cc in
    next_refused (next g (goal.at.returns-then-is_err-clause-far g c).After-at-note) c.deliver_new.new.self c.deliver_new.result yes
    c.range-good.ensures.good c.deliver_new.ensures

pub loop-k-preserved : goal.loop-k-preserved
loop-k-preserved g c =
    let x = c.at-note.result in
    let h = c.loop-k.invariant in
    let is = next g (goal.at.loop-k-preserved g c).After-at-note in
    let no : is_err c.deliver_new.result ≡ false = cc in
    let d = c.deliver_new.ensures in
    let taken = next_taken is c.deliver_new.new.self c.deliver_new.result no d in
    record {
      order = omega arith;
      spot = stays g.G.Game.rules x.0 x.1 c.loop-k.shard c.deliver_new.new.self c.deliver_new.result d ∙ h.spot;
      first = taken.1;
      run = run_next g.G.Game.rules (piece_pairs g.G.Game.rules g.L.ShardLedger.spot g.L.LevelLedger.notes g.L.PieceLedger.size c.args.piece) c.args.from
          c.loop-k.k x c.args.shard.now c.loop-k.shard c.deliver_new.new.self c.deliver_new.result h.order is.there h.run d taken.0;
    }
