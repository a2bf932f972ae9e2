use Rattle.gm_solver.proofs.Lower.{◌≡◌, ℕ, List, sym, subst, ◌∙◌, arith, ShardState, IsWhole, NoteData, Spot, spot_of, pairs_into}
use Rattle.std.proofs.Common.{◌-◌}
use Rattle.gm_locks.specs.Rounds.{AreFirst}
use Rattle.gm_locks.proofs.RoundLemmas.{level_into}
use Rattle.gm_solver.proofs.FullLemmas.{full_whole}
use Rattle.gm_solver.proofs.workplace.Workplace.end.Goals.{then-not-is_full+in_ok-deliver_rest, else-not-is_full}
use Rattle.gm_solver.proofs.workplace.Workplace.end.Goals as goal

pub deliver_rest-requires-clause-first : goal.deliver_rest-requires-clause-first
deliver_rest-requires-clause-first g c =
    let r = g.G.Game.rules in
    let s = c.into_shard-shard.result in
    let (n, round) = c.into_shard-shard.ensures.round in
    let left : n ≡ c.delivered.result - c.args.self.before =
    (let a = round.count in let b = c.delivered.ensures.value in let d = c.args.self.before_is in omega arith) in
    let at = sym c.into_shard-shard.ensures.spot in
    subst (λ (k : ℕ). AreFirst (pairs_into r (spot_of s) c.args.self.level.now.notes) s k) left
    (subst (λ (x : Spot). AreFirst (pairs_into r x c.args.self.level.now.notes) s n) at
    (subst (λ (ns : List NoteData). AreFirst (pairs_into r g.L.ShardLedger.spot ns) s n) (sym c.args.self.level_is.notes_are) round.first))

pub returns-clause-whole : goal.returns-clause-whole
returns-clause-whole g c =
    let r = g.G.Game.rules in
    let s = c.into_shard-shard.result in
    let level = level_into r c.args.self.level.now g.L.ShardLedger.spot g.L.LevelLedger.notes c.args.self.level_is c.place-place.ensures.level in
    elim c.if-not-is_full.branch [
      | then-not-is_full+in_ok-deliver_rest w ↦ subst (λ (t : ShardState). IsWhole r t) (sym w.shard-is) w.in_ok-deliver_rest.ensures.whole
      | else-not-is_full w ↦ (let (n, round) = c.into_shard-shard.ensures.round in
          let full = c.is_full.ensures (let yes = w.if-not-is_full.false in cc) in
          let same : n ≡ c.delivered.result - c.args.self.before =
          (let a = round.count in let b = c.delivered.ensures.value in let d = c.args.self.before_is in omega arith) in
          full_whole r g.met.G.Game.lawful g.L.ShardLedger.spot g.L.LevelLedger.notes level g.L.LevelLedger.base s c.if-not-is_full.shard n
          c.into_shard-shard.ensures.spot round
          (same ∙ full) w.shard-is c.range-good.ensures.good)
    ]
