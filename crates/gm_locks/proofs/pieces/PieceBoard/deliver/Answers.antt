use Rattle.std.proofs.Common.{rules, ◌≡◌, ◌+◌, ℕ, List, Result}
use Rattle.gm_locks.proofs.Lower.{Rules, IsTurnAt, NoteData, PiecedData, Refused, Spot}
use Rattle.gm_locks.specs.Amounts.{Part}
use Rattle.gm_locks.specs.Spots.{for_shard}
use Rattle.gm_locks.proofs.pieces.PieceBoard.deliver.Goals as goal

-- a turn under a lock, and how its share rises
abbrev IsUnder : Rules → Spot → List NoteData → ℕ → ℕ → ℕ → ℕ → Result (Unit {0}) Refused → Part → Part → Type 0
IsUnder r s notes size base piece to answer old new = (n : ℕ) × (d : PiecedData) × (e : PiecedData) × IsTurnAt r s notes size base piece to n answer d e
    × (new ≡ record { parts = old.parts; amount = old.amount + n })

-- the same of a shard that is named by its number
under : (r : Rules) (s t : Spot) (notes others : List NoteData) (size width base start piece to : ℕ) (answer : Result (Unit {0}) Refused) (old new : Part)
    (d e : PiecedData) → s ≡ t → notes ≡ others → size ≡ width → base ≡ start
    → (n : ℕ) × IsTurnAt r s notes size base piece to n answer d e × (new ≡ record { parts = old.parts; amount = old.amount + n })
    → IsUnder r t others width start piece to answer old new
under r s t notes others size width base start piece to answer old new d e here is many from (n, turn, share) = (n, d, e, rw (here, is, many, from) at turn, share)

pub returns-in-0-clause-turn : goal.returns-in-0-clause-turn
returns-in-0-clause-turn g c =
    let spot : g.A.ShardLedger.spot ≡ for_shard c.args.shard g.A.ShardLedger.spot g.B.ShardLedger.spot g.C.ShardLedger.spot g.D.ShardLedger.spot = search
    rules in
    let base : g.A.LevelLedger.base ≡ for_shard c.args.shard g.A.LevelLedger.base g.B.LevelLedger.base g.C.LevelLedger.base g.D.LevelLedger.base = search
    rules in
    let (n, d, e, turn, share) = under _ _ _ _ g.A.LevelLedger.notes _ g.A.PieceLedger.size _ _ _ _ _ _ _ _ _ spot (search rules) (search rules) base c.deliver.ensures.turn in
    (n, d, e, turn, search rules)

pub returns-in-1-clause-turn : goal.returns-in-1-clause-turn
returns-in-1-clause-turn g c =
    let spot : g.B.ShardLedger.spot ≡ for_shard c.args.shard g.A.ShardLedger.spot g.B.ShardLedger.spot g.C.ShardLedger.spot g.D.ShardLedger.spot = search
    rules in
    let base : g.B.LevelLedger.base ≡ for_shard c.args.shard g.A.LevelLedger.base g.B.LevelLedger.base g.C.LevelLedger.base g.D.LevelLedger.base = search
    rules in
    let (n, d, e, turn, share) = under _ _ _ _ g.A.LevelLedger.notes _ g.A.PieceLedger.size _ _ _ _ _ _ _ _ _ spot (search rules) (search rules) base c.deliver-in-1.ensures.turn in
    (n, d, e, turn, search rules)

pub returns-in-2-clause-turn : goal.returns-in-2-clause-turn
returns-in-2-clause-turn g c =
    let spot : g.C.ShardLedger.spot ≡ for_shard c.args.shard g.A.ShardLedger.spot g.B.ShardLedger.spot g.C.ShardLedger.spot g.D.ShardLedger.spot = search
    rules in
    let base : g.C.LevelLedger.base ≡ for_shard c.args.shard g.A.LevelLedger.base g.B.LevelLedger.base g.C.LevelLedger.base g.D.LevelLedger.base = search
    rules in
    let (n, d, e, turn, share) = under _ _ _ _ g.A.LevelLedger.notes _ g.A.PieceLedger.size _ _ _ _ _ _ _ _ _ spot (search rules) (search rules) base c.deliver-in-2.ensures.turn in
    (n, d, e, turn, search rules)

pub returns-in_default-clause-turn : goal.returns-in_default-clause-turn
returns-in_default-clause-turn g c =
    let spot : g.D.ShardLedger.spot ≡ for_shard c.args.shard g.A.ShardLedger.spot g.B.ShardLedger.spot g.C.ShardLedger.spot g.D.ShardLedger.spot = search
    rules in
    let base : g.D.LevelLedger.base ≡ for_shard c.args.shard g.A.LevelLedger.base g.B.LevelLedger.base g.C.LevelLedger.base g.D.LevelLedger.base = search
    rules in
    let (n, d, e, turn, share) = under _ _ _ _ g.A.LevelLedger.notes _ g.A.PieceLedger.size _ _ _ _ _ _ _ _ _ spot (search rules) (search rules) base c.deliver-in_default.ensures.turn in
    (n, d, e, turn, search rules)
