use Rattle.gm_counters.proofs.Lower.{logged, length, ap, subst, sym, ◌∙◌, Solved, at, Status, Settled, ShardState, IsInRange, delivered_to, state_by, StatusIs}
use Rattle.gm_counters.proofs.NoteLemmas.{note_of, none_of}
use Rattle.gm_counters.proofs.deliveries.Ordered.note.Goals as goal

pub of-requires : goal.of-requires
of-requires g c =
    let r = g.G.Game.rules in
    let f = c.self.inside in
    let x = c.in-Settled.x in
    let s : ShardState = state_by f.tier f.lo f.phase f.level (length f.rows.left.items) (logged f.rows.pairs) in
    let h : StatusIs r c.args.self.now c.args.index (Settled x) =
    subst (λ (y : Status). StatusIs r c.args.self.now c.args.index y) c.in-Settled.is c.status.ensures in
    note_of r g.met.G.Game.lawful s f.rows.statuses c.self.invariant.shard c.args.index
    (subst (λ (u : ShardState). IsInRange u c.args.index) (sym c.self.view_is) c.requires) x
    (subst (λ (u : ShardState). StatusIs r u c.args.index (Settled x)) (sym c.self.view_is) h)

pub returns-in_default : goal.returns-in_default
returns-in_default g c = none_of g.G.Game.rules (at c.args.self.now.tier c.args.index) (delivered_to c.args.self.now c.args.index)
    c.status.result c.status.ensures (λ y e. c.in_default.not-Settled y e)

pub status-requires : goal.status-requires
status-requires g c = c.requires

pub returns-in-Settled : goal.returns-in-Settled
returns-in-Settled g c = (
  c.of.ensures.position ∙ ap (λ (s : ShardState). at s.tier c.args.index) c.self.view_is,
  subst (λ (x : Solved). StatusIs g.G.Game.rules c.args.self.now c.args.index (Settled x)) (sym c.of.ensures.solved) c.in-Settled.ensures,
)
