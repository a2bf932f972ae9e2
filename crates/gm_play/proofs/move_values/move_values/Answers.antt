use Rattle.gm_play.proofs.Lower.{MoveValue, IsMoveValue}
use Rattle.std.proofs.lemmas.List.Sorted.{All-permutation, IsPermutation-map}
use Rattle.gm_play.proofs.Held.{held_own, held_children}
use Rattle.gm_play.proofs.Wanted.{children_known, own_known}
use Rattle.gm_play.proofs.Ranking.{begins_best}
use Rattle.gm_play.proofs.move_values.move_values.Goals as goal

pub returns-clause-values : goal.returns-clause-values
returns-clause-values g c =
    let old = c.values_of-list.result.items in
    let new = c.put_in_order.new.list.items in
    record {
      listed = rw c.values_of-list.ensures.listed at (IsPermutation-map (λ (x : MoveValue). x.number) old new c.put_in_order.ensures.same);
      each = All-permutation (IsMoveValue g.G.Game.rules c.args.known.now.position) old new c.put_in_order.ensures.same c.values_of-list.ensures.each;
      ordered = c.put_in_order.ensures.ordered;
    }

pub returns-clause-best : goal.returns-clause-best
returns-clause-best g c =
    let r = g.G.Game.rules in
    let laws = g.met.G.Game.lawful in
    let known = c.args.known.now in
    let own = held_own r known.tables.now known.position.tier known.held in
    let (s, is_true) = own_known r laws known.tables.now c.truth.ensures known.position known.legal own in
    begins_best r laws known.position known.legal (children_known r laws known.tables.now c.truth.ensures known.position known.legal own
    (held_children r known.tables.now known.position.tier known.held)) s is_true
    c.put_in_order.new.list.items (returns-clause-values g c)
