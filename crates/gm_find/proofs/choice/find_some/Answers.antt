use Rattle.gm_find.proofs.Lower.{is_some, Position}
use Rattle.std.proofs.lemmas.List.Elements.{All-take}
use Rattle.std.proofs.lemmas.List.Sorted.{All-permutation}
use Rattle.gm_find.specs.declared.found.Found.{Found}
use Rattle.gm_find.specs.Founds.{IsFound, IsKnownAt}
use Rattle.gm_find.proofs.Picking.{picked_all}
use Rattle.gm_find.proofs.Telling.{all_known, apart_canonical, apart_found, apart_known, ordered_known}
use Rattle.gm_find.proofs.choice.find_some.Goals as goal

pub look_up-requires : goal.look_up-requires
look_up-requires g c =
    let r = g.G.Game.rules in
    let known = c.args.known.now in
    let P : Position → Type 0 = IsKnownAt r known.tables.now in
    let each = all_known r known.tables.now c.args.sought (is_some c.args.reached) _ known.tiers.now c.in_ok-all-in-Random.all.items known.held
    c.in_ok-all-in-Random.ensures in
    rw c.as_slice-in-Random.ensures.value
    (picked_all P c.as_slice.result.now c.in_ok-some-in-Random.some.items c.in_ok-some-in-Random.ensures.picked (rw c.as_slice.ensures.value each))

pub returns-in_ok-put_in_order-in-Sorted-clause-each : goal.returns-in_ok-put_in_order-in-Sorted-clause-each
returns-in_ok-put_in_order-in-Sorted-clause-each g c =
    let P : Found → Type 0 = IsFound g.G.Game.rules in
    rw c.truncate.ensures.items (All-take P _ _ (All-permutation P _ _ c.in_ok-put_in_order-in-Sorted.ensures.same c.in_ok-all-in-Sorted.ensures.each))

pub apart_of-requires : goal.apart_of-requires
apart_of-requires g c =
    let known = c.args.known.now in
    let (all, are, sorted) = c.in_ok-all-in-Apart.ensures in
    rw c.as_slice-in-Apart.ensures.value (ordered_known g.G.Game.rules known.tables.now c.args.sought (is_some c.args.reached) _ known.tiers.now
    c.in-Apart.order all c.in_ok-all-in-Apart.all.items known.held are sorted)

pub turned_by-requires-clause-each : goal.turned_by-requires-clause-each
turned_by-requires-clause-each g c =
    let (all, are, sorted) = c.in_ok-all-in-Apart.ensures in
    apart_found g.G.Game.rules c.args.sought (is_some c.args.reached) _ _ _ _ c.in-Apart.order all c.in_ok-all-in-Apart.all.items
    c.in_ok-some-in-Apart.some.items are sorted (rw c.as_slice-in-Apart.ensures.value at c.in_ok-some-in-Apart.ensures)

pub turned_by-requires-clause-canonical : goal.turned_by-requires-clause-canonical
turned_by-requires-clause-canonical g c =
    let (all, are, sorted) = c.in_ok-all-in-Apart.ensures in
    apart_canonical g.G.Game.rules c.args.sought (is_some c.args.reached) _ _ _ _ c.in-Apart.order all c.in_ok-all-in-Apart.all.items
    c.in_ok-some-in-Apart.some.items are sorted (rw c.as_slice-in-Apart.ensures.value at c.in_ok-some-in-Apart.ensures)

pub turned_by-requires-clause-known : goal.turned_by-requires-clause-known
turned_by-requires-clause-known g c =
    let known = c.args.known.now in
    let (all, are, sorted) = c.in_ok-all-in-Apart.ensures in
    apart_known g.G.Game.rules known.tables.now _ _ _ c.in_ok-all-in-Apart.all.items c.in_ok-some-in-Apart.some.items
    (rw c.as_slice-in-Apart.ensures.value at c.in_ok-some-in-Apart.ensures)
    (ordered_known g.G.Game.rules known.tables.now c.args.sought (is_some c.args.reached) _ known.tiers.now c.in-Apart.order all
    c.in_ok-all-in-Apart.all.items known.held are sorted)
