use Rattle.gm_page.proofs.Lower.{◌<◌, ◌≤◌, List, length, map, get_or, subst, sym, ap, ◌∙◌, Position, MoveValue, IsReached, result_of, [], with_all, at, rules, arith, Contains-get_or}
use Rattle.gm_play.specs.MoveValues.{AreMoveValues}
use Rattle.std.proofs.lemmas.Option.{slice_get-get_or}
use Rattle.gm_page.proofs.Reaching.{all_through, more_through, reached_on, through_known}
use Rattle.gm_page.proofs.listing.listing_of.Goals as goal

pub loop-next-init : goal.loop-next-init
loop-next-init g c = (
  c.in_ok-line.line,
  c.in_ok-line.ensures.line,
  c.in_ok-list_all.ensures ∙ ap (λ (l : List Position). with_all c.args.limit l c.as_slice.result.now) c.new.ensures.items
      ∙ ap (with_all c.args.limit []) c.as_slice.ensures.value,
)

pub at-known-requires : goal.at-known-requires
at-known-requires g c =
    let r = g.G.Game.rules in
    let start = c.args.start.now in
    let all = c.loop-next.list in
    let next = c.loop-next.next in
    let room : next < length all = search rules in
    subst (λ (l : List Position). IsReached r start.position.tier (get_or l next (at 0 0))) (sym c.positions-in-loop-next.ensures)
    (reached_on r c.laws.ensures start.position (get_or all next (at 0 0)) start.legal
    ((through_known r start.position c.args.limit next all c.loop-next.invariant).kept.reached _ (Contains-get_or all next (at 0 0) room)))

pub loop-next-smaller : goal.loop-next-smaller
loop-next-smaller g c =
    let room : c.loop-next.next < length c.loop-next.list = search rules in
    let few = (through_known g.G.Game.rules c.args.start.now.position c.args.limit c.loop-next.next c.loop-next.list c.loop-next.invariant).kept.few in
    omega arith

pub loop-next-preserved : goal.loop-next-preserved
loop-next-preserved g c =
    let r = g.G.Game.rules in
    let all = c.loop-next.list in
    let next = c.loop-next.next in
    let xs = c.move_values.result.items in
    let room : next < length all = search rules in
    more_through r c.args.start.now.position c.args.limit next all c.list_moves.new.self (get_or all next (at 0 0)) c.loop-next.invariant
    (slice_get-get_or all next (at 0 0) room) (
      xs,
      subst (λ (q : Position). AreMoveValues r q xs) (c.at-known.ensures ∙ ap (λ (l : List Position). get_or l next (at 0 0)) c.positions-in-loop-next.ensures)
          c.move_values.ensures.values,
      c.in_ok-list_moves.ensures ∙ ap (λ (ys : List MoveValue). with_all c.args.limit all (map result_of ys)) c.as_slice-in-loop-next.ensures.value,
    )

pub returns : goal.returns
returns g c =
    let done : length c.loop-next.list ≤ c.loop-next.next = search rules in
    all_through g.G.Game.rules c.args.start.now.position c.args.limit c.loop-next.next c.loop-next.list c.loop-next.invariant done
