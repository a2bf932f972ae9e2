use Rattle.gm_find.proofs.Lower.{◌∷◌, [], ◌∙◌, take_more, take_all, at, IsFound, found_position, refl}
use Rattle.std.proofs.lemmas.List.{map-append}
use Rattle.std.proofs.lemmas.List.Elements.{All-push}
use Rattle.gm_find.specs.Founds.{HasTriesAsked}
use Rattle.gm_find.proofs.found.look_up.Goals as goal

pub loop-p-preserved : goal.loop-p-preserved
loop-p-preserved g c =
    let items = c.args.positions.now in
    let k = c.loop-p.p-index in
    let list = c.loop-p.found.items in
    let x = c.found_at.result in
    record {
      positions = rw (
        c.in_ok-push.ensures.items,
        map-append found_position list (x ∷ []),
        c.loop-p.invariant.positions,
        take_more items k (at 0 0) c.loop-p-test.true,
        c.found_at.ensures.position,
      ) refl;
      each = rw c.in_ok-push.ensures.items (All-push (IsFound g.G.Game.rules) list x c.loop-p.invariant.each c.found_at.ensures.found);
      counted = rw c.in_ok-push.ensures.items (All-push (HasTriesAsked c.args.tries) list x c.loop-p.invariant.counted c.found_at.ensures.counted);
    }

pub invariant_of-known : goal.invariant_of-known
invariant_of-known g c =
    let here = c.requires c.loop-p.p-index _ c.loop-p-test.true in
    record { legal = here.0; held = here.1 }

pub returns : goal.returns
returns g c = record {
  positions = c.loop-p.invariant.positions ∙ take_all c.loop-p.p-index c.args.positions.now c.loop-p-test.false;
  each = c.loop-p.invariant.each;
  counted = c.loop-p.invariant.counted;
}
