use Rattle.gm_find.proofs.Lower.{sym, subst, ◌∙◌, is_some, IsFirst, IsMatch, all_positions}
use Rattle.gm_find.proofs.Telling.{all_known, all_told}
use Rattle.gm_find.proofs.found.find.Goals as goal

pub look_up-requires : goal.look_up-requires
look_up-requires g c =
    let r = g.G.Game.rules in
    let known = c.args.known.now in
    rw c.as_slice.ensures.value (all_known r known.tables.now c.args.sought (is_some c.args.reached) c.args.limit known.tiers.now
    c.in_ok-positions.positions.items known.held c.in_ok-positions.ensures)

pub returns : goal.returns
returns g c =
    all_told c.look_up.result _ _ _ _ (λ v positions each counted. record {
      positions = subst (IsFirst (IsMatch g.G.Game.rules c.args.sought (is_some c.args.reached)) c.args.limit
          (all_positions g.G.Game.rules c.args.known.now.tiers.now)) (sym (positions ∙ c.as_slice.ensures.value)) c.in_ok-positions.ensures;
      each = each;
      counted = counted;
    }) c.look_up.ensures.positions c.look_up.ensures.each
    c.look_up.ensures.counted
