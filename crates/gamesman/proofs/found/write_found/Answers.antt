use Rattle.gamesman.proofs.Lower.{ℕ, List, inr, subst, ◌∙◌, err_from_is_err_and, OutOfMemory, game_spec}
use Rattle.gamesman.proofs.Finds.{AreTiersOf, tiers_asked, tiers_held}
use Rattle.gamesman.proofs.Telling.{find_unsearched}
use Rattle.gamesman.proofs.found.write_found.Goals as goal

pub returns-in_err-reached : goal.returns-in_err-reached
returns-in_err-reached g c =
    let spec = game_spec g.G.Game.rules g.G.Shown.shown g.G.Shown.move_shown g.G.Pictured.picture in
    let asked = c.args.asked in
    let q = err_from_is_err_and c.from_residual.result c.from_residual.ensures.1 in
    rw (q.1, q.2) (find_unsearched _ spec asked _ (OutOfMemory c.in_err-reached.field-0.0) (inr tt))

pub invariant_of-known : goal.invariant_of-known
invariant_of-known g c =
    let built = c.args.built.now in
    let are = subst (λ (order : List ℕ). AreTiersOf c.args.asked.tier order c.tiers_of.result.now) c.tiers.ensures.value c.tiers_of.ensures in
    record { held = tiers_held g.G.Game.rules built.order _ built.tables c.args.asked.tier c.requires.order c.requires.held are }

pub invariant_of-search : goal.invariant_of-search
invariant_of-search g c = record { is_limited = c.as_ref.ensures.variant ∙ c.in_ok-reached.ensures }

pub write-done-requires : goal.write-done-requires
write-done-requires g c =
    let built = c.args.built.now in
    let are = subst (λ (order : List ℕ). AreTiersOf c.args.asked.tier order c.tiers_of.result.now) c.tiers.ensures.value c.tiers_of.ensures in
    tiers_asked g.G.Game.rules built.order _ c.args.asked.tier c.requires.order are
