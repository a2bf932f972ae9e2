use Rattle.gm_analyse.proofs.Lower.{◌≡◌, ◌+◌, ◌++◌, ◌∷◌, [], List, ℕ, take, get_or, sym, ap, ◌∙◌, subst, arith, is_some, append-nil, Contains-get_or, Position, all_positions}
use Rattle.std.proofs.lemmas.List.{take_all, take_more}
use Rattle.std.proofs.lemmas.Grind.{flat_map-append}
use Rattle.gm_play.proofs.Held.{held_own}
use Rattle.gm_find.specs.Finding.{positions_in}
use Rattle.gm_analyse.specs.Totals.{AreAllNumbers}
use Rattle.gm_analyse.proofs.Listed.{numbers_none}
use Rattle.gm_analyse.proofs.numbers.numbers_of.Goals as goal

pub loop-tier-init : goal.loop-tier-init
loop-tier-init g c =
    (c.none-numbers.ensures.short, numbers_none g.G.Game.rules c.args.among (is_some c.args.reached) c.none-numbers.result c.none-numbers.ensures.none)

pub add_tier-requires-clause-held : goal.add_tier-requires-clause-held
add_tier-requires-clause-held g c =
    let known = c.args.known.now in
    let tiers = known.tiers.now in
    held_own g.G.Game.rules known.tables.now _ (known.held (get_or tiers c.loop-tier.tier-index 0)
    (Contains-get_or tiers c.loop-tier.tier-index 0 c.loop-tier-test.true))

pub loop-tier-preserved : goal.loop-tier-preserved
loop-tier-preserved g c =
    let r = g.G.Game.rules in
    let tiers = c.args.known.now.tiers.now in
    let k = c.loop-tier.tier-index in
    let t = get_or tiers k 0 in
    let longer : all_positions r (take k tiers) ++ positions_in r t ≡ all_positions r (take (k + 1) tiers) =
    ap (λ (xs : List Position). all_positions r (take k tiers) ++ xs) (sym (append-nil (positions_in r t))) ∙ sym
    (flat_map-append (positions_in r) (take k tiers) (t ∷ [])) ∙ ap (all_positions r) (sym (take_more tiers k 0 c.loop-tier-test.true)) in (
      c.in_ok-add_tier.ensures.short,
      subst (λ (xs : List Position). AreAllNumbers r c.args.among (is_some c.args.reached) xs c.add_tier.new.numbers) longer
          (c.in_ok-add_tier.ensures.numbers (all_positions r (take k tiers)) c.loop-tier.invariant.1),
    )

pub returns-clause-numbers : goal.returns-clause-numbers
returns-clause-numbers g c =
    let r = g.G.Game.rules in
    let tiers = c.args.known.now.tiers.now in
    subst (λ (ts : List ℕ). AreAllNumbers r c.args.among (is_some c.args.reached) (all_positions r ts) c.loop-tier.numbers)
    (take_all c.loop-tier.tier-index tiers (omega arith)) c.loop-tier.invariant.1
