use Rattle.gm_find.proofs.Lower.{◌≡◌, ◌<◌, ◌+◌, ◌-◌, ◌++◌, ◌∷◌, [], ℕ, List, take, length, get_or, ap, sym, subst, ◌∙◌, is_some, take_more, take_all, Contains-get_or, Position, Rules, Adds, IsFirst, IsMatch, at, positions_in, all_positions}
use Rattle.std.proofs.lemmas.List.{append-nil}
use Rattle.gm_play.proofs.Held.{held_own}
use Rattle.std.proofs.lemmas.Grind.{flat_map-append}
use Rattle.gm_find.proofs.ListLemmas.{first_append, run_first}
use Rattle.gm_find.proofs.Matching.{run_has}
use Rattle.gm_find.proofs.positions.find_positions.Goals.{in-Some+in_ok-add_run-in-Some, in-None+in_ok-add_all-in-None}
use Rattle.gm_find.proofs.positions.find_positions.Goals as goal

-- the first of one tier more
next_tier : (r : Rules) (P : Position → Type 0) (limit : ℕ) (tiers : List ℕ) (k : ℕ) → k < length tiers → (cur new more : List Position) → new ≡ cur ++ more
    → IsFirst P limit (all_positions r (take k tiers)) cur → IsFirst P (limit - length cur) (positions_in r (get_or tiers k 0)) more
    → IsFirst P limit (all_positions r (take (k + 1) tiers)) new
next_tier r P limit tiers k inside cur new more is before first =
    let t = get_or tiers k 0 in
    let both = first_append P limit (all_positions r (take k tiers)) (positions_in r t) cur more before first in
    let longer : all_positions r (take (k + 1) tiers) ≡ all_positions r (take k tiers) ++ positions_in r t =
    ap (all_positions r) (take_more tiers k 0 inside) ∙ flat_map-append (positions_in r) (take k tiers) (t ∷ []) ∙ ap
    (λ (xs : List Position). all_positions r (take k tiers) ++ xs) (append-nil (positions_in r t)) in
    rw (is, longer) both

pub add_run-requires : goal.add_run-requires
add_run-requires g c =
    let known = c.args.known.now in
    known.held (get_or known.tiers.now c.loop-tier.tier-index 0) (Contains-get_or known.tiers.now c.loop-tier.tier-index 0 c.loop-tier-test.true)

pub add_all-requires : goal.add_all-requires
add_all-requires g c =
    let known = c.args.known.now in
    known.held (get_or known.tiers.now c.loop-tier.tier-index 0) (Contains-get_or known.tiers.now c.loop-tier.tier-index 0 c.loop-tier-test.true)

pub loop-tier-preserved : goal.loop-tier-preserved
loop-tier-preserved g c =
    let r = g.G.Game.rules in
    let reached = is_some c.args.reached in
    let P : Position → Type 0 = IsMatch r c.args.sought reached in
    let known = c.args.known.now in
    let k = c.loop-tier.tier-index in
    let t = get_or known.tiers.now k 0 in
    let cur = c.loop-tier.found.items in
    let held = known.held t (Contains-get_or known.tiers.now k 0 c.loop-tier-test.true) in
    let here : Adds P c.args.limit (positions_in r t) cur c.match-place.found.items = elim c.match-place.branch [
      | in-Some+in_ok-add_run-in-Some w ↦ (
          let run = w.run-run.result.now in
          let has = run_has r g.met.G.Game.lawful known.tables.now c.args.sought reached t w.in-Some.level w.in-Some.phase run
          (sym w.in-Some.is ∙ c.place.ensures) (held_own r known.tables.now t held) w.run-run.ensures.ascending w.run-run.ensures.exact in
          let (more, is, first) = w.in_ok-add_run-in-Some.ensures in
          rw w.found-is (more, is, run_first P (at t) (r.tier_size t) (c.args.limit - length cur) 0 run more has first)
          )
      | in-None+in_ok-add_all-in-None w ↦ rw w.found-is w.in_ok-add_all-in-None.ensures
    ] in
    let (more, is, first) = here in
    next_tier r P c.args.limit known.tiers.now k c.loop-tier-test.true cur c.match-place.found.items more is c.loop-tier.invariant first

pub returns : goal.returns
returns g c =
    let r = g.G.Game.rules in
    subst (λ (ts : List ℕ). IsFirst (IsMatch r c.args.sought (is_some c.args.reached)) c.args.limit (all_positions r ts) c.loop-tier.found.items)
    (take_all c.loop-tier.tier-index c.args.known.now.tiers.now c.loop-tier-test.false) c.loop-tier.invariant
