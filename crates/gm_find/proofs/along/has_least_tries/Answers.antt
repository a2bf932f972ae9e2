use Rattle.gm_find.proofs.Lower.{ℕ, sym, ap, ◌∙◌, subst, HasValue}
use Rattle.std.proofs.Common.{◌≤◌}
use Rattle.gm_game.specs.declared.position.Value.{Value}
use Rattle.gm_find.specs.Tries.{AreTriesOf, HasLeastTries, least_turn}
use Rattle.gm_find.proofs.Onlies.{same_answer}
use Rattle.gm_find.proofs.Turns.{on_solution_once, drawn_unsolved}
use Rattle.gm_find.proofs.along.has_least_tries.Goals as goal

pub returns-in-Some : goal.returns-in-Some
returns-in-Some g c =
    let r = g.G.Game.rules in
    let p = c.args.known.now.position in
    let least = c.args.least in
    let h = subst (AreTriesOf r p c.value.result.value) c.in-Some.is c.tries_of.ensures in
    same_answer c.has_at_least.result (least ≤ c.in-Some.found.least) (HasLeastTries r least p) (
      λ low. (h.turns, h.along, subst (λ (n : ℕ). least ≤ n) h.least low),
      λ (ts, on, low). subst (λ (n : ℕ). least ≤ n) (ap least_turn (on_solution_once r p ts h.turns on h.along) ∙ sym h.least) low,
    ) c.has_at_least.ensures

pub returns-in-None : goal.returns-in-None
returns-in-None g c =
    let r = g.G.Game.rules in
    let p = c.args.known.now.position in
    let drawn = subst (AreTriesOf r p c.value.result.value) c.in-None.is c.tries_of.ensures in
    let value = subst (λ (v : Value). HasValue r p v c.value.result.remoteness) drawn c.value.ensures.value in
    (λ t. absurd (cc), λ (ts, (ms, solution, turns), low). absurd (drawn_unsolved r ms p c.value.result.remoteness value solution))
