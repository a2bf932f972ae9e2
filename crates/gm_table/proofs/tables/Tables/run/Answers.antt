use Rattle.gm_table.proofs.Lower.{◌≡◌, ◌↔◌, ℕ, List, rules, sym, subst, Contains, at, IsCanonical, IsAscending, IsHeld}
use Rattle.gm_game.specs.Places.{StandsAt}
use Rattle.gm_table.specs.Tables.{run_of}
use Rattle.gm_table.proofs.PlaceLemmas.{run_stands, run_ascending}
use Rattle.gm_table.proofs.tables.Tables.run.Goals as goal

pub returns-in-Some-clause-ascending : goal.returns-in-Some-clause-ascending
returns-in-Some-clause-ascending g c =
    let run : c.run.result.now ≡ run_of c.args.self.now c.args.tier c.args.phase c.args.level = search rules in
    subst IsAscending (sym run) (run_ascending g.G.Game.rules g.met.G.Game.lawful c.args.self.now c.entry.ensures.tables c.args.tier c.args.phase c.args.level)

pub returns-in-Some-clause-exact : goal.returns-in-Some-clause-exact
returns-in-Some-clause-exact g c i =
    let r = g.G.Game.rules in
    let run : c.run.result.now ≡ run_of c.args.self.now c.args.tier c.args.phase c.args.level = search rules in
    subst (λ (is : List ℕ). Contains is i ↔ (IsHeld c.args.self.now c.args.tier × IsCanonical r (at c.args.tier i) × StandsAt r c.args.phase c.args.level
    (at c.args.tier i))) (sym run)
    (run_stands r g.met.G.Game.lawful c.args.self.now c.entry.ensures.tables c.args.tier c.args.phase c.args.level i)
