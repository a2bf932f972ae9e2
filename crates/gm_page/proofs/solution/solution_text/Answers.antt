use Rattle.gm_page.proofs.Lower.{ℕ, List, Option, ◌++◌, ◌∙◌, ap, sym, subst, arith, Position}
use Rattle.gm_page.specs.Solutions.{best_words, line_words, IsSolutionText}
use Rattle.gm_play.specs.BestLines.{IsBestLine}
use Rattle.gm_page.specs.declared.solution.TheConstants.{SOLUTION_MOVES}
use Rattle.std.proofs.lemmas.Grind.{common_steps}
use Rattle.gm_page.proofs.solution.solution_text.Goals.{in-Some+in_ok-push_move-in-Some+in_ok-push_line-in-Some+in_ok-push_others-in-Some, in-None+in_ok-extend_from_slice-in-None}
use Rattle.gm_page.proofs.solution.solution_text.Goals as goal

pub push_line-requires-clause-best : goal.push_line-requires-clause-best
push_line-requires-clause-best g c =
    (subst (λ (p : Position). IsBestLine g.G.Game.rules p SOLUTION_MOVES c.in_ok-line.line) c.requires.here c.in_ok-line.ensures.line).best

pub returns : goal.returns
returns g c = (
  c.in_ok-line.line,
  subst (λ (p : Position). IsBestLine g.G.Game.rules p SOLUTION_MOVES c.in_ok-line.line) c.requires.here c.in_ok-line.ensures.line,
  elim c.match-x.branch [
    | in-Some+in_ok-push_move-in-Some+in_ok-push_line-in-Some+in_ok-push_others-in-Some w ↦ (
        let r = g.G.Game.rules in
        let x = c.args.x in
        let p = x.position in
        let line = c.in_ok-line.line in
        let first = best_words r g.G.Shown.move_shown p w.in-Some.m x.moves in
        let (others, are, more) = w.in_ok-push_others-in-Some.ensures in
        subst (λ (best : Option ℕ). IsSolutionText r g.G.Shown.move_shown p best x line c.match-x.text.items) (sym w.in-Some.is) (
          others,
          are,
          ap (λ v. v.items) w.text-is ∙ more ∙ ap (λ (t : List ℕ). t ++ others) (w.in_ok-push_line-in-Some.ensures
              ∙ ap (λ (t : List ℕ). t ++ line_words r g.G.Shown.move_shown p line) (w.in_ok-push_move-in-Some.ensures
              ∙ ap (λ (t : List ℕ). t ++ first) c.new-text.ensures.items)),
        ))
    | in-None+in_ok-extend_from_slice-in-None w ↦ grind (arith, common_steps)
  ],
)
