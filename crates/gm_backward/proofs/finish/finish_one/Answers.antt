use Rattle.gm_backward.proofs.Lower.{List, Option, ◌++◌, length, ap, subst, sym, ◌∙◌, Solved}
use Rattle.gm_table.specs.Solving.{ArePart}
use Rattle.gm_backward.proofs.finish.finish_one.Goals as goal

pub returns : goal.returns
returns g c =
    let (part, is, long, are) = c.in_ok-finish.ensures.ok in
    let all = is ∙ ap (λ (l : List (Option Solved)). l ++ part) c.in_ok-records.ensures in
    record {
      long = ap length all ∙ long;
      are_true = subst (ArePart g.G.Game.rules c.args.shard.tier c.args.shard.lo) (sym all) are;
    }
