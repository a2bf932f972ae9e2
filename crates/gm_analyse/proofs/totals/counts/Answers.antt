use Rattle.gm_analyse.proofs.Lower.{◌++◌, [], List, refl, sym, subst, arith, is_some, all_positions, Count, AreCountsBefore}
use Rattle.gm_game.specs.declared.position.Value.TheVariants.{Lose, Draw, Tie, Win}
use Rattle.gm_analyse.specs.Listing.{counted}
use Rattle.gm_analyse.proofs.CountLists.{no_counts, value_added}
use Rattle.gm_analyse.proofs.Listed.{Num, num_once, all_counts}
use Rattle.std.proofs.lemmas.Result.{IfOk-weaker}
use Rattle.gm_analyse.proofs.totals.counts.Goals as goal

pub returns : goal.returns
returns g c =
    let r = g.G.Game.rules in
    let tiers = c.args.known.now.tiers.now in
    let reached = is_some c.args.reached in
    let ps = all_positions r tiers in
    let num = Num r c.args.among reached ps in
    let once = num_once r c.args.among reached ps in
    let n = c.in_ok-numbers.numbers in
    let is = c.in_ok-numbers.ensures.numbers in
    let lost : List Count = counted Lose 0 n.lose.items in
    let drawn : List Count = lost ++ counted Draw 0 n.draw.items in
    let tied : List Count = drawn ++ counted Tie 0 n.tie.items in
    let won : List Count = tied ++ counted Win 0 n.win.items in
    let a : AreCountsBefore num 1 0 lost = value_added num once 0 Lose (omega arith) n.lose.items n.lose.items refl [] lost (no_counts num once) refl (is Lose) in
    let b : AreCountsBefore num 2 0 drawn = value_added num once 1 Lose (omega arith) n.draw.items n.draw.items refl lost drawn a refl (is Draw) in
    let d : AreCountsBefore num 3 0 tied = value_added num once 2 Lose (omega arith) n.tie.items n.tie.items refl drawn tied b refl (is Tie) in
    let e : AreCountsBefore num 4 0 won = value_added num once 3 Lose (omega arith) n.win.items n.win.items refl tied won d refl (is Win) in
    IfOk-weaker c.counts_in.result _ _ (λ v list. all_counts r c.args.among reached tiers v.items (subst (AreCountsBefore num 4 0) (sym list) e)) c.counts_in.ensures
