use Rattle.gm_engine.proofs.Lower.{◌≤◌, arith}
use Rattle.gm_engine.proofs.Listed.{for_none}
use Rattle.gm_engine.proofs.games.reply_of.Goals as goal

pub returns-in_default-clause-reply : goal.returns-in_default-clause-reply
returns-in_default-clause-reply c =
    let past : 38 ≤ c.args.game = omega arith in
    for_none c.args.game _ past
