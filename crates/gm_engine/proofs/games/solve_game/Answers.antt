use Rattle.gm_engine.proofs.Listed.{for_any}
use Rattle.gm_engine.proofs.games.solve_game.Goals as goal

pub reply_of-requires : goal.reply_of-requires
reply_of-requires c = for_any c.args.game _ (λ g. tt)
