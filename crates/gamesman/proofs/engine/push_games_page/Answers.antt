use Rattle.gamesman.proofs.Lower.{flat_map, on_ok_weaker, game_line}
use Rattle.gm_page.specs.Pages.{page_front, page_back}
use Rattle.gamesman.specs.Engines.{engine_games}
use Rattle.gamesman.proofs.Lined.{page_of_parts}
use Rattle.gamesman.proofs.engine.push_games_page.Goals as goal

pub returns : goal.returns
returns c =
    on_ok_weaker c.push_back.result
    (λ e. page_of_parts page_front (flat_map game_line engine_games) (page_back c.args.digits.now) c.args.page.now.items c.push_front.new.page.items
    c.push_games.new.page.items c.push_back.new.page.items c.requires c.in_ok-push_front.ensures c.in_ok-push_games.ensures e)
    c.push_back.ensures
