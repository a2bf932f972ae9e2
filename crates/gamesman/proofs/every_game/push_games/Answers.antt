use Rattle.gamesman.proofs.Lower.{on_ok_weaker, ◌++◌}
use Rattle.gamesman.specs.Engines.{line_games, row_games, board_games, chase_games, tactix_games, taking_games, number_games}
use Rattle.gamesman.proofs.Lined.{lines_more}
use Rattle.gamesman.proofs.every_game.push_games.Goals as goal

pub returns : goal.returns
returns c =
    let start = c.args.page.now.items in
    let e1 = lines_more line_games row_games start c.push_lines.new.page.items c.push_rows.new.page.items c.in_ok-push_lines.ensures
    c.in_ok-push_rows.ensures in
    let e2 = lines_more (line_games ++ row_games) board_games start c.push_rows.new.page.items c.push_boards.new.page.items e1
    c.in_ok-push_boards.ensures in
    let e3 = lines_more ((line_games ++ row_games) ++ board_games) chase_games start c.push_boards.new.page.items c.push_chases.new.page.items e2
    c.in_ok-push_chases.ensures in
    let e4 = lines_more (((line_games ++ row_games) ++ board_games) ++ chase_games) tactix_games start c.push_chases.new.page.items c.push_tactix.new.page.items e3
    c.in_ok-push_tactix.ensures in
    let e5 = lines_more ((((line_games ++ row_games) ++ board_games) ++ chase_games) ++ tactix_games) taking_games start c.push_tactix.new.page.items c.push_takings.new.page.items e4
    c.in_ok-push_takings.ensures in
    on_ok_weaker c.push_numbers.result
    (λ e. lines_more (((((line_games ++ row_games) ++ board_games) ++ chase_games) ++ tactix_games) ++ taking_games) number_games start c.push_takings.new.page.items c.push_numbers.new.page.items e5 e)
    c.push_numbers.ensures
