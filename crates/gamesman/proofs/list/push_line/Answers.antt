use Rattle.gamesman.proofs.Lower.{List, [], ◌∷◌, ◌++◌, sym, ap, subst, ◌∙◌}
use Rattle.std.specs.List.{AllZip, slice_get}
use Rattle.gm_play.specs.Dialogue.{without_return}
use Rattle.gamesman.specs.declared.list.ListLine.{ListLine}
use Rattle.gamesman.specs.Lists.{IsPlaced, game_on, text_on}
use Rattle.gamesman.proofs.Sheeted.{one_more, added_kept, games_more}
use Rattle.gamesman.proofs.list.push_line.Goals as goal

pub returns-clause-ok : goal.returns-clause-ok
returns-clause-ok c lines are =
    let all = c.args.all in
    let line = c.args.line.now in
    let old = c.args.list.now in
    let more = c.place_in.new.games.items in
    let (l, items, game, text) = c.in_ok-push_text.ensures in
    let (named, column) = c.in-Some.ensures.some in
    let of = ap (game_on all) (sym c.without_return.ensures) ∙ named in
    let added = c.in_ok-place.ensures.added in
    record {
      are_games = games_more all old.games.items more lines line c.in-Some.game are.are_games of added _ c.in_ok-place.ensures.here;
      placed = subst (λ (ls : List ListLine). AllZip (IsPlaced all more) (lines ++ line ∷ []) ls) (sym items)
          (one_more all old.games.items more lines old.lines.items line l (added_kept old.games.items more c.in-Some.game added) (
            c.in-Some.game,
            of,
            ap (slice_get more) game ∙ c.in_ok-place.ensures.here,
            text ∙ column ∙ ap (text_on all) c.without_return.ensures,
          ) are.placed);
    }
