use Rattle.gamesman.proofs.Lower.{◌≡◌, List, Some, subst, on_ok_weaker}
use Rattle.std.proofs.lemmas.Result.{IfErr-weaker}
use Rattle.std.specs.List.{slice_get}
use Rattle.gm_command.specs.declared.names.GameName.{GameName}
use Rattle.gamesman.specs.declared.list.ListLine.{ListLine}
use Rattle.gamesman.specs.Games.{spec_of}
use Rattle.gamesman.specs.Listed.{IsFilledBy, IsPartOf, IsUnfilled}
use Rattle.gamesman.proofs.Sheeted.{filled_more, all_some_before}
use Rattle.gamesman.proofs.sheet.fill_at.Goals as goal

pub returns-clause-ok : goal.returns-clause-ok
unfolding IsFilledBy
returns-clause-ok g c =
    let list = c.args.list.now in
    let game = c.game_at-game.result in
    let at = subst (λ (games : List GameName). slice_get games c.args.k ≡ Some game) c.as_slice.ensures.value c.game_at-game.ensures in
    on_ok_weaker c.fill_for.result
    (λ part. filled_more c.args.look list c.args.k game c.args.parts.now c.fill_for.new.parts at c.requires.before
    (subst (λ (lines : List ListLine). IsPartOf (spec_of game) c.args.look c.args.k lines c.args.parts.now c.fill_for.new.parts)
    c.as_slice-lines.ensures.value part)) c.fill_for.ensures.0

pub returns-clause-err : goal.returns-clause-err
unfolding IsFilledBy
returns-clause-err g c =
    let game = c.game_at-game.result in
    let at = subst (λ (games : List GameName). slice_get games c.args.k ≡ Some game) c.as_slice.ensures.value c.game_at-game.ensures in
    IfErr-weaker c.fill_for.result _ _
    (λ fault is. (c.args.k, game, at, all_some_before c.args.look c.args.list.now c.args.k c.args.parts.now c.requires.before, subst (λ (lines : List ListLine). IsUnfilled (spec_of game) c.args.k lines fault) c.as_slice-lines.ensures.value is))
    c.fill_for.ensures.1
