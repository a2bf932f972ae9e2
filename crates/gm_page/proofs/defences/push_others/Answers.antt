use Rattle.gm_page.proofs.Lower.{List, All, drop, sym, subst}
use Rattle.std.proofs.lemmas.List.Elements.{All-drop}
use Rattle.gm_play.specs.declared.move_values.MoveValue.{MoveValue}
use Rattle.gm_play.specs.PlayTexts.{IsMoveOf}
use Rattle.gm_page.proofs.defences.push_others.Goals as goal

pub push_defences-requires : goal.push_defences-requires
push_defences-requires g c =
    let Is : MoveValue → Type 0 = IsMoveOf g.G.Game.rules c.play-after.result.position in
    subst (All Is) (sym c.others.ensures)
    (subst (λ (l : List MoveValue). All Is (drop 1 l)) (sym c.as_slice.ensures.value) (All-drop Is 1 c.moves_of-moves.result.items c.moves_of-moves.ensures.each))
