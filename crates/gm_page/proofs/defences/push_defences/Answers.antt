use Rattle.gm_page.proofs.Lower.{List, ℕ, ◌++◌, ◌∙◌, sym, subst, ap, take_all, append_assoc}
use Rattle.std.proofs.lemmas.List.{take_more}
use Rattle.gm_play.specs.declared.move_values.MoveValue.{MoveValue}
use Rattle.gm_page.specs.Defences.{AreDefences}
use Rattle.gm_page.proofs.Sheeting.{defence_more}
use Rattle.gm_page.proofs.defences.push_defences.Goals as goal

pub push_defence-requires : goal.push_defence-requires
push_defence-requires g c = c.requires c.loop-d.d-index _ c.loop-d-test.true

pub loop-d-preserved : goal.loop-d-preserved
loop-d-preserved g c =
    let r = g.G.Game.rules in
    let move_shown = g.G.Shown.move_shown in
    let p = c.args.after.now.position in
    let ds = c.args.moves.now in
    let k = c.loop-d.d-index in
    let start = c.args.text.now.items in
    let (done, are, joined) = c.loop-d.invariant in
    let (t, is, more) = c.in_ok-push_defence.ensures in (
      done ++ t,
      subst (λ (l : List MoveValue). AreDefences r move_shown p c.args.remoteness l (done ++ t)) (sym (take_more ds k _ c.loop-d-test.true))
          (defence_more r move_shown p c.args.remoteness _ _ done t are is),
      more ∙ ap (λ (u : List ℕ). u ++ t) joined ∙ append_assoc start done t,
    )

pub returns : goal.returns
returns g c =
    let (done, are, joined) = c.loop-d.invariant in (
      done,
      subst (λ (l : List MoveValue). AreDefences g.G.Game.rules g.G.Shown.move_shown c.args.after.now.position c.args.remoteness l done)
          (take_all c.loop-d.d-index c.args.moves.now c.loop-d-test.false) are,
      joined,
    )
