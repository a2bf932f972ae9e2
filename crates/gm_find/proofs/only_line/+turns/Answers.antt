use Rattle.gm_find.proofs.Lower.{◌<◌, ◌-◌, ℕ, List, get_or, refl, sym, ◌∙◌, subst, arith, Contains, take_all, Contains-get_or, Position, Win, HasValue, IsOnlyAfter}
use Rattle.gm_find.specs.declared.only.Aim.{Aim}
use Rattle.gm_find.specs.Finding.{Achieves, HasOnly, IsOnlyWin, IsOnlyDefence, AfterDefence}
use Rattle.gm_find.proofs.Onlies.{each_more, turn_is, same_answer, win_is, is_win}
use Rattle.gm_find.proofs.only_line.+turns.Goals as goal

pub are_only_defences-loop-e-preserved : goal.are_only_defences-loop-e-preserved
are_only_defences-loop-e-preserved g t c =
    let items = c.as_slice-e-items.result.now in
    let k = c.loop-e.e-index in
    each_more (IsOnlyDefence g.G.Game.rules c.args.distinct c.args.fastest c.args.remoteness c.args.known.now.position) items k (get_or items k 0) c.loop-e-test.true refl
    c.loop-e.invariant
    (c.is_only_defence.ensures.0 c.if-not-is_only_defence.false)

pub are_only_defences-returns : goal.are_only_defences-returns
are_only_defences-returns g t c =
    let items = c.as_slice-e-items.result.now in
    let all = take_all c.loop-e.e-index items c.loop-e-test.false ∙ c.as_slice-e-items.ensures.value ∙ c.moves.ensures in
    (λ x e has. c.loop-e.invariant e (subst (λ (xs : List ℕ). Contains xs e) (sym all) has), λ x. refl)

pub is_only_after-returns-then-achieves : goal.is_only_after-returns-then-achieves
is_only_after-returns-then-achieves g t c =
    let r = g.G.Game.rules in
    let n = c.args.remoteness in
    let A : Position → Type 0 = AfterDefence r (n - 2) (IsOnlyWin r c.args.distinct c.args.fastest (n - 2)) in
    let counts = subst (λ (a : Aim). Achieves r a c.args.known.now.position c.args.m) c.line_aim.ensures (c.achieves.ensures.0 c.if-achieves.true) in
    same_answer c.are_only_defences.result (A c.play.result.position) (IsOnlyAfter r c.args.distinct c.args.fastest n c.args.known.now.position c.args.m)
    (λ a k. subst A c.play.ensures a, λ f. subst A (sym c.play.ensures) (f counts)) c.are_only_defences.ensures

pub is_only_defence-returns-then-is_win_in : goal.is_only_defence-returns-then-is_win_in
is_only_defence-returns-then-is_win_in g t c =
    let r = g.G.Game.rules in
    let n = c.args.remoteness in
    let A : Position → Type 0 = IsOnlyWin r c.args.distinct c.args.fastest n in
    let both = c.is_win_in.ensures.0 c.if-is_win_in.true in
    let won = subst (λ (p : Position). HasValue r p Win n) c.play-after.ensures (win_is r c.play-after.result.position c.value.result n
    c.value.ensures.value both.0 both.1) in
    same_answer c.is_only_win.result (A c.play-after.result.position) (IsOnlyDefence r c.args.distinct c.args.fastest n c.args.known.now.position c.args.e)
    (λ a w. subst A c.play-after.ensures a, λ f. subst A (sym c.play-after.ensures) (f won)) c.is_only_win.ensures

pub is_only_defence-returns-else-is_win_in : goal.is_only_defence-returns-else-is_win_in
is_only_defence-returns-else-is_win_in g t c = (
  λ x w. (
      let here = is_win g.G.Game.rules c.play-after.result.position c.value.result c.args.remoteness c.value.ensures.value
      (subst (λ (p : Position). HasValue g.G.Game.rules p Win c.args.remoteness) (sym c.play-after.ensures) w) in
      let yes = c.is_win_in.ensures.1 here in
      let no = c.if-is_win_in.false in
      absurd (cc)),
  λ x. refl,
)

pub is_only_win-returns-then-not-is_only_after : goal.is_only_win-returns-then-not-is_only_after
is_only_win-returns-then-not-is_only_after g t c =
    let r = g.G.Game.rules in
    let items = c.as_slice-m-items.result.now in
    let m = get_or items c.loop-m.m-index 0 in
    let all = c.as_slice-m-items.ensures.value ∙ c.moves.ensures in
    let listed = subst (λ (xs : List ℕ). Contains xs m) all (Contains-get_or items c.loop-m.m-index 0 c.loop-m-test.true) in
    let more = c.if-remoteness-le-LAST_TURN.false in
    let before : 2 < c.args.remoteness = omega arith in (
      λ x. absurd (cc),
      λ x. (
          let one = c.is_only_after.ensures.1 (((turn_is r c.args.distinct c.args.fastest c.args.remoteness c.args.known.now.position before).0 x).1 m listed) in
          let f = c.if-not-is_only_after.true in
          absurd (cc)),
    )

pub is_only_win-loop-m-preserved : goal.is_only_win-loop-m-preserved
is_only_win-loop-m-preserved g t c =
    let items = c.as_slice-m-items.result.now in
    let k = c.loop-m.m-index in
    each_more (IsOnlyAfter g.G.Game.rules c.args.distinct c.args.fastest c.args.remoteness c.args.known.now.position) items k (get_or items k 0) c.loop-m-test.true
    refl c.loop-m.invariant
    (c.is_only_after.ensures.0 c.if-not-is_only_after.false)

pub is_only_win-returns : goal.is_only_win-returns
is_only_win-returns g t c =
    let r = g.G.Game.rules in
    let items = c.as_slice-m-items.result.now in
    let all = take_all c.loop-m.m-index items c.loop-m-test.false ∙ c.as_slice-m-items.ensures.value ∙ c.moves.ensures in
    let more = c.if-remoteness-le-LAST_TURN.false in
    let before : 2 < c.args.remoteness = omega arith in
    let one = subst (λ (a : Aim). HasOnly r c.args.distinct a c.args.known.now.position) c.line_aim.ensures (c.has_only.ensures.0 c.if-not-has_only.false) in (
      λ x. (turn_is r c.args.distinct c.args.fastest c.args.remoteness c.args.known.now.position before).1
          (one, λ m has. c.loop-m.invariant m (subst (λ (xs : List ℕ). Contains xs m) (sym all) has)),
      λ x. refl,
    )
