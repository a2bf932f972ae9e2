use Rattle.gamesman.proofs.Lower.{[], sym, subst, List, length, ◌≡◌, Some, ◌∙◌, ap, arith, refl, inl, inr}
use Rattle.std.proofs.Common.{vec_len}
use Rattle.std.specs.List.{slice_get}
use Rattle.gm_command.specs.declared.names.GameName.{GameName}
use Rattle.gamesman.proofs.Sheeted.{get_at}
use Rattle.gamesman.proofs.list.place_in.Goals as goal

pub returns-in-Some-clause-added : goal.returns-in-Some-clause-added
returns-in-Some-clause-added c = inl (
  refl,
  (c.in-Some.place, subst (λ (l : List GameName). slice_get l c.in-Some.place ≡ Some c.args.game) c.as_slice.ensures.value c.in-Some.ensures.here),
)

pub returns-clause-here : goal.returns-clause-here
returns-clause-here c =
    let games = c.args.games.now.items in
    let game = c.args.game in
    let long : vec_len c.args.games.now ≡ length games = omega (arith, c.args.games.now.ok.0) in
    ap (slice_get c.push.new.self.items) (c.len-place.ensures ∙ long)
    ∙ ap (λ (l : List GameName). slice_get l (length games)) c.in_ok-push.ensures.items ∙ get_at games [] game

pub returns-clause-added : goal.returns-clause-added
returns-clause-added c = inr (
  c.in_ok-push.ensures.items,
  λ k there. c.place_among.ensures.new c.in_default.is k
      (subst (λ (l : List GameName). slice_get l k ≡ Some c.args.game) (sym c.as_slice.ensures.value) there),
)
