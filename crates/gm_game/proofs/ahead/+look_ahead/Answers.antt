use Rattle.gm_game.proofs.Lower.{◌≡◌, [], ◌∷◌, ◌++◌, ◌+◌, ◌-◌, ◌≤◌, List, Option, map, take, get_or, is_some, ◌&&◌, arith, sym, ap, true, Some, ℕ, ◌∙◌, subst, list_all, Solved, children, evaluated, lost_in, tied_in, least_of, all_won, lesser, greater}
use Rattle.std.proofs.Common.{IfSome}
use Rattle.std.proofs.lemmas.List.{take_all}
use Rattle.std.proofs.lemmas.List.Elements.{Contains-get_or}
use Rattle.std.specs.List.{Contains}
use Rattle.gm_game.proofs.Folding.{least_push, all_won_push, known_push, one_more, evaluated_small, fits_since, evaluated_open, when_known, when_unknown, evaluated_at_end}
use Rattle.gm_game.proofs.ahead.+look_ahead.Goals.{then-known, else-known}
use Rattle.gm_game.proofs.ahead.+look_ahead.Goals as goal

pub loop-m-preserved : goal.loop-m-preserved
loop-m-preserved g t c =
    let r = g.G.Game.rules in
    let n = c.args.n - 1 in
    let xs = c.as_slice-m-items.result.now in
    let i = c.loop-m.m-index in
    let os : List (Option Solved) = map (evaluated r n) (map (r.play c.args.p) (take i xs)) in
    let more = one_more (evaluated r n) (r.play c.args.p) xs i 0 c.loop-m-test.true in
    let played : c.play.result ≡ r.play c.args.p (get_or xs i 0) = cc in
    let child : c.look_ahead-child.result ≡ evaluated r n (r.play c.args.p (get_or xs i 0)) = c.look_ahead-child.ensures ∙ ap (evaluated r n) played in
    let grown : map (evaluated r n) (map (r.play c.args.p) (take (i + 1) xs)) ≡ os ++ c.look_ahead-child.result ∷ [] = more ∙ ap
    (λ (o : Option Solved). os ++ o ∷ []) (sym child) in
    let inv = c.loop-m.invariant in
    record {
      lost_so_far = c.lesser-lost.ensures ∙ ap (λ a. lesser a c.lost_in.result) inv.lost_so_far ∙ ap (lesser (least_of lost_in os)) c.lost_in.ensures ∙ sym
          (least_push lost_in os c.look_ahead-child.result) ∙ ap (least_of lost_in) (sym grown);
      won_so_far = c.greater-won.ensures ∙ ap (λ a. greater a c.won_in.result) inv.won_so_far ∙ ap (greater (all_won os)) c.won_in.ensures ∙ sym
          (all_won_push os c.look_ahead-child.result) ∙ ap all_won (sym grown);
      known_so_far = (let k : c.if-known.known ≡ (c.loop-m.known && is_some c.look_ahead-child.result) = elim c.if-known.branch [
        | then-known w ↦ when_known _ _ _ w.if-known.true (w.known-is ∙ w.is_some-known.ensures)
        | else-known w ↦ when_unknown _ _ _ w.if-known.false (cc)
      ] in
          k ∙ ap (λ a. a && is_some c.look_ahead-child.result) inv.known_so_far ∙ sym (known_push os c.look_ahead-child.result) ∙ ap (list_all is_some)
          (sym grown));
      tied_so_far = c.lesser-tied.ensures ∙ ap (λ a. lesser a c.tied_in.result) inv.tied_so_far ∙ ap (lesser (least_of tied_in os)) c.tied_in.ensures ∙ sym
          (least_push tied_in os c.look_ahead-child.result) ∙ ap (least_of tied_in) (sym grown);
      all_moves = inv.all_moves;
    }

pub choose-requires-clause-lost_fits : goal.choose-requires-clause-lost_fits
choose-requires-clause-lost_fits g t c =
    let r = g.G.Game.rules in
    let n = c.args.n - 1 in
    let laws = g.met.G.Game in
    let all = take_all c.loop-m.m-index c.as_slice-m-items.result.now c.loop-m-test.false ∙ c.loop-m.invariant.all_moves in
    let same : c.loop-m.lost ≡ least_of lost_in (map (evaluated r n) (children r c.args.p)) = c.loop-m.invariant.lost_so_far ∙ ap
    (λ xs. least_of lost_in (map (evaluated r n) (map (r.play c.args.p) xs))) all in
    let small = evaluated_small r laws.lawful n c.args.p c.requires in
    fits_since c.loop-m.lost n (subst (λ a. IfSome a (λ x. x ≤ n)) (sym same) small.0) (omega arith)

pub choose-requires-clause-won_fits : goal.choose-requires-clause-won_fits
choose-requires-clause-won_fits g t c =
    let r = g.G.Game.rules in
    let n = c.args.n - 1 in
    let laws = g.met.G.Game in
    let all = take_all c.loop-m.m-index c.as_slice-m-items.result.now c.loop-m-test.false ∙ c.loop-m.invariant.all_moves in
    let same : c.loop-m.won ≡ all_won (map (evaluated r n) (children r c.args.p)) = c.loop-m.invariant.won_so_far ∙ ap
    (λ xs. all_won (map (evaluated r n) (map (r.play c.args.p) xs))) all in
    let small = evaluated_small r laws.lawful n c.args.p c.requires in
    fits_since c.loop-m.won n (subst (λ a. IfSome a (λ x. x ≤ n)) (sym same) small.1) (omega arith)

pub choose-requires-clause-tied_fits : goal.choose-requires-clause-tied_fits
choose-requires-clause-tied_fits g t c =
    let r = g.G.Game.rules in
    let n = c.args.n - 1 in
    let laws = g.met.G.Game in
    let all = take_all c.loop-m.m-index c.as_slice-m-items.result.now c.loop-m-test.false ∙ c.loop-m.invariant.all_moves in
    let same : c.loop-m.tied ≡ least_of tied_in (map (evaluated r n) (children r c.args.p)) = c.loop-m.invariant.tied_so_far ∙ ap
    (λ xs. least_of tied_in (map (evaluated r n) (map (r.play c.args.p) xs))) all in
    let small = evaluated_small r laws.lawful n c.args.p c.requires in
    fits_since c.loop-m.tied n (subst (λ a. IfSome a (λ x. x ≤ n)) (sym same) small.2) (omega arith)

pub returns : goal.returns
returns g t c =
    let r = g.G.Game.rules in
    let n = c.args.n - 1 in
    let all = take_all c.loop-m.m-index c.as_slice-m-items.result.now c.loop-m-test.false in
    let e : c.args.n ≡ n + 1 = omega arith in
    let open_is = evaluated_open r n c.args.n c.args.p (sym c.primitive.ensures ∙ c.in_default.is) e in
    let os : List (Option Solved) = map (evaluated r n) (children r c.args.p) in
    let same : map (evaluated r n) (map (r.play c.args.p) (take c.loop-m.m-index c.as_slice-m-items.result.now)) ≡ os = cc in
    cc

pub returns-in-Some : goal.returns-in-Some
returns-in-Some g t c = ap Some c.of_end.ensures ∙ evaluated_at_end g.G.Game.rules c.args.n c.args.p c.in-Some.end (sym c.primitive.ensures ∙ c.in-Some.is)

pub look_ahead-child-requires : goal.look_ahead-child-requires
look_ahead-child-requires g t c κs within =
    let r = g.G.Game.rules in
    let xs = c.as_slice-m-items.result.now in
    let same : xs ≡ r.moves c.args.p = cc in
    let k : Contains (r.moves c.args.p) (get_or xs c.loop-m.m-index 0) = subst (λ (ys : List ℕ). Contains ys (get_or xs c.loop-m.m-index 0)) same
    (Contains-get_or xs c.loop-m.m-index 0 c.loop-m-test.true) in
    let q : c.play.result ≡ r.play c.args.p (get_or xs c.loop-m.m-index 0) = cc in
    let legal : r.is_legal c.play.result ≡ true = ap r.is_legal q ∙ g.met.G.Game.lawful.play_legal c.args.p (get_or xs c.loop-m.m-index 0) c.requires k in
    (omega arith, (within, legal))
