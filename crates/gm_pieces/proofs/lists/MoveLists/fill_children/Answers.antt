use Rattle.gm_pieces.proofs.Lower.{◌≤◌, ◌+◌, length, List, take, sym, subst, arith, Position}
use Rattle.std.proofs.Common.{get_or}
use Rattle.std.proofs.lemmas.List.{take_all, take_more}
use Rattle.gm_game.proofs.SetLemmas.{length_with_le}
use Rattle.gm_game.proofs.ChildrenSteps.{set_more}
use Rattle.gm_game.specs.Children.{IsSetOf}
use Rattle.gm_pieces.proofs.lists.MoveLists.fill_children.Goals as goal

pub loop-p-preserved : goal.loop-p-preserved
loop-p-preserved g c =
    let ps = c.as_slice-p-items.result.now in
    let i = c.loop-p.p-index in
    let p : Position = get_or ps i (record { tier = 0; index = 0 }) in
    let le : length c.insert_position.new.set.items ≤ length c.loop-p.set.items + 1 =
    subst (λ (l : List Position). length l ≤ length c.loop-p.set.items + 1) (sym c.insert_position.ensures) (length_with_le p c.loop-p.set.items) in
    record {
      members = set_more p (take i ps) (take (i + 1) ps) c.loop-p.set.items c.insert_position.new.set.items
          (take_more ps i (record { tier = 0; index = 0 }) c.loop-p-test.true) c.insert_position.ensures c.loop-p.invariant.members;
      few = omega (arith, le, c.loop-p.invariant.few);
    }

pub returns : goal.returns
returns g c =
    let ps = c.as_slice-p-items.result.now in
    let set = c.loop-p.set.items in
    let all : IsSetOf ps set = subst (λ (xs : List Position). IsSetOf xs set) (take_all c.loop-p.p-index ps c.loop-p-test.false) c.loop-p.invariant.members in
    let same = subst (λ (xs : List Position). IsSetOf xs set) c.as_slice-p-items.ensures.value all in
    record {
      ascending = same.ascending;
      exact = λ d. (λ k. (c.fill_results.ensures d).0 ((same.exact d).0 k), λ k. (same.exact d).1 ((c.fill_results.ensures d).1 k));
    }
