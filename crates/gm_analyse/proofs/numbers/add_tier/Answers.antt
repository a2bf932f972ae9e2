use Rattle.gm_analyse.proofs.Lower.{◌≡◌, ◌+◌, ◌++◌, ◌∷◌, [], List, ℕ, map, sym, ap, ◌∙◌, subst, arith, append_assoc, is_some, Position, at}
use Rattle.std.specs.List.{range_with_len}
use Rattle.std.proofs.lemmas.List.FromFn.{map-range_with_len_more}
use Rattle.gm_analyse.specs.Totals.{AreAllNumbers}
use Rattle.gm_analyse.proofs.numbers.add_tier.Goals as goal

pub loop-index-preserved : goal.loop-index-preserved
loop-index-preserved g c =
    let r = g.G.Game.rules in
    let reached = is_some c.args.reached in
    let f : ℕ → Position = at c.args.tier in
    let k = c.loop-index.index in
    let new = c.add_position.new.numbers in (
      c.in_ok-add_position.ensures.short,
      λ seen h. (
          let done : List Position = map f (range_with_len 0 k) in
          let more : (seen ++ done) ++ f k ∷ [] ≡ seen ++ map f (range_with_len 0 (k + 1)) = append_assoc seen done (f k ∷ []) ∙ ap
          (λ (l : List Position). seen ++ l) (sym (map-range_with_len_more f 0 k k (omega arith))) in
          subst (λ (l : List Position). AreAllNumbers r c.args.among reached l new) more
          (c.in_ok-add_position.ensures.numbers (seen ++ done) (c.loop-index.invariant.1 seen h))),
    )

pub returns-clause-numbers : goal.returns-clause-numbers
returns-clause-numbers g c =
    let r = g.G.Game.rules in
    let last : c.loop-index.index ≡ r.tier_size c.args.tier = (let e = c.tier_size-size.ensures in omega arith) in
    λ seen h. subst (λ (n : ℕ). AreAllNumbers r c.args.among (is_some c.args.reached) (seen ++ map (at c.args.tier) (range_with_len 0 n))
    c.loop-index.numbers) last (c.loop-index.invariant.1 seen h)
