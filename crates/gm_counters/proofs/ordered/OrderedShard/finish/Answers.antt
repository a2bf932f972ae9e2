use Rattle.gm_counters.proofs.Lower.{◌≡◌, ◌+◌, ◌++◌, ℕ, List, Option, length, sym, ap, subst, ◌∙◌, arith, Phase, Ties, Solved, IsLastLevel, AreFinal}
use Rattle.std.proofs.lemmas.List.{append_assoc}
use Rattle.gm_game.specs.declared.position.Place.{Place}
use Rattle.std.proofs.Common.{length-append}
use Rattle.gm_counters.proofs.FinishLemmas.{final_append, part_true}
use Rattle.gm_counters.proofs.ordered.OrderedShard.finish.Goals as goal

pub loop-index-preserved : goal.loop-index-preserved
loop-index-preserved g c =
    let r = g.G.Game.rules in
    let s = c.args.self.now in
    let hi = c.range-index.ensures.hi in
    let (part, is, at', below, old) = c.loop-index.invariant in
    let (more, more_is, end, final) = c.in-Ok.ensures.ok in
    let long : length (part ++ more) ≡ length part + length more = length-append part more in (
      part ++ more,
      more_is ∙ ap (λ (l : List (Option Solved)). l ++ more) is ∙ append_assoc c.args.records.now part more,
      omega arith,
      (let next = c.in-Ok.ensures.next in omega arith),
      final_append r s s.lo part more old (subst (λ (i : ℕ). AreFinal r s i more) (sym at') final),
    )

pub returns-clause-ok : goal.returns-clause-ok
returns-clause-ok g c =
    let r = g.G.Game.rules in
    let s = c.args.self.now in
    let hi = c.range-index.ensures.hi in
    let (part, is, at', below, final) = c.loop-index.invariant in
    let many : length part ≡ length s.delivered = omega arith in
    let last : IsLastLevel r s.tier Ties s.level =
    subst (λ (ph : Phase). IsLastLevel r s.tier ph s.level) c.requires.ties
    (subst (λ (p : Place). IsLastLevel r p.tier p.phase p.level) c.requires.last c.place-place.ensures.last) in
    (part, is, many, part_true r g.met.G.Game.lawful s c.range-index.ensures.good c.requires.ties last part many final)
