use Rattle.std.proofs.Common.{ℕ, ◌+◌, ◌<◌, sym, ap, ◌∙◌, subst, arith}
use Rattle.gm_stacks.specs.Heights.{stackings, unrank_heights}
use Rattle.gm_stacks.specs.laws.HeightRanks.{stackings_few, more_below, more_is}
use Rattle.gm_stacks.proofs.ranked.Ranked.with_first.Goals as goal

pub overflow_add-result-2 : goal.overflow_add-result-2
overflow_add-result-2 c =
    let a = stackings_few c.args.self.rows c.args.self.columns c.args.self.pieces c.args.self.low c.args.self.narrow in
    let b = c.args.self.below in
    let s = c.with_less.ensures.small in
    omega (arith, a, b, s)

pub invariant_of-result : goal.invariant_of-result
invariant_of-result c = record {
  low = c.args.self.low;
  narrow = (let r = c.requires.room in omega (arith, r));
  few = c.requires.few;
  below =
      subst (λ (v : ℕ). v + c.args.self.rank < stackings c.args.self.rows (c.args.self.columns + 1) (c.args.self.pieces + c.args.height))
      (sym c.with_less.ensures.value)
      (more_below c.args.self.rows c.args.self.columns c.args.self.pieces c.args.self.rank c.args.height c.args.self.below c.requires.height);
}

pub returns-clause-list : goal.returns-clause-list
returns-clause-list c =
    ap (λ (v : ℕ). unrank_heights c.args.self.rows (c.args.self.columns + 1) (c.args.self.pieces + c.args.height) (v + c.args.self.rank)) c.with_less.ensures.value
    ∙ more_is c.args.self.rows c.args.self.columns c.args.self.pieces c.args.self.rank c.args.height c.args.self.below c.requires.height
