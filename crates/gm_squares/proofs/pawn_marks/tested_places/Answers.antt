use Rattle.std.specs.Prelude.{◌<◌, ◌^◌}
use Rattle.gm_pieces.specs.Common.{ℕ, ltb-true, sym, ◌∙◌, subst, arith, and_left}
use Rattle.gm_squares.specs.laws.PawnMarks.{passes, tested_within}
use Rattle.gm_squares.specs.laws.TestedPlaces.{AreMarkedBut, one_marked, none_more, one_fewer, all_marked}
use Rattle.gm_squares.proofs.pawn_marks.tested_places.Goals.{then-passes_at, else-passes_at}
use Rattle.gm_squares.proofs.pawn_marks.tested_places.Goals as goal

pub loop-left-smaller : goal.loop-left-smaller
loop-left-smaller c =
    one_fewer (passes c.args.tier c.args.board) c.args.run c.loop-left.left c.loop-left.marks c.loop-left-test.true (omega (arith, c.loop-left.auto.left-fits))
    c.loop-left.invariant.marked

pub loop-left-preserved : goal.loop-left-preserved
loop-left-preserved c =
    let p = passes c.args.tier c.args.board in
    let r = c.args.run in
    let left = c.loop-left.left in
    let marks = c.loop-left.marks in
    let some = c.loop-left-test.true in
    let fits : left < 2 ^ 64 = omega (arith, c.loop-left.auto.left-fits) in
    let h = c.loop-left.invariant.marked in
    elim c.if-passes_at.branch [
      | then-passes_at w ↦ (
          let e = sym c.passes_at.ensures ∙ w.if-passes_at.true in
          record {
            within = subst (λ (m : ℕ). m < 2 ^ r.count) (sym w.marks-is)
                (tested_within r.count _ marks c.loop-left.invariant.within c.requires.few (ltb-true _ _ (and_left _ _ e)));
            marked = subst (AreMarkedBut p r _) (sym w.marks-is) (one_marked p r left marks some fits h e);
          })
      | else-passes_at w ↦ record {
        within = subst (λ (m : ℕ). m < 2 ^ r.count) (sym w.marks-is) c.loop-left.invariant.within;
        marked = subst (AreMarkedBut p r _) (sym w.marks-is) (none_more p r left marks some fits h (sym c.passes_at.ensures ∙ w.if-passes_at.false));
      }
    ]

pub returns-clause-value : goal.returns-clause-value
returns-clause-value c =
    all_marked (passes c.args.tier c.args.board) c.args.run c.loop-left.left c.loop-left.marks c.loop-left-test.false c.requires.few
    c.loop-left.invariant.within c.loop-left.invariant.marked
