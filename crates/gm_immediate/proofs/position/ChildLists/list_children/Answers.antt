use Rattle.gm_immediate.proofs.Lower.{List, sym, subst, Contains, Position}
use Rattle.gm_immediate.proofs.position.ChildLists.list_children.Goals as goal

pub returns : goal.returns
returns g c =
    let same = c.list_once.ensures.same in
    let value = c.as_slice.ensures.value in
    record {
      exact = λ d. (
        λ h. (c.requires d).0 (subst (λ (ps : List Position). Contains ps d) value ((same d).0 h)),
        λ k. (same d).1 (subst (λ (ps : List Position). Contains ps d) (sym value) ((c.requires d).1 k)),
      );
      once = c.list_once.ensures.once;
    }
