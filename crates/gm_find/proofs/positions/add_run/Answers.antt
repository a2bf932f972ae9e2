use Rattle.gm_find.proofs.Lower.{◌<◌, ◌∷◌, [], ℕ, List, map, take, length, get_or, ap, sym, subst, arith, ◌∙◌, is_some, take_more, take_all, Position, at, Adds, IsMatch}
use Rattle.std.proofs.lemmas.List.{map-append, take-map}
use Rattle.std.proofs.Common.{IsSome}
use Rattle.gm_play.proofs.Held.{held_own}
use Rattle.gm_find.proofs.Passed.{copied_some}
use Rattle.gm_find.proofs.ListLemmas.{adds_more, adds_full, adds_none, adds_one}
use Rattle.gm_find.proofs.positions.add_run.Goals.{then-is_sought+in_ok-push, else-is_sought}
use Rattle.gm_find.proofs.positions.add_run.Goals as goal

pub unwrap-table-requires : goal.unwrap-table-requires
unwrap-table-requires g c =
    copied_some c.table.result
    (subst IsSome (sym c.table.ensures.value) (held_own g.G.Game.rules c.args.search.now.tables.now c.args.tier c.requires))

pub loop-i-preserved : goal.loop-i-preserved
loop-i-preserved g c =
    let P : Position → Type 0 = IsMatch g.G.Game.rules c.args.search.now.sought (is_some c.args.search.now.reached) in
    let f : ℕ → Position = at c.args.tier in
    let limit = c.args.search.now.limit in
    let old = c.args.found.now.items in
    let cur = c.loop-i.found.items in
    let new = c.if-is_sought.found.items in
    let run = c.args.run.now in
    let k = c.loop-i.i-index in
    let i = get_or run k 0 in
    let p = f c.from-index.result in
    let below : length cur < limit = grind (arith, c.len.ensures, c.if-search-len.false) in
    let one : Adds P limit (p ∷ []) cur new = elim c.if-is_sought.branch [
      | then-is_sought+in_ok-push w ↦
          rw w.found-is (adds_one P limit cur w.push.new.self.items p below (c.is_sought.ensures.0 w.if-is_sought.true) w.in_ok-push.ensures.items)
      | else-is_sought w ↦
          rw w.found-is (adds_none P limit cur p (λ m. let t = c.is_sought.ensures.1 m in let f = w.if-is_sought.false in cc))
    ] in
    let here = subst (λ (j : ℕ). Adds P limit (f j ∷ []) cur new) c.from-index.ensures one in
    subst (λ (xs : List Position). Adds P limit xs old new)
    (sym (ap (map f) (take_more run k 0 c.loop-i-test.true) ∙ map-append f (take k run) (i ∷ [])))
    (adds_more P limit old cur new (map f (take k run)) (f i ∷ []) c.loop-i.invariant here)

pub returns : goal.returns
returns g c =
    subst (λ (run : List ℕ). Adds (IsMatch g.G.Game.rules c.args.search.now.sought (is_some c.args.search.now.reached)) c.args.search.now.limit
    (map (at c.args.tier) run) c.args.found.now.items c.loop-i.found.items) (take_all c.loop-i.i-index c.args.run.now c.loop-i-test.false) c.loop-i.invariant

pub returns-then-search-len : goal.returns-then-search-len
returns-then-search-len g c =
    let P : Position → Type 0 = IsMatch g.G.Game.rules c.args.search.now.sought (is_some c.args.search.now.reached) in
    let cur = c.loop-i.found.items in
    let k = c.loop-i.i-index in
    let full = c.if-search-len.true in
    adds_full P c.args.search.now.limit c.args.found.now.items cur k (map (at c.args.tier) c.args.run.now)
    (subst (λ (xs : List Position). Adds P c.args.search.now.limit xs c.args.found.now.items cur) (sym (take-map (at c.args.tier) k c.args.run.now))
    c.loop-i.invariant) (omega arith)
