use Rattle.gm_find.proofs.Lower.{◌≡◌, ◌+◌, ◌<◌, ◌∷◌, [], List, map, length, ap, ◌∙◌, sym, subst, refl, arith, range_with_len, is_some, Position, at, Adds, IsMatch, positions_in}
use Rattle.std.proofs.Common.{◌≤◌, IsSome, Some}
use Rattle.std.specs.Option.{option_copied}
use Rattle.std.proofs.lemmas.List.{append-nil}
use Rattle.std.proofs.lemmas.List.FromFn.{map-range_with_len_more, take-map-range_with_len}
use Rattle.gm_table.specs.Tables.{table_of}
use Rattle.gm_play.proofs.Held.{held_own}
use Rattle.gm_find.proofs.ListLemmas.{adds_more, adds_full, adds_none, adds_one}
use Rattle.gm_find.proofs.Passed.{copied_some, holes_add}
use Rattle.gm_find.proofs.positions.add_all.Goals.{then-is_sought+in_ok-push, else-is_sought}
use Rattle.gm_find.proofs.positions.add_all.Goals as goal

pub unwrap-table-requires : goal.unwrap-table-requires
unwrap-table-requires g c =
    copied_some c.table.result
    (subst IsSome (sym c.table.ensures.value) (held_own g.G.Game.rules c.args.search.now.tables.now c.args.tier c.requires))

pub loop-index-init : goal.loop-index-init
loop-index-init g c =
    let r = g.G.Game.rules in
    let t = c.unwrap-table.result.now in
    let found : table_of c.args.search.now.tables.now c.args.tier ≡ Some t = sym c.table.ensures.value ∙ ap option_copied c.unwrap-table.ensures in
    let is = c.table.ensures.tables c.args.tier t found in
    let whole : length t.records ≡ r.tier_size c.args.tier = is.1.is_true.whole ∙ ap r.tier_size is.0 in
    let to = c.skip_holes-index in (
      (let high = to.ensures.high in omega arith),
      holes_add r g.met.G.Game.lawful t c.args.search.now.sought (is_some c.args.search.now.reached) c.args.search.now.limit c.args.tier 0 to.result
          c.args.found.now.items c.args.found.now.items is.0 is.1 (omega arith) to.ensures.holes ([], sym (append-nil c.args.found.now.items), refl),
    )

pub loop-index-preserved : goal.loop-index-preserved
loop-index-preserved g c =
    let r = g.G.Game.rules in
    let P : Position → Type 0 = IsMatch r c.args.search.now.sought (is_some c.args.search.now.reached) in
    let limit = c.args.search.now.limit in
    let tier = c.args.tier in
    let old = c.args.found.now.items in
    let cur = c.loop-index.found.items in
    let new = c.if-is_sought.found.items in
    let k = c.loop-index.index in
    let p = at tier k in
    let t = c.unwrap-table.result.now in
    let found : table_of c.args.search.now.tables.now tier ≡ Some t = sym c.table.ensures.value ∙ ap option_copied c.unwrap-table.ensures in
    let is = c.table.ensures.tables tier t found in
    let whole : length t.records ≡ r.tier_size tier = is.1.is_true.whole ∙ ap r.tier_size is.0 in
    let to = c.skip_holes-index-in-loop-index in
    let test = c.loop-index-test.true in
    let size = c.size.ensures.value in
    let inside : k + 1 ≤ length t.records = omega arith in
    let below : length cur < limit = grind (arith, c.len.ensures, c.if-search-len.false) in
    let here : Adds P limit (p ∷ []) cur new = elim c.if-is_sought.branch [
      | then-is_sought+in_ok-push w ↦
          rw w.found-is (adds_one P limit cur w.push.new.self.items p below (c.is_sought.ensures.0 w.if-is_sought.true) w.in_ok-push.ensures.items)
      | else-is_sought w ↦
          rw w.found-is (adds_none P limit cur p (λ m. let t = c.is_sought.ensures.1 m in let f = w.if-is_sought.false in cc))
    ] in
    let next : Adds P limit (map (at tier) (range_with_len 0 (k + 1))) old new =
    subst (λ (xs : List Position). Adds P limit xs old new) (sym (map-range_with_len_more (at tier) 0 k k (omega arith)))
    (adds_more P limit old cur new (map (at tier) (range_with_len 0 k)) (p ∷ []) c.loop-index.invariant.1 here) in (
      (let high = to.ensures.high in omega arith),
      holes_add r g.met.G.Game.lawful t c.args.search.now.sought (is_some c.args.search.now.reached) limit tier (k + 1) to.result old new is.0 is.1
          (to.ensures.low inside) to.ensures.holes next,
    )

pub returns : goal.returns
returns g c =
    let r = g.G.Game.rules in
    let tier = c.args.tier in
    let t = c.unwrap-table.result.now in
    let found : table_of c.args.search.now.tables.now tier ≡ Some t = sym c.table.ensures.value ∙ ap option_copied c.unwrap-table.ensures in
    let is = c.table.ensures.tables tier t found in
    let whole : length t.records ≡ r.tier_size tier = is.1.is_true.whole ∙ ap r.tier_size is.0 in
    let test = c.loop-index-test.false in
    let size = c.size.ensures.value in
    let inside = c.loop-index.invariant.0 in
    let all : c.loop-index.index ≡ r.tier_size tier = omega arith in
    subst (λ n. Adds (IsMatch r c.args.search.now.sought (is_some c.args.search.now.reached)) c.args.search.now.limit (map (at tier) (range_with_len 0 n))
    c.args.found.now.items c.loop-index.found.items) all c.loop-index.invariant.1

pub returns-then-search-len : goal.returns-then-search-len
returns-then-search-len g c =
    let P : Position → Type 0 = IsMatch g.G.Game.rules c.args.search.now.sought (is_some c.args.search.now.reached) in
    let old = c.args.found.now.items in
    let cur = c.loop-index.found.items in
    let k = c.loop-index.index in
    let inside = c.loop-index.invariant.0 in
    let full = c.if-search-len.true in
    let cut = take-map-range_with_len (at c.args.tier) 0 (g.G.Game.rules.tier_size c.args.tier) k inside in
    adds_full P c.args.search.now.limit old cur k (positions_in g.G.Game.rules c.args.tier)
    (subst (λ (xs : List Position). Adds P c.args.search.now.limit xs old cur) (sym cut) c.loop-index.invariant.1) (omega arith)
