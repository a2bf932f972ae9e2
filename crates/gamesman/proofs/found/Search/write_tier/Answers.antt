use Rattle.gamesman.proofs.Lower.{Bool, List, ◌∷◌, [], inl, inr, sym, subst, ◌∙◌, err_from_is_err_and, Found, IsFound, game_spec, AreLinesOf}
use Rattle.std.specs.List.{All}
use Rattle.gm_find.specs.Founds.{AreFound}
use Rattle.gamesman.specs.Finds.{IsFoundAt}
use Rattle.gamesman.proofs.Cut.{kept, cut_off}
use Rattle.gamesman.proofs.Finds.{held_one}
use Rattle.gamesman.proofs.found.Search.write_tier.Goals as goal

pub invariant_of-known : goal.invariant_of-known
invariant_of-known g c =
    let known = c.args.self.now.known in
    record { held = held_one g.G.Game.rules known.tables.now c.args.tier (known.held c.args.tier c.requires) }

pub returns-in_err-found : goal.returns-in_err-found
returns-in_err-found g c =
    let q = err_from_is_err_and c.from_residual.result c.from_residual.ensures.1 in
    rw (q.1, q.2) (record { told = kept _; fault = inr tt })

pub lines_of-requires : goal.lines_of-requires
lines_of-requires g c = subst (All (IsFound g.G.Game.rules)) (sym c.as_slice.ensures.value) c.in_ok-found.ensures.each

pub returns-in_err-lines : goal.returns-in_err-lines
returns-in_err-lines g c =
    let q = err_from_is_err_and c.from_residual-in_err-lines.result c.from_residual-in_err-lines.ensures.1 in
    rw (q.1, q.2) (record { told = kept _; fault = inr tt })

pub returns-in_err-put : goal.returns-in_err-put
returns-in_err-put g c =
    let spec = game_spec g.G.Game.rules g.G.Shown.shown g.G.Shown.move_shown g.G.Pictured.picture in
    let asked = c.args.self.now.asked in
    let q = err_from_is_err_and c.from_residual-in_err-put.result c.from_residual-in_err-put.ensures.1 in
    let is = subst (λ (ys : List Found). AreLinesOf spec c.args.form ys c.in_ok-lines.lines.items) c.as_slice.ensures.value c.in_ok-lines.ensures in
    let found = subst (λ (b : Bool). AreFound g.G.Game.rules asked.sought b c.args.left (c.args.tier ∷ []) c.in_ok-found.found.items) c.args.self.now.is_limited
    c.in_ok-found.ensures in
    let out : IsFoundAt spec asked c.args.form c.args.tier c.args.left c.in_ok-lines.lines.items = (c.in_ok-found.found.items, found, is) in
    let here = subst (IsFoundAt spec asked c.args.form c.args.tier c.args.left) (sym c.as_slice-2.ensures.value) out in
    rw (q.1, q.2) (record {
      told = cut_off (IsFoundAt spec asked c.args.form c.args.tier c.args.left) _ _ c.in_err-put.field-0.0 c.as_slice-2.result.now c.in_err-put.ensures.fault here
          c.in_err-put.ensures.err;
      fault = inl c.in_err-put.ensures.fault;
    })

pub returns : goal.returns
returns g c =
    let spec = game_spec g.G.Game.rules g.G.Shown.shown g.G.Shown.move_shown g.G.Pictured.picture in
    let asked = c.args.self.now.asked in
    let is = subst (λ (ys : List Found). AreLinesOf spec c.args.form ys c.in_ok-lines.lines.items) c.as_slice.ensures.value c.in_ok-lines.ensures in
    let found = subst (λ (b : Bool). AreFound g.G.Game.rules asked.sought b c.args.left (c.args.tier ∷ []) c.in_ok-found.found.items) c.args.self.now.is_limited
    c.in_ok-found.ensures in
    let here = subst (AreLinesOf spec c.args.form c.in_ok-found.found.items) (sym c.as_slice-2.ensures.value) is in
    record {
      told = (
        c.in_ok-found.found.items,
        found,
        c.len.ensures ∙ c.in_ok-found.found.ok.0,
        (c.as_slice-2.result.now, here, c.in_ok-put.ensures.ok),
      );
      fault = tt;
    }
