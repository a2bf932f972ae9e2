use Rattle.gm_play.proofs.Lower.{◌≡◌, None, sym, subst, IsBestMove, rules}
use Rattle.std.specs.Option.{option_map}
use Rattle.gm_play.proofs.Wanted.{best_is, children_known, none_if}
use Rattle.gm_play.proofs.best_moves.best_of.Goals as goal

pub returns : goal.returns
returns g c =
    let r = g.G.Game.rules in
    let laws = g.met.G.Game.lawful in
    let p = c.args.p in
    let solved = c.unwrap-solved.result in
    let open_ : r.primitive p ≡ None = none_if c.primitive.result (r.primitive p) c.primitive.ensures c.if-is_some.ensures in
    let is_true = rw c.unwrap-solved.ensures at c.get.ensures.is_true in
    let e : c.map.result ≡ option_map (λ x. x.number) c.choose.result = search rules in
    subst (IsBestMove r p) (sym e)
    (best_is r laws p c.requires.legal open_ (children_known r laws c.args.tables.now c.get.ensures.tables p c.requires.legal c.requires.own
    c.requires.children) solved.value solved.remoteness is_true c.choose.result c.choose.ensures)
