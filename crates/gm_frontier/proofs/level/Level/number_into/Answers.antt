use Rattle.gm_frontier.proofs.Lower.{ℕ, List, ◌≡◌, ap, ◌∙◌, inl, arith, length, subst, NoteData, LevelData, pairs_of}
use Rattle.gm_frontier.specs.Levels.{IsWholeLevel}
use Rattle.std.proofs.lemmas.Iterator.Consumers.{count_from_yields_List, YieldsList-from_first}
use Rattle.gm_frontier.proofs.CountLemmas.{notes_few}
use Rattle.gm_frontier.proofs.PairLemmas.{positions_once, canonical_notes}
use Rattle.gm_frontier.proofs.RowLemmas.{stretch_all}
use Rattle.gm_frontier.proofs.level.Level.number_into.Goals as goal

pub count-requires-clause-fits : goal.count-requires-clause-fits
count-requires-clause-fits g c =
    let r = g.G.Game.rules in
    let laws = g.met.G.Game.lawful in
    let l = c.args.self.now in
    let whole = subst (λ (x : LevelData). IsWholeLevel r x c.self.inside.len) c.self.view_is c.self.invariant in
    let all = stretch_all l.notes c.self.inside.len whole.count in
    let pairs : length c.of.result ≡ length (pairs_of r l.place.tier c.args.lo c.args.hi l.notes) =
    ap length (c.of.ensures ∙ ap (pairs_of r l.place.tier c.args.lo c.args.hi) all) in
    let few = notes_few r laws l.place.tier c.args.lo c.args.hi l.notes (positions_once r laws l.place l.notes whole.level)
    (canonical_notes r laws l.place l.notes whole.level) in
    let small = whole.small in
    inl (omega arith)

pub returns : goal.returns
returns g c =
    let r = g.G.Game.rules in
    let l = c.args.self.now in
    let count = subst (λ (x : LevelData). c.self.inside.len ≡ length x.notes) c.self.view_is c.self.invariant.count in
    let pairs = c.of.ensures ∙ ap (pairs_of r l.place.tier c.args.lo c.args.hi) (stretch_all l.notes c.self.inside.len count) in
    count_from_yields_List c.of.result c.count.result c.count.ensures.ran
    (YieldsList-from_first (λ (x : NoteData × ℕ). x) (λ (xs : List (NoteData × ℕ)). xs) (pairs_of r l.place.tier c.args.lo c.args.hi l.notes) pairs)
