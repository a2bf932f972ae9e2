use Rattle.gm_frontier.proofs.Lower.{ap, sym, subst, ◌∙◌, ◌+◌, ◌≡◌, ◌≤◌, ℕ, length, arith, min, pairs_of, piece_of}
use Rattle.std.proofs.Common.{◌*◌}
use Rattle.gm_frontier.proofs.PieceLemmas.{stretch_piece}
use Rattle.gm_frontier.proofs.RowLemmas.{whole_piece}
use Rattle.gm_frontier.proofs.level.Level.pairs.Goals as goal

pub returns-clause-value : goal.returns-clause-value
returns-clause-value g c =
    let notes = c.args.self.now.notes in
    let fits : length notes ≤ 18446744073709551615 = omega arith in
    let from : c.min-from.result ≡ min (min (c.args.piece * c.args.n) 18446744073709551615) (length notes) = cc in
    let to : c.min-to.result ≡ min (min (c.min-from.result + c.args.n) 18446744073709551615) (length notes) = cc in
    c.of.ensures ∙ ap (pairs_of g.G.Game.rules c.args.self.now.place.tier c.args.lo c.args.hi)
    (stretch_piece notes (c.args.piece * c.args.n) c.args.n 18446744073709551615 c.min-from.result c.min-to.result fits from to)

pub returns-clause-whole : goal.returns-clause-whole
returns-clause-whole g c =
    λ first long.
    let notes = c.args.self.now.notes in
    let fits : length notes ≤ 18446744073709551615 = omega arith in
    let from : c.min-from.result ≡ min (min (c.args.piece * c.args.n) 18446744073709551615) (length notes) = cc in
    let to : c.min-to.result ≡ min (min (c.min-from.result + c.args.n) 18446744073709551615) (length notes) = cc in
    let all : piece_of c.args.piece c.args.n notes ≡ notes =
    subst (λ (k : ℕ). piece_of k c.args.n notes ≡ notes) (sym first) (whole_piece c.args.n notes long) in
    c.of.ensures ∙ ap (pairs_of g.G.Game.rules c.args.self.now.place.tier c.args.lo c.args.hi)
    (stretch_piece notes (c.args.piece * c.args.n) c.args.n 18446744073709551615 c.min-from.result c.min-to.result fits from to ∙ all)
