use Rattle.gm_analyse.proofs.Lower.{◌≡◌, ◌≤◌, ◌+◌, ℕ, None, vec_len, length, get_or, sym, ap, ◌∙◌, arith, REMOTENESS, at, number_in}
use Rattle.std.proofs.Common.{Vec}
use Rattle.std.specs.declared.alloc.Global.{Global}
use Rattle.gm_game.specs.Values.{IsTrueValue}
use Rattle.gm_table.specs.Tables.{record_at}
use Rattle.gm_analyse.specs.Numbers.{remoteness_in}
use Rattle.gm_analyse.proofs.Counting.{within_limit, numbers_with, numbers_without}
use Rattle.gm_analyse.proofs.counts.numbers_of.Goals.{in-Some+in_ok-count, in_default}
use Rattle.gm_analyse.proofs.counts.numbers_of.Goals as goal

pub loop-index-preserved : goal.loop-index-preserved
loop-index-preserved g c =
    let t = c.args.table.now in
    let v = c.args.value in
    let i = c.loop-index.index in
    let old = c.loop-index.numbers.items in
    let inv = c.loop-index.invariant in
    let here : c.remoteness_in.result ≡ remoteness_in v (record_at t.records i) = c.remoteness_in.ensures ∙ ap (remoteness_in v) c.at.ensures.value in
    elim c.match-remoteness_in.branch [
      | in-Some+in_ok-count w ↦ (
          let m = w.in-Some.remoteness in
          let n = inv.0 in
          let close = within_limit g.G.Game.rules REMOTENESS (IsTrueValue g.G.Game.rules) (at t.tier i) v c.at.result m c.at.ensures.is_true
          w.in-Some.ensures in
          let few : vec_len c.match-remoteness_in.numbers ≤ REMOTENESS + 1 =
          (let f = w.in_ok-count.ensures.few in let same = ap (λ (x : Vec ℕ Global). vec_len x) w.numbers-is in omega arith) in (
            few,
            λ n. ap (λ (x : Vec ℕ Global). get_or x.items n 0) w.numbers-is ∙ numbers_with t.records v i m old w.count.new.numbers.items
                (sym w.in-Some.is ∙ here) inv.1 w.in_ok-count.ensures.here w.in_ok-count.ensures.elsewhere n,
          ))
      | in_default w ↦ (
          let none : None ≡ remoteness_in v (record_at t.records i) = w.in_default.ensures ∙ ap (remoteness_in v) c.at.ensures.value in
          let few : vec_len c.match-remoteness_in.numbers ≤ REMOTENESS + 1 = (let same = ap (λ (x : Vec ℕ Global). vec_len x) w.numbers-is in let n = inv.0
          in omega arith) in (
            few,
            λ n. ap (λ (x : Vec ℕ Global). get_or x.items n 0) w.numbers-is ∙ numbers_without t.records v i old none inv.1 n,
          ))
    ]

pub returns-clause-numbers : goal.returns-clause-numbers
returns-clause-numbers g c n =
    let t = c.args.table.now in
    let last : c.loop-index.index ≡ length t.records = omega arith in
    c.loop-index.invariant.1 n ∙ ap (λ (i : ℕ). number_in t.records i c.args.value n) last
