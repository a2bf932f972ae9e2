use Rattle.std.proofs.Common.{rules}
use Rattle.gm_immediate.proofs.Lower.{◌≡◌, ℕ, [], ◌∷◌, ◌++◌, length, length-append, sym, ap, subst, arith, block_in, IsBlockFound}
use Rattle.gm_table.proofs.Dealt.{EachAt, one_at}
use Rattle.gm_immediate.proofs.one_pass.OnePass.settle_in_turn.Goals as goal

pub loop-place-preserved : goal.loop-place-preserved
loop-place-preserved g c =
    let r = g.G.Game.rules in
    let self = c.args.self.now in
    let old = c.loop-place.invariant in
    let before = c.loop-place.found.items in
    let pushed : c.push.new.self.items ≡ before ++ c.settle_and_report.result ∷ [] = c.in_ok-push.ensures.items in
    let more = ap length pushed in
    let sum = length-append before (c.settle_and_report.result ∷ []) in
    let long = old.long in
    record {
      long = omega arith;
      each = subst (EachAt (λ place x. IsBlockFound r self.tier (block_in self.dealing.rows place) x)) (sym pushed)
          (one_at _ before c.settle_and_report.result (subst (λ (k : ℕ). IsBlockFound r self.tier (block_in self.dealing.rows k) c.settle_and_report.result) (sym long)
          c.settle_and_report.ensures) old.each);
    }

pub returns : goal.returns
returns g c = record { many = search rules; each = c.loop-place.invariant.each }
