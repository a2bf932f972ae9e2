use Rattle.gm_analyse.proofs.Lower.{◌≡◌, ◌+◌, ℕ, List, [], ◌∷◌, ◌++◌, get_or, sym, ap, ◌∙◌, arith, append-nil, Count, drop, drop_all, counted, drop_more}
use Rattle.std.proofs.Common.{Vec}
use Rattle.std.specs.declared.alloc.Global.{Global}
use Rattle.gm_analyse.proofs.CountLists.{one_counted}
use Rattle.gm_analyse.proofs.counts.push_counts.Goals.{then-number-gt0+in_ok-push, else-number-gt0}
use Rattle.gm_analyse.proofs.counts.push_counts.Goals as goal

pub loop-remoteness-preserved : goal.loop-remoteness-preserved
loop-remoteness-preserved c =
    let v = c.args.value in
    let ns = c.args.numbers.now in
    let k = c.loop-remoteness.remoteness in
    let n = get_or ns k 0 in
    let cs = c.loop-remoteness.counts.items in
    let before : cs ++ counted v k (n ∷ drop (k + 1) ns) ≡ c.args.counts.now.items ++ counted v 0 ns =
    ap (λ (l : List ℕ). cs ++ counted v k l) (sym (drop_more ns k 0 c.loop-remoteness-test.true)) ∙ c.loop-remoteness.invariant in
    elim c.if-number-gt0.branch [
      | then-number-gt0+in_ok-push w ↦ (
          let same : c.if-number-gt0.counts.items ≡ cs ++ (record { value = v; remoteness = k; number = n }) ∷ [] = ap (λ (x : Vec Count Global). x.items)
          w.counts-is ∙ w.in_ok-push.ensures.items in
          rw same (one_counted v k n (drop (k + 1) ns) cs w.if-number-gt0.true ∙ before))
      | else-number-gt0 w ↦ (
          let same : c.if-number-gt0.counts.items ≡ cs = ap (λ (x : Vec Count Global). x.items) w.counts-is in
          let zero : n ≡ 0 = (let z = w.if-number-gt0.false in omega arith) in
          rw same (ap (λ (m : ℕ). cs ++ counted v k (m ∷ drop (k + 1) ns)) (sym zero) ∙ before))
    ]

pub returns : goal.returns
returns c =
    let ns = c.args.numbers.now in
    let cs = c.loop-remoteness.counts.items in
    sym (append-nil cs) ∙ ap (λ (l : List ℕ). cs ++ counted c.args.value c.loop-remoteness.remoteness l)
    (sym (drop_all c.loop-remoteness.remoteness ns c.loop-remoteness-test.false)) ∙ c.loop-remoteness.invariant
