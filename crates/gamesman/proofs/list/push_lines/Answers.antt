use Rattle.gamesman.proofs.Lower.{◌≡◌, ℕ, List, [], ◌∷◌, ◌++◌, ◌+◌, ◌<◌, length, drop, get_or, sym, ap, subst, ◌∙◌, append-nil, rules, true, false, err_from_is_err_and, on_ok_weaker, arith}
use Rattle.std.proofs.Common.{vec_len}
use Rattle.std.specs.Prelude.{◌==◌}
use Rattle.std.proofs.lemmas.Result.{IfErr-weaker}
use Rattle.std.proofs.lemmas.List.{drop_more, drop_all}
use Rattle.gm_json.specs.Asking.{lines_from, lines_of}
use Rattle.gm_json.proofs.Splitting.{lines_next, lines_end, some_of}
use Rattle.gamesman.specs.Lists.{IsListOf, IsNoLine}
use Rattle.gamesman.proofs.Filtering.{none_of}
use Rattle.gamesman.proofs.Sheeted.{line_ends, line_grows, line_stops, lines_empty}
use Rattle.gamesman.proofs.list.push_lines.Goals.{then-byte-eq10+in_ok-push_line, else-byte-eq10+in_ok-push_byte}
use Rattle.gamesman.proofs.list.push_lines.Goals as goal

pub loop-byte-init : goal.loop-byte-init
loop-byte-init c = ([], ap (λ (l : List ℕ). lines_from l c.args.bytes.now) (sym c.new-line.ensures.items), c.requires)

pub returns-in_err-push_line-clause-err : goal.returns-in_err-push_line-clause-err
returns-in_err-push_line-clause-err c =
    let all = c.args.all in
    let bytes = c.args.bytes.now in
    let k = c.loop-byte.byte-index in
    let b = get_or bytes k 0 in
    let rest = drop (k + 1) bytes in
    let line = c.loop-byte.line.items in
    let old = c.loop-byte.list in
    let (done, e, are) = c.loop-byte.invariant in
    let here : (b == 10) ≡ true = search rules in
    let fault = c.in_err-push_line.field-0.0 in
    let q = err_from_is_err_and c.from_residual.result c.from_residual.ensures.1 in
    rw (q.1, q.2) (line_stops all (lines_of bytes) done (lines_from [] rest) line old are
    (e ∙ ap (λ (bs : List ℕ). done ++ lines_from line bs) (drop_more bytes k 0 c.loop-byte-test.true)
    ∙ ap (λ (ls : List (List ℕ)). done ++ ls) (lines_next line b rest here)) fault
    (subst (λ (l : List ℕ). IsNoLine all l (length old.lines.items) fault) c.as_slice.ensures.value c.in_err-push_line.ensures.err))

pub loop-byte-preserved : goal.loop-byte-preserved
loop-byte-preserved c =
    let all = c.args.all in
    let bytes = c.args.bytes.now in
    let k = c.loop-byte.byte-index in
    let b = get_or bytes k 0 in
    let rest = drop (k + 1) bytes in
    let line = c.loop-byte.line.items in
    let old = c.loop-byte.list in
    let (done, e, are) = c.loop-byte.invariant in
    let next : lines_of bytes ≡ done ++ lines_from line (b ∷ rest) =
    e ∙ ap (λ (bs : List ℕ). done ++ lines_from line bs) (drop_more bytes k 0 c.loop-byte-test.true) in
    elim c.if-byte-eq10.branch [
      | then-byte-eq10+in_ok-push_line w ↦ (
          let here : (b == 10) ≡ true = search rules in
          let new = w.push_line.new.list in
          rw (w.list-is, w.line-is) (line_ends all bytes line rest b old done are next here new w.clear.new.self.items
          (subst (λ (l : List ℕ). (lines : List (List ℕ)) → IsListOf all lines old → IsListOf all (lines ++ l ∷ []) new) w.as_slice.ensures.value
          w.in_ok-push_line.ensures.ok) w.clear.ensures.items))
      | else-byte-eq10+in_ok-push_byte w ↦ (
          let other : (b == 10) ≡ false = search rules in
          rw (w.list-is, w.line-is) (line_grows all bytes line rest b old done are next other w.push_byte.new.line.items w.in_ok-push_byte.ensures))
    ]

pub returns-then-is_empty-clause-ok : goal.returns-then-is_empty-clause-ok
returns-then-is_empty-clause-ok c =
    let long : vec_len c.loop-byte.line ≡ length c.loop-byte.line.items = omega (arith, c.loop-byte.line.ok.0) in
    let all = c.args.all in
    let bytes = c.args.bytes.now in
    let line = c.loop-byte.line.items in
    let (done, e, are) = c.loop-byte.invariant in
    subst (λ (ls : List (List ℕ)). IsListOf all ls c.loop-byte.list)
    (sym (e ∙ ap (λ (bs : List ℕ). done ++ lines_from line bs) (drop_all c.loop-byte.byte-index bytes c.loop-byte-test.false)
    ∙ ap (λ (ls : List (List ℕ)). done ++ ls) (lines_empty line (none_of _ _ (c.is_empty.ensures ∙ ap (λ (n : ℕ). n == 0) long) c.if-is_empty.true)) ∙ append-nil done)) are

pub returns-clause-ok : goal.returns-clause-ok
returns-clause-ok c =
    let long : vec_len c.loop-byte.line ≡ length c.loop-byte.line.items = omega (arith, c.loop-byte.line.ok.0) in
    let all = c.args.all in
    let bytes = c.args.bytes.now in
    let line = c.loop-byte.line.items in
    let old = c.loop-byte.list in
    let new = c.push_line-2.new.list in
    let (done, e, are) = c.loop-byte.invariant in
    let some : 0 < length line = some_of _ _ (c.is_empty.ensures ∙ ap (λ (n : ℕ). n == 0) long) c.if-is_empty.false in
    let last = e ∙ ap (λ (bs : List ℕ). done ++ lines_from line bs) (drop_all c.loop-byte.byte-index bytes c.loop-byte-test.false)
    ∙ ap (λ (ls : List (List ℕ)). done ++ ls) (lines_end line some) in
    on_ok_weaker c.push_line-2.result
    (λ step. subst (λ (ls : List (List ℕ)). IsListOf all ls new) (sym last)
    (subst (λ (l : List ℕ). (lines : List (List ℕ)) → IsListOf all lines old → IsListOf all (lines ++ l ∷ []) new) c.as_slice-2.ensures.value step done are))
    c.push_line-2.ensures.ok

pub returns-clause-err : goal.returns-clause-err
returns-clause-err c =
    let long : vec_len c.loop-byte.line ≡ length c.loop-byte.line.items = omega (arith, c.loop-byte.line.ok.0) in
    let all = c.args.all in
    let bytes = c.args.bytes.now in
    let line = c.loop-byte.line.items in
    let old = c.loop-byte.list in
    let (done, e, are) = c.loop-byte.invariant in
    let some : 0 < length line = some_of _ _ (c.is_empty.ensures ∙ ap (λ (n : ℕ). n == 0) long) c.if-is_empty.false in
    let last = e ∙ ap (λ (bs : List ℕ). done ++ lines_from line bs) (drop_all c.loop-byte.byte-index bytes c.loop-byte-test.false)
    ∙ ap (λ (ls : List (List ℕ)). done ++ ls) (lines_end line some) in
    IfErr-weaker c.push_line-2.result _ _
    (λ fault is. line_stops all (lines_of bytes) done [] line old are last fault
    (subst (λ (l : List ℕ). IsNoLine all l (length old.lines.items) fault) c.as_slice-2.ensures.value is)) c.push_line-2.ensures.err
