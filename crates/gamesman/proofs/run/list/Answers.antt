use Rattle.gamesman.proofs.Lower.{List, ℕ, false, subst, err_from_is_err_and, Appends, AppendsPart, IsPut}
use Rattle.gamesman.specs.Listing.{listed_names, listed_later}
use Rattle.gamesman.proofs.Fronts.{put_after, part_listed}
use Rattle.gamesman.proofs.run.list.Goals as goal

pub returns-in_err-put : goal.returns-in_err-put
returns-in_err-put g c =
    let start = g.O.Write.contents c.args.output.now in
    let mid = g.O.Write.contents c.put.new.output in
    let q = err_from_is_err_and c.from_residual.result c.from_residual.ensures.1 in
    rw (q.1, q.2) (
      c.in_err-put.ensures.fault,
      part_listed c.args.all start mid (subst (AppendsPart start mid) c.as_bytes.ensures.value c.in_err-put.ensures.err),
    )

pub returns-then-all : goal.returns-then-all
returns-then-all g c =
    let start = g.O.Write.contents c.args.output.now in
    let mid = g.O.Write.contents c.put.new.output in
    let end = g.O.Write.contents c.put_all.new.output in
    let first = subst (Appends start mid) c.as_bytes.ensures.value c.in_ok-put.ensures.ok in
    let later = subst (λ (text : List ℕ). IsPut text mid end c.put_all.result) c.as_bytes-then-all.ensures.value c.put_all.ensures in
    rw c.if-all.true (put_after start mid end (listed_names false) listed_later c.put_all.result first later)
