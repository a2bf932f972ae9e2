use Rattle.gm_tierdb.proofs.Lower.{◌≡◌, ◌++◌, ◌∷◌, [], arith, ap, ◌∙◌, sym, take, to_le_bytes, record_width, width, IsStorable}
use Rattle.std.proofs.lemmas.List.Elements.{All-push}
use Rattle.gm_table.proofs.CodeLemmas.{none_here}
use Rattle.std.proofs.lemmas.List.{length-append}
use Rattle.gm_tierdb.proofs.RecordLemmas.{grown, one_less}
use Rattle.gm_tierdb.proofs.records.without_memory.Goals as goal

pub loop-index-preserved : goal.loop-index-preserved
loop-index-preserved c =
    let v = c.args.version in
    let (front, are, fit, len, left) = c.loop-index.invariant in
    let found = c.in-Some._found in
    let rest = c.loop-index.rest.now in
    let one = c.split_at.result.0.now in
    let more = c.split_at.result.1.now in
    let split : rest ≡ one ++ more = c.split_at.ensures.by_index.0 in
    let (storable, number) = c.in-Some.ensures.some in (
      front ++ found ∷ [],
      grown v c.args.bytes.now rest one more front found are split (ap (to_le_bytes (record_width v)) number ∙ c.number_at.ensures.bytes),
      All-push (IsStorable v) front found fit storable,
      omega (arith, len, length-append front (found ∷ [])),
      one_less v c.loop-index.index c.args.size rest more c.loop-index-test.true left (omega (arith, c.split_at.ensures.back_len, c.record_len.ensures.value)),
    )

pub returns-in-None-clause-bad : goal.returns-in-None-clause-bad
returns-in-None-clause-bad c =
    let v = c.args.version in
    let (front, are, fit, len, left) = c.loop-index.invariant in
    let first : take (width v) c.loop-index.rest.now ≡ c.split_at.result.0.now =
    ap (λ n. take n c.loop-index.rest.now) (sym c.record_len.ensures.value) ∙ sym c.split_at.ensures.front in
    record {
      front = front;
      rest = c.loop-index.rest.now;
      storable = fit;
      count = len;
      within = c.loop-index-test.true;
      split = are;
      bad = λ o ok e. none_here v c.number_at.result c.split_at.result.0.now c.number_at.ensures.fits c.number_at.ensures.bytes c.in-None.ensures.none
          o ok (sym first ∙ e);
    }
