use Rattle.gm_tierdb.proofs.Lower.{◌≡◌, ◌≤◌, length, subst, ◌++◌, ◌∷◌, [], arith, ap, ◌∙◌, sym, take, to_le_bytes, record_width, width, IsStorable}
use Rattle.std.proofs.lemmas.List.Elements.{All-push}
use Rattle.gm_table.proofs.CodeLemmas.{none_here}
use Rattle.std.proofs.lemmas.List.{length-append}
use Rattle.gm_tierdb.proofs.RecordLemmas.{all_read, grown, none_read, one_less, room}
use Rattle.gm_tierdb.proofs.records.read_records.Goals as goal

pub loop-index-init : goal.loop-index-init
loop-index-init c = none_read c.args.version c.args.bytes.now c.in-Ok.records c.args.size c.in-Ok.ensures c.requires

pub returns-clause-found : goal.returns-clause-found
returns-clause-found c =
    all_read c.args.version c.args.bytes.now c.loop-index.rest.now c.loop-index.records c.loop-index.index c.args.size c.loop-index.invariant
    c.loop-index.auto.index-end c.loop-index-test.false

pub split_at-requires : goal.split_at-requires
split_at-requires c =
    let left = c.loop-index.invariant.3 in
    subst (λ n. n ≤ length c.loop-index.rest.now) (sym c.record_len.ensures.value)
    (room c.args.version c.loop-index.index c.args.size c.loop-index.rest.now c.loop-index-test.true left)

pub returns-in-None-clause-bad : goal.returns-in-None-clause-bad
returns-in-None-clause-bad c =
    let v = c.args.version in
    let (are, fit, len, left) = c.loop-index.invariant in
    let first : take (width v) c.loop-index.rest.now ≡ c.split_at.result.0.now =
    ap (λ n. take n c.loop-index.rest.now) (sym c.record_len.ensures.value) ∙ sym c.split_at.ensures.front in
    record {
      front = c.loop-index.records;
      rest = c.loop-index.rest.now;
      storable = fit;
      count = len;
      within = c.loop-index-test.true;
      split = are;
      bad = λ o ok e. none_here v c.number_at.result c.split_at.result.0.now c.number_at.ensures.fits c.number_at.ensures.bytes c.in-None.ensures.none
          o ok (sym first ∙ e);
    }

pub loop-index-preserved : goal.loop-index-preserved
loop-index-preserved c =
    let v = c.args.version in
    let (are, fit, len, left) = c.loop-index.invariant in
    let front = c.loop-index.records in
    let found = c.in-Some.found in
    let rest = c.loop-index.rest.now in
    let one = c.split_at.result.0.now in
    let more = c.split_at.result.1.now in
    let split : rest ≡ one ++ more = c.split_at.ensures.by_index.0 in
    let (storable, number) = c.in-Some.ensures.some in
    let items : c.push.new.self ≡ front ++ found ∷ [] = c.in-Ok-push.ensures.ok in
    rw items (
      grown v c.args.bytes.now rest one more front found are split (ap (to_le_bytes (record_width v)) number ∙ c.number_at.ensures.bytes),
      All-push (IsStorable v) front found fit storable,
      omega (arith, len, length-append front (found ∷ [])),
      one_less v c.loop-index.index c.args.size rest more c.loop-index-test.true left (omega (arith, c.split_at.ensures.back_len, c.record_len.ensures.value)),
    )
