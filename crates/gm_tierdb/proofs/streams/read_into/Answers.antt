use Rattle.gm_tierdb.proofs.Lower.{◌≡◌, ◌++◌, ◌∙◌, ap, take, arith, length-append}
use Rattle.std.proofs.lemmas.List.{length-take, take-append-le}
use Rattle.gm_tierdb.specs.declared.streams.TheConstants.{READ_LEN}
use Rattle.std.proofs.KnownBytes.{Consumes-trans}
use Rattle.gm_tierdb.proofs.StreamLemmas.{joined_small}
use Rattle.gm_tierdb.proofs.streams.read_into.Goals as goal

pub returns-in-Err-extend_from_slice-clause-err : goal.returns-in-Err-extend_from_slice-clause-err
returns-in-Err-extend_from_slice-clause-err g c =
    let before = c.loop-chunk.text.items in
    let given = take c.in-Ok.count c.read.new.buf in (
      before ++ given,
      Consumes-trans _ _ _ _ _ c.loop-chunk.invariant.1 c.in-Ok.ensures.bytes.0,
      joined_small before given READ_LEN (omega (arith, c.in-Ok.ensures.bound, c.read.auto.buf, length-take c.min-room.result c.loop-chunk.chunk)),
    )

pub returns-in-Err-extend_from_slice-clause-memory : goal.returns-in-Err-extend_from_slice-clause-memory
returns-in-Err-extend_from_slice-clause-memory g c _ =
    let before = c.loop-chunk.text.items in
    let given = take c.in-Ok.count c.read.new.buf in
    let both = length-append before given in
    let some = length-take c.in-Ok.count c.read.new.buf in
    let room = length-take c.min-room.result c.loop-chunk.chunk in (
      before ++ given,
      Consumes-trans _ _ _ _ _ c.loop-chunk.invariant.1 c.in-Ok.ensures.bytes.0,
      omega (arith, c.in-Ok.count-test, c.in-Ok.ensures.bound, c.read.auto.buf, both, some, room),
    )

pub loop-chunk-preserved : goal.loop-chunk-preserved
loop-chunk-preserved g c =
    let before = c.loop-chunk.text.items in
    let given = take c.in-Ok.count c.read.new.buf in
    let items : c.extend_from_slice.new.self.items ≡ before ++ given =
    c.in-Ok-extend_from_slice.ensures.items ∙ ap (λ l. before ++ l)
    (take-append-le c.in-Ok.count c.read.new.buf _ (omega (arith, c.in-Ok.ensures.bound, c.read.auto.buf, length-take c.min-room.result c.loop-chunk.chunk))) in
    rw items (
      joined_small before given READ_LEN (omega (arith, c.in-Ok.ensures.bound, c.read.auto.buf, length-take c.min-room.result c.loop-chunk.chunk)),
      Consumes-trans _ _ _ _ _ c.loop-chunk.invariant.1 c.in-Ok.ensures.bytes.0,
    )
