use Rattle.gm_backward.proofs.Lower.{◌≡◌, ℕ, ◌+◌, ◌<◌, List, Some, ◌++◌, length, length-append, slice_get, sym, ap, subst, ◌∙◌, arith, slice_get-get_or, Start, AreStarts}
use Rattle.std.proofs.Common.{min, IfOk, ◌*◌}
use Rattle.gm_table.specs.inner.Dealing.{block_in}
use Rattle.gm_backward.specs.inner.Blocks.{IsPart}
use Rattle.gm_backward.proofs.BlockLemmas.{starts_more}
use Rattle.gm_immediate.proofs.BlockLemmas.{zip_at}
use Rattle.gm_backward.proofs.scan.Scan.in_order_of.Goals as goal

pub loop-block-preserved : goal.loop-block-preserved
loop-block-preserved g c =
    let r = g.G.Game.rules in
    let self = c.args.self.now in
    let size = self.size_is in
    let block = c.loop-block.block in
    let entry = c.index-found-place_of.result in
    let place = c.place_of.result in
    let inside : place < length c.args.found.now = (let a = c.place_of.ensures.within in let b = c.requires.many in omega arith) in
    let there : slice_get c.args.found.now place ≡ Some entry =
    slice_get-get_or c.args.found.now place entry inside ∙ ap Some (sym c.index-found-place_of.is) in
    let zipped =
    zip_at (λ k x. IfOk x (λ found. IsPart r self.tier (block_in self.dealing.rows k) found.items)) 0 c.args.found.now c.requires.each place entry there in
    let none : 0 + place ≡ place = omega arith in
    let given = subst (λ (k : ℕ). IfOk entry (λ found. IsPart r self.tier (block_in self.dealing.rows k) found.items)) none zipped in
    let part = c.in-Ok.part in
    let first : IsPart r self.tier (block_in self.dealing.rows place) part.items =
    subst (λ x. IfOk x (λ found. IsPart r self.tier (block_in self.dealing.rows place) found.items)) c.in-Ok.is given in
    let here : IsPart r self.tier block part.items = subst (λ (k : ℕ). IsPart r self.tier k part.items) c.place_of.ensures.value first in
    let all = c.loop-block.all.items in
    let extended : c.extend_from_slice.new.self.items ≡ all ++ part.items =
    c.in_ok-extend_from_slice-in-Ok.ensures.items ∙ ap (λ (xs : List Start). all ++ xs) c.as_slice.ensures.value in
    let longer : length c.extend_from_slice.new.self.items ≡ length all + length part.items = ap length extended ∙ length-append all part.items in
    let long = c.loop-block.invariant.long in
    let next = here.long in
    let same : length all ≡ min (block * 512) (r.tier_size self.tier) = omega arith in
    record {
      long = omega arith;
      starts = subst (AreStarts r self.tier 0) (sym extended)
          (starts_more r self.tier (min (block * 512) (r.tier_size self.tier)) all part.items same c.loop-block.invariant.starts here.starts_are);
    }
