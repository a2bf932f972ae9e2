use Rattle.gm_immediate.proofs.Lower.{◌≡◌, ap, subst, ◌∙◌, AllZip, block_in, IsBlockFound}
use Rattle.rayon.specs.Numbers.{nat_range}
use Rattle.rayon.proofs.ListFacts.{IfOk-then}
use Rattle.gm_table.proofs.Dealt.{zip_whole}
use Rattle.rayon.specs.Lists.{range_start, range_end, min_len_base}
use Rattle.std.proofs.Common.{◌*◌}
use Rattle.gm_immediate.proofs.Parts.{found_by_zip}
use Rattle.gm_immediate.proofs.one_pass.OnePass.settle_all.Goals as goal

pub returns : goal.returns
returns g c =
    let r = g.G.Game.rules in
    let self = c.args.self.now in
    let ends = c.into_par_iter.ensures in
    let base = c.map.ensures.base in
    let least = c.with_min_len.ensures.base in
    let count = self.dealing.rows * 32 in
    IfOk-then c.collect.result _ _ c.collect.ensures (λ v h.
    let (numbers, places, zip) = h.1 in
    let whole : numbers ≡ nat_range 0 count =
    places
    ∙ (λ i. nat_range (range_start (min_len_base (base i))) (range_end (min_len_base (base i))))
    ∙ (λ i. nat_range (range_start (least i)) (range_end (least i)))
    ∙ (λ i. nat_range (ends.0 i) (ends.1 i))
    ∙ ap (nat_range 0) c.blocks-blocks.ensures.count in
    let asked : AllZip (λ place x. IsBlockFound r self.tier (block_in self.dealing.rows place) x) numbers h.0 =
    subst (λ f. AllZip (λ place x. IsBlockFound r f.0.now.tier (block_in f.0.now.dealing.rows place) x) numbers h.0) c.map.ensures.f zip in
    found_by_zip r self.tier self.dealing.rows v.items (zip_whole (λ place x. IsBlockFound r self.tier (block_in self.dealing.rows place) x)
    count numbers h.0 v.items whole asked h.2))
