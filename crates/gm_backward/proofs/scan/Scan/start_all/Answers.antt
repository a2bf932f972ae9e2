use Rattle.gm_backward.proofs.Lower.{◌∙◌}
use Rattle.rayon.specs.Numbers.{nat_range}
use Rattle.rayon.proofs.ListFacts.{IfOk-then}
use Rattle.gm_table.proofs.Dealt.{zip_whole}
use Rattle.gm_backward.proofs.scan.Scan.start_all.Goals as goal

pub returns : goal.returns
returns g c =
    let ends = c.into_par_iter.ensures in
    IfOk-then c.collect.result _ _ c.collect.ensures (λ v h.
    let chain = rw (c.map.ensures.base, c.map.ensures.f, c.with_min_len.ensures.base) at h.1 in
    let places = chain.1 ∙ (λ i. nat_range (ends.0 i) (ends.1 i)) in
    let whole = zip_whole _ c.blocks-blocks.result chain.0 h.0 v.items places chain.2 h.2 in
    record { many = whole.0 ∙ c.blocks-blocks.ensures.count; each = whole.1 })
