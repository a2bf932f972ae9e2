use Rattle.std.proofs.Common.{◌≡◌, ◌+◌, ◌∙◌, ap, length, rules, subst, sym, ℕ}
use Rattle.std.specs.Prelude.{if◌then◌else◌, ◌==◌}
use Rattle.gm_frontier.specs.Levels.{AreTiles}
use Rattle.gm_counters.specs.Steps.{place_of}
use Rattle.drill.proofs.levels.call_on_ten.Goals as goal

-- the shard is that of the whole tier, so its fresh notes tile it
pub call_on_shard-said-requires-clause-tiles : goal.call_on_shard-said-requires-clause-tiles
call_on_shard-said-requires-clause-tiles g c κs within =
    let shard = c.in_ok-shard.shard in
    let list = c.as_slice-first.result.now in
    let runs : AreTiles (place_of shard) shard.lo (shard.lo + length shard.delivered) list = search rules in
    let lo : shard.lo ≡ 0 = search rules in
    let size : length shard.delivered ≡ 11 = search rules in
    let tier : shard.tier ≡ 0 = search rules in
    subst (λ (n : ℕ). AreTiles (place_of shard) 0 n list)
    (ap (λ (n : ℕ). 0 + n) size ∙ sym (ap (λ (t : ℕ). if t == 0 then 11 else 0) tier))
    (subst (λ (l : ℕ). AreTiles (place_of shard) l (l + length shard.delivered) list) lo runs)
