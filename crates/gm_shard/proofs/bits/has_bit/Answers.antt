use Rattle.gm_shard.proofs.Lower.{◌≡◌, ◌↔◌, ℕ, subst, sym}
use Rattle.std.proofs.Common.{◌==◌}
use Rattle.std.specs.Int.{bit_at}
use Rattle.std.proofs.lemmas.Nat.Bits.{shr_and_one}
use Rattle.std.proofs.lemmas.Bool.Decides.{Decides-eqb}
use Rattle.std.specs.Prelude.{IsTrue}
use Rattle.gm_shard.proofs.bits.has_bit.Goals as goal

pub returns : goal.returns
returns c = subst (λ (n : ℕ). IsTrue (n == 1) ↔ (bit_at c.args.mask c.args.k ≡ 1)) (sym (shr_and_one c.args.mask c.args.k))
    (Decides-eqb (bit_at c.args.mask c.args.k) 1)
