use Rattle.gm_table.proofs.Lower.{◌≡◌, ℕ, ◌+◌, ◌/◌, ◌%◌, ◌<◌, sym, subst}
use Rattle.gm_table.specs.inner.Dealing.{block_in}
use Rattle.std.proofs.Common.{◌*◌}
use Rattle.gm_table.proofs.Dealt.{dealt}
use Rattle.gm_table.proofs.dealing.Dealing.place_of.Goals as goal

pub returns-clause-within : goal.returns-clause-within
returns-clause-within c =
    let rows = c.args.self.now.rows in
    subst (λ (b : ℕ). b % 32 * rows + b / 32 < rows * 32) (sym c.from-block.ensures) (dealt rows c.args.block c.requires).0

pub returns-clause-value : goal.returns-clause-value
returns-clause-value c =
    let rows = c.args.self.now.rows in
    subst (λ (b : ℕ). block_in rows (b % 32 * rows + b / 32) ≡ c.args.block) (sym c.from-block.ensures) (dealt rows c.args.block c.requires).1
