use Rattle.std.proofs.Common.{◌≡◌, ◌*◌, ◌-◌, ◌%◌, ◌^◌, ℕ, w32, ap, ◌∙◌, arith}
use Rattle.std.proofs.lemmas.Nat.{one_shl}
use Rattle.std.specs.Int.{bit_not}
use Rattle.std.specs.Prelude.{bit_and}
use Rattle.gm_board.specs.Masks.{has_cell}
use Rattle.gm_stacks.proofs.NumberingSteps.{free_is}
use Rattle.gm_stacks.proofs.columns.Stacks.free.Goals as goal

pub returns-clause-cells : goal.returns-clause-cells
returns-clause-cells c = λ k l.
    let n = c.args.self.rows * c.args.self.columns in
    let all : 1 * 2 ^ n % 2 ^ 32 ≡ 2 ^ n = one_shl n 32 (omega arith) in
    ap (λ (j : ℕ). has_cell (bit_and (bit_not w32 c.args.taken) (1 * 2 ^ j % 2 ^ 32 - 1)) k) c.cells.ensures
    ∙ ap (λ (v : ℕ). has_cell (bit_and (bit_not w32 c.args.taken) (v - 1)) k) all
    ∙ free_is n c.args.taken c.args.self.few c.requires k l
