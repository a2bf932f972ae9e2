-- Numbers of a range that a loop skips: they change neither the numbers that pass a test nor the list of indexes.
use Rattle.std.specs.Prelude.{◌≡◌, ◌+◌, ◌<◌}
use Rattle.std.proofs.Common.{ℕ, zero, suc, Bool, false, [], map, Option, None, ap, ◌∙◌, arith}
use Rattle.std.specs.List.{filter, filter_map, range_with_len}
use Rattle.gm_game.specs.Ascending.{put_all}
use Rattle.gm_game.proofs.PuttingSteps.{put_more_none}
use Rattle.gm_board.specs.laws.Filters.{filter_out}

-- k numbers that don't pass the test
pub filter_skip : (p : ℕ → Bool) (n k : ℕ) → ((i : ℕ) → i < k → p (n + i) ≡ false) → filter p (range_with_len 0 (n + k)) ≡ filter p (range_with_len 0 n)
filter_skip p n zero h = ap (λ (m : ℕ). filter p (range_with_len 0 m)) (let e : n + 0 ≡ n = omega arith in e)
filter_skip p n (suc k) h =
    ap (λ (m : ℕ). filter p (range_with_len 0 m)) (let e : n + suc k ≡ n + k + 1 = omega arith in e)
    ∙ filter_out p (n + k) (h k (omega arith))
    ∙ filter_skip p n k (λ i l. h i (omega arith))

-- k numbers that give no index
pub puts_skip : {B : Type 0} (f : B → ℕ) (h : ℕ → Option B) (n k : ℕ) → ((i : ℕ) → i < k → h (n + i) ≡ None)
    → put_all [] (map f (filter_map h (range_with_len 0 (n + k)))) ≡ put_all [] (map f (filter_map h (range_with_len 0 n)))
puts_skip f h n zero e = ap (λ (m : ℕ). put_all [] (map f (filter_map h (range_with_len 0 m)))) (let z : n + 0 ≡ n = omega arith in z)
puts_skip f h n (suc k) e =
    ap (λ (m : ℕ). put_all [] (map f (filter_map h (range_with_len 0 m)))) (let z : n + suc k ≡ n + k + 1 = omega arith in z)
    ∙ put_more_none f h (n + k) (e k (omega arith))
    ∙ puts_skip f h n k (λ i l. e i (omega arith))
