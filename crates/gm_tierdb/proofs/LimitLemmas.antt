-- Which tables a file of version 1 can have.
use Rattle.gm_tierdb.proofs.Lower.{◌≡◌, ℕ, ◌≤◌, List, Option, None, refl, arith, Solved, One, Two, IsStorable}
use Rattle.std.proofs.Common.{Some, slice_get, MatchOption}
use Rattle.gm_game.specs.declared.position.Phase.TheVariants.{WinLose, Ties}
use Rattle.gm_table.specs.declared.version.TheConstants.{REMOTENESS_1}
use Rattle.gm_game.specs.declared.position.Value.{Value}
use Rattle.gm_game.specs.declared.position.Value.TheVariants.{Lose, Draw, Tie, Win}
use Rattle.gm_game.specs.declared.position.Phase.{Phase}
use Rattle.gm_game.specs.Records.{solved}
use Rattle.gm_table.specs.Levels.{HasLevel, HasGreatest}
use Rattle.gm_table.specs.RecordCodes.{IsStorableSolved}
use Rattle.gm_tierdb.specs.TierText.{AreUpTo}

-- a record of a table without a level above that of version 1 can be in a file of it
old_value : (records : List (Option Solved)) → AreUpTo REMOTENESS_1 records → (k : ℕ) (value : Value) (n : ℕ)
    → slice_get records k ≡ Some (Some (solved value n)) → IsStorableSolved Two value n → IsStorableSolved One value n
old_value records up k Lose n e h = up.each WinLose n (k, Some (solved Lose n), e, refl)
old_value records up k Draw n e h = h
old_value records up k Tie n e h = up.each Ties n (k, Some (solved Tie n), e, refl)
old_value records up k Win n e h = up.each WinLose n (k, Some (solved Win n), e, refl)

pub old_record : (records : List (Option Solved)) → AreUpTo REMOTENESS_1 records → (k : ℕ) (o : Option Solved) → slice_get records k ≡ Some o
    → IsStorable Two o → IsStorable One o
old_record records up k None e h = tt
old_record records up k (Some s) e h = old_value records up k s.value s.remoteness e h

-- the levels of a table are within a limit where the greatest of each phase is
pub within_all : (limit : ℕ) (phase : Phase) (records : List (Option Solved)) (greatest : Option ℕ) → HasGreatest phase records greatest
    → MatchOption greatest (Unit {0}) (λ n. n ≤ limit)
    → (n : ℕ) → HasLevel phase records n → n ≤ limit
within_all limit phase records None is small n h = absurd (is n h)
within_all limit phase records (Some m) is small n h = let less = is.greatest n h in omega arith

pub within_greatest : (limit : ℕ) (phase : Phase) (records : List (Option Solved)) (greatest : Option ℕ) → HasGreatest phase records greatest
    → AreUpTo limit records → MatchOption greatest (Unit {0}) (λ n. n ≤ limit)
within_greatest limit phase records None is up = tt
within_greatest limit phase records (Some m) is up = up.each phase m is.there

both_phases : (limit : ℕ) (records : List (Option Solved)) → ((n : ℕ) → HasLevel WinLose records n → n ≤ limit)
    → ((n : ℕ) → HasLevel Ties records n → n ≤ limit) → (phase : Phase) (n : ℕ) → HasLevel phase records n → n ≤ limit
both_phases limit records win_lose ties WinLose n h = win_lose n h
both_phases limit records win_lose ties Ties n h = ties n h

pub within_both : (limit : ℕ) (records : List (Option Solved)) (win_lose ties : Option ℕ) → HasGreatest WinLose records win_lose → HasGreatest Ties records ties
    → MatchOption win_lose (Unit {0}) (λ n. n ≤ limit) → MatchOption ties (Unit {0}) (λ n. n ≤ limit) → AreUpTo limit records
within_both limit records win_lose ties is also small tied = record {
  each = both_phases limit records (λ n h. within_all limit WinLose records win_lose is small n h) (λ n h. within_all limit Ties records ties also tied n h);
}
