-- The counter and the status of an index of a shard.
use Rattle.gm_counters.proofs.Lower.{◌≡◌, ℕ, ◌-◌, ◌<◌, List, Some, length, get_or, refl, subst, arith, slice_get, Rules, Status, ShardState, IsInRange, StatusIs, IsShardKept, IsCounter}
use Rattle.std.proofs.lemmas.Option.{slice_get_read}

-- the stored counter is the counter
pub counter_read : (r : Rules) (s t : ShardState) (statuses : List Status) (left : List ℕ) (count index n : ℕ) → IsShardKept r s statuses left count → s ≡ t
    → IsInRange t index → n ≡ get_or left (index - s.lo) n → IsCounter r t index n
counter_read r s t statuses left count index n kept same range read = subst (λ (u : ShardState). IsInRange u index → IsCounter r u index n) same here range
  where
    here : IsInRange s index → IsCounter r s index n
    here within =
        let many : length left ≡ length s.delivered = kept.as_many in
        let inside : index - s.lo < length left = omega arith in
        kept.counted index n within (slice_get_read left (length left) (index - s.lo) n refl inside read)

-- there are as many counters and statuses as indexes
pub in_left : (r : Rules) (s t : ShardState) (statuses : List Status) (left : List ℕ) (count index : ℕ) → IsShardKept r s statuses left count → s ≡ t
    → IsInRange t index → index - s.lo < length left
in_left r s t statuses left count index kept same range = subst (λ (u : ShardState). IsInRange u index → index - s.lo < length left) same
    (λ m. let many = kept.as_many in omega (arith, m.0, m.1)) range

pub in_statuses : (r : Rules) (s t : ShardState) (statuses : List Status) (left : List ℕ) (count index : ℕ) → IsShardKept r s statuses left count → s ≡ t
    → IsInRange t index → index - s.lo < length statuses
in_statuses r s t statuses left count index kept same range =
    subst (λ (u : ShardState). IsInRange u index → index - s.lo < length statuses) same (λ m. let many = kept.shard.many in omega (arith, m.0, m.1)) range

-- the stored status is the status
pub status_read : (r : Rules) (s t : ShardState) (statuses : List Status) (left : List ℕ) (count index : ℕ) (x : Status) → IsShardKept r s statuses left count
    → s ≡ t → IsInRange t index → slice_get statuses (index - s.lo) ≡ Some x → StatusIs r t index x
status_read r s t statuses left count index x kept same range read =
    subst (λ (u : ShardState). IsInRange u index → StatusIs r u index x) same (λ m. (kept.shard.known index x m read).0) range
