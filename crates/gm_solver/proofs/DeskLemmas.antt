-- A shard to which the pairs of a level are delivered in their order.
use Rattle.gm_solver.proofs.Lower.{◌≡◌, ℕ, List, slice_get, refl, sym, subst, ◌∙◌, arith, Rules, ShardState, pairs_in, IsWhole, Spot, spot_of}
use Rattle.std.proofs.Common.{Option}
use Rattle.std.specs.Iterator.{SkipsThenYields, YieldsFirst}
use Rattle.std.proofs.lemmas.Iterator.Consumers.{nth_from_yields_List, YieldsList-from_first}
use Rattle.std.proofs.lemmas.Iterator.Adapters.{option_map_id}
use Rattle.gm_game.specs.Rules.{at}
use Rattle.gm_game.specs.Laws.{IsGame}
use Rattle.gm_frontier.specs.Counts.{ExpectedData, IsExpected}
use Rattle.gm_counters.specs.Good.{IsGood}
use Rattle.gm_shard.proofs.CloseLemmas.{whole_from}
use Rattle.gm_solver.specs.Desks.{IsForSpot}

-- as many pairs as a count for the spot says: the level is whole
pub round_whole : (r : Rules) → IsGame r → (spot : Spot) (s : ShardState) → spot_of s ≡ spot → IsGood r s → (e : ExpectedData) → IsExpected r e
    → IsForSpot e spot → e.number ≡ pairs_in s → IsWhole r s
round_whole r g spot s at good e exact f n =
    let here = subst (IsForSpot e) (sym at) f in
    whole_from g good exact (record { tier = here.tier; lo = here.lo; hi = here.hi; last = here.last }) (omega arith)

-- the item that a walk of n calls comes to
pub nth_is : {X : Type 0} (xs : List X) (found : Option X) (n : ℕ) (left : List X) → SkipsThenYields (YieldsFirst (λ (ys : List X). ys)) xs n found left
    → slice_get xs n ≡ found
nth_is {X} xs found n left ran =
    sym (nth_from_yields_List {v = λ (x : X). x} found left n ran (YieldsList-from_first (λ (x : X). x) (λ (ys : List X). ys) xs refl)) ∙ option_map_id found
