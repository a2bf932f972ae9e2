-- The rules of Stairs: tiers of one position each, and from each tier one move to the tier below.
use Rattle.gm_toys.specs.Lower.{ℕ, nat_le, nat_lt, List, codes, None, Some, decimal, Position, Lose, Rules, at}
use Rattle.std.specs.Prelude.{◌+◌, ◌-◌, ◌&&◌, ◌==◌, Bool, [], ◌∷◌, ◌++◌, if◌then◌else◌}
use Rattle.gm_toys.specs.Subtraction.{moves_down}

-- the name, padded with zeros
abbrev pub stairs_name : List ℕ
stairs_name = codes "stairs" ++ 0 ∷ 0 ∷ 0 ∷ 0 ∷ 0 ∷ 0 ∷ 0 ∷ 0 ∷ 0 ∷ 0 ∷ []

-- x alone if the test holds, and else nothing
abbrev pub only_if : Bool → ℕ → List ℕ
only_if b x = if b then x ∷ [] else []

-- the tier below each of the tiers 1 to n
abbrev pub tier_below : ℕ → ℕ → List ℕ
tier_below n t = only_if (nat_lt 0 t && nat_le t n) (t - 1)

-- the position of tier t leads to tier c where t is the next tier up, and no higher than n
abbrev pub position_above : ℕ → ℕ → ℕ → List ℕ
position_above n c t = only_if ((t == c + 1) && nat_le t n) 0

-- from tier n down to tier 0, where the player to move has lost
abbrev pub stairs : ℕ → Rules
stairs n = record {
  name = stairs_name;
  initial = at n 0;
  tier_size = λ t. if nat_le t n then 1 else 0;
  is_legal = λ p. nat_le p.tier n && (p.index == 0);
  primitive = λ p. if p.tier == 0 then Some Lose else None;
  moves = λ p. moves_down 1 p.tier;
  play = λ p m. at (p.tier - m) p.index;
  canonical = λ p. p;
  parents = λ c t. position_above n c.tier t;
  child_tiers = λ t. tier_below n t;
  tier_rank = λ t. t;
}

-- a position's text is its tier in decimal
abbrev pub tier_text : Position → List ℕ
tier_text p = decimal p.tier
