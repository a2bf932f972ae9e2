-- The tiers that play can reach.
use Rattle.std.specs.Prelude.{◌≡◌, ℕ, true, List, zero, suc}
use Rattle.std.specs.List.{Contains}
use Rattle.gm_game.specs.declared.position.Position.{Position}
use Rattle.gm_game.specs.Rules.{Rules}
use Rattle.gm_table.specs.Tables.{TableData, IsHeld}

-- a tier is reached from another in n steps, each to a child tier
abbrev pub IsBelow : Rules → ℕ → ℕ → ℕ → Type 0
IsBelow r zero tier t = tier ≡ t
IsBelow r (suc n) tier t = (child : ℕ) × Contains (r.child_tiers tier) child × IsBelow r n child t

-- every tier that is reached from this one has a table, itself included
abbrev pub AreAllHeld : Rules → List TableData → ℕ → Type 0
AreAllHeld r entries tier = (n t : ℕ) → IsBelow r n tier t → IsHeld entries t

-- a legal position of a tier that is reached from this one
abbrev pub IsReached : Rules → ℕ → Position → Type 0
IsReached r tier p = (r.is_legal p ≡ true) × ((n : ℕ) × IsBelow r n tier p.tier)

-- with each tier that has a table, every tier that is reached from it has one
abbrev pub AreClosed : Rules → List TableData → Type 0
AreClosed r entries = (tier : ℕ) → IsHeld entries tier → AreAllHeld r entries tier
