-- Countdown and Chain have the laws of a game.
use Rattle.std.proofs.Common.{ℕ, ◌<◌, ◌^◌, Bool, true, false, if◌then◌else◌, List, refl, arith}
use Rattle.gm_toys.specs.Lower.{IsGame, Rules}
use Rattle.gm_toys.specs.Subtraction.{subtraction}
use Rattle.gm_toys.specs.Countdown.{countdown_name}
use Rattle.gm_toys.specs.Chain.{chain_name}
use Rattle.gm_toys.specs.laws.SubtractionLaws.{subtraction_lawful}

-- the name of Countdown, or of Chain
abbrev pub name_of : Bool → List ℕ
name_of two = if two then countdown_name else chain_name

-- the most that may be taken at a time
abbrev pub most_of : Bool → ℕ
most_of two = if two then 2 else 1

-- Countdown from n, or Chain
abbrev pub counts_down : Bool → ℕ → Rules
counts_down two n = subtraction (name_of two) (most_of two) n

pub down_lawful : (two : Bool) (n : ℕ) → n < 2 ^ 32 → IsGame (counts_down two n)
down_lawful true n h = subtraction_lawful countdown_name 2 n refl refl (omega arith) (omega arith) h
down_lawful false n h = subtraction_lawful chain_name 1 n refl refl (omega arith) (omega arith) h
