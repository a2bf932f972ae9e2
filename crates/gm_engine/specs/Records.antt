-- Records of one byte or four each, as the host keeps them.
use Rattle.std.specs.Prelude.{◌≡◌, ◌+◌, ◌*◌, ℕ, List, [], ◌∷◌, Option, length, map, take, drop}
use Rattle.gm_game.specs.declared.position.Solved.{Solved}
use Rattle.gm_game.specs.declared.limits.TheConstants.{REMOTENESS}
use Rattle.gm_game.specs.Rules.{Rules}
use Rattle.gm_game.specs.Records.{IsTrueTable}
use Rattle.gm_table.specs.Packed.{unpacked}
use Rattle.gm_table.specs.Numbers.{wide}
use Rattle.gm_engine.specs.declared.width.Width.{Width}
use Rattle.gm_engine.specs.declared.width.Width.TheVariants.{Byte, Word}

-- the number of bytes of a record
abbrev pub bytes_of : Width → ℕ
bytes_of Byte = 1
bytes_of Word = 4

-- the number of bytes of this many records
abbrev pub times : Width → ℕ → ℕ
times Byte count = count
times Word count = 4 * count

-- the greatest remoteness of a record
abbrev pub farthest : Width → ℕ
farthest Byte = 31
farthest Word = REMOTENESS

-- the record that a byte stands for: its upper three bits are the code of the value, and the others are the remoteness
abbrev pub record_with : ℕ → Option Solved
record_with byte = unpacked (wide byte)

-- the numbers that bytes stand for, four bytes each, the lowest first
abbrev pub words_of : List ℕ → List ℕ
words_of (a ∷ b ∷ c ∷ d ∷ rest) = (a + 256 * b + 65536 * c + 16777216 * d) ∷ words_of rest
words_of _ = []

-- the records that bytes stand for
abbrev pub records_of : Width → List ℕ → List (Option Solved)
records_of Byte bytes = map record_with bytes
records_of Word bytes = map unpacked (words_of bytes)

-- the bytes stand for these records, and no byte is left over
abbrev pub Stand : Width → List ℕ → List (Option Solved) → Type 0
Stand width bytes records = (length bytes ≡ times width (length records)) × (records_of width bytes ≡ records)

-- the number of bytes of the records of a tier
abbrev pub room : Rules → Width → ℕ → ℕ
room r width tier = times width (r.tier_size tier)

-- the bytes stand for the records of the true table of a tier
abbrev pub IsTrueTier : Rules → Width → ℕ → List ℕ → Type 0
IsTrueTier r width tier bytes = (length bytes ≡ room r width tier) × IsTrueTable r REMOTENESS tier (records_of width bytes)

-- the bytes stand for the records of the true tables of these tiers, one tier after another
abbrev pub AreTrueTiers : Rules → Width → List ℕ → List ℕ → Type 0
AreTrueTiers r width [] bytes = bytes ≡ []
AreTrueTiers r width (t ∷ ts) bytes = IsTrueTier r width t (take (room r width t) bytes) × AreTrueTiers r width ts (drop (room r width t) bytes)
