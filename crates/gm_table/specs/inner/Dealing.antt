-- The indexes of a tier in blocks, dealt out to 32 classes in turn.
use Rattle.std.specs.Prelude.{ℕ, ◌+◌, ◌*◌, ◌/◌, ◌%◌}

-- the number of the block that is gone through at a place, where blocks are gone through class after class and each class has this many
abbrev pub block_in : ℕ → ℕ → ℕ
block_in rows place = place % rows * 32 + place / rows
