-- The game of the code is the game that is stated.
use Rattle.gm_draw.specs.GameSpecs.{GameSpec}
use Rattle.gm_mutorere.specs.RingPicture.{mutorere_spec}

pub ring_is : (P : GameSpec → Type 0) → P mutorere_spec → P mutorere_spec
ring_is P h = h
