-- The answers to lines.
use Rattle.std.specs.Prelude.{ℕ, ◌/◌, ◌%◌, ◌==◌, List}
use Rattle.gm_game.specs.declared.position.Position.{Position}
use Rattle.gm_game.specs.Rules.{Rules}
use Rattle.gm_json.specs.declared.asked.Asked.{Asked}
use Rattle.gm_json.specs.Answers.{IsAnswer}

-- the options that bits stand for
abbrev pub asked_of : ℕ → Asked
asked_of bits = record {
  values = bits % 2 == 1;
  distinct = bits / 2 % 2 == 1;
  with = record {
    canonical = bits / 4 % 2 == 1;
    parents = bits / 8 % 2 == 1;
    symmetric = bits / 16 % 2 == 1;
    best = bits / 32 % 2 == 1;
  };
}

-- the answer about a position
abbrev pub Says : Rules → (Position → List ℕ) → (Position → ℕ → List ℕ) → ℕ → List ℕ → List ℕ → ℕ → List ℕ → Type 0
Says r shown move_shown bits tiers = IsAnswer r shown move_shown (asked_of bits) tiers
