use Rattle.std.proofs.Common.{◌≡◌, length}
use denote.Text.{Utf8}
use denote.Shadow.{shadow}
use Rattle.gm_command.specs.Searching.{with_words, with_nothing, split_at_commas}
use Rattle.gm_command.proofs.searches.with_of.Given as goal

abbrev pub invariant-loop-word : goal.invariant-loop-word
invariant-loop-word l = shadow (Utf8 l.rest) × (with_words with_nothing (split_at_commas l.text) ≡ with_words l.«with» (split_at_commas l.rest))

abbrev pub decreases-loop-word : goal.decreases-loop-word
decreases-loop-word l = length l.rest
