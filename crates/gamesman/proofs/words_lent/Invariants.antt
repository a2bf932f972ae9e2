use Rattle.std.proofs.Common.{◌≡◌, map, take, string_bytes}
use Rattle.gamesman.proofs.words_lent.Given as goal

abbrev pub invariant-loop-word : goal.invariant-loop-word
invariant-loop-word l = map (λ t. t.now) l.words.items ≡ map string_bytes (take l.word-index l.owned)
