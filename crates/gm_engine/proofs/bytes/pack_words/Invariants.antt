use Rattle.gm_engine.proofs.Lower.{◌≡◌, ◌++◌, length, map, unpacked, words_of}
use Rattle.gm_engine.proofs.bytes.pack_words.Given as goal

abbrev pub invariant-loop-rest : goal.invariant-loop-rest
invariant-loop-rest l = l.packed ++ map unpacked (words_of l.rest) ≡ map unpacked (words_of l.bytes)

abbrev pub decreases-loop-rest : goal.decreases-loop-rest
decreases-loop-rest l = length l.rest
