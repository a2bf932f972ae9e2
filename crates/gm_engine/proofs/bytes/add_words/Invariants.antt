use Rattle.gm_engine.proofs.Lower.{◌≡◌, ◌++◌, ℕ, List, length, map, take, unpacked, words_of}
use Rattle.std.proofs.Common.{◌*◌}
use Rattle.gm_engine.proofs.bytes.add_words.Given as goal

abbrev pub invariant-loop-index : goal.invariant-loop-index
invariant-loop-index g l = (more : List ℕ) × (l.bytes.items ≡ l.initial.bytes.items ++ more) × (length more ≡ 4 * l.index)
    × (map unpacked (words_of more) ≡ take l.index l.table.records)
