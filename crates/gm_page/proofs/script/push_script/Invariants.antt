use Rattle.gm_page.proofs.Lower.{◌≡◌, ◌++◌, take, flat_map, script_byte}
use Rattle.gm_page.proofs.script.push_script.Given as goal

abbrev pub invariant-loop-byte : goal.invariant-loop-byte
invariant-loop-byte l = l.page.items ≡ l.initial.page.items ++ flat_map script_byte (take l.byte-index l.text)
