-- The words of a fault.
use Rattle.std.specs.Prelude.{ℕ, List, ◌++◌, Option, Some, None, option_map, codes}
use Rattle.std.specs.Fmt.{decimal}
use Rattle.gamesman.specs.declared.fault.Fault.{Fault}
use Rattle.gamesman.specs.declared.fault.Fault.TheVariants.{NoSuchGame, NoSuchPosition, NoSuchPositionInLine, NoSuchGameInLine, NoSuchTier, NoSuchIndex, NotLegal, NotCanonical, OutOfMemory, NotBuilt, AnotherGames, InputFailed, OutputFailed, OutputClosed, TooMuchInput, EngineNotRead, NotAnEngine}

-- the words that say what a fault is; nothing is known of those for a build that failed
abbrev pub words_for : Fault → Option (List ℕ)
words_for NoSuchGame = Some (codes "no such game")
words_for NoSuchPosition = Some (codes "no such position")
words_for (NoSuchPositionInLine line) = Some (codes "no such position in line " ++ decimal line)
words_for (NoSuchGameInLine line) = Some (codes "no such game in line " ++ decimal line)
words_for (NoSuchTier tier) = Some (codes "no such tier " ++ decimal tier)
words_for (NoSuchIndex tier index) = Some (codes "no such index " ++ decimal index ++ codes " in tier " ++ decimal tier)
words_for (NotLegal tier index) = Some (codes "index " ++ decimal index ++ codes " of tier " ++ decimal tier ++ codes " is no position")
words_for (NotCanonical tier index) = Some (codes "index " ++ decimal index ++ codes " of tier " ++ decimal tier ++ codes " is not canonical")
words_for (OutOfMemory error) = Some (codes "out of memory")
words_for (NotBuilt error) = None
words_for (AnotherGames tier) = Some (codes "tier " ++ decimal tier ++ codes " is another game's")
words_for InputFailed = Some (codes "input failed")
words_for OutputFailed = Some (codes "output failed")
words_for OutputClosed = Some (codes "output closed")
words_for TooMuchInput = Some (codes "too much input")
words_for EngineNotRead = Some (codes "engine not read")
words_for NotAnEngine = Some (codes "file is no engine")

-- the line of a fault
abbrev pub line_for : Fault → Option (List ℕ)
line_for fault = option_map (λ words. codes "gamesman: " ++ words ++ codes "\n") (words_for fault)
