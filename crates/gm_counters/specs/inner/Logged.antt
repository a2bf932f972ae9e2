-- The pairs of a log that there may not be yet.
use Rattle.std.specs.Prelude.{List, [], Option, None, Some}
use Rattle.gm_counters.specs.declared.log.Log.{Log}

abbrev pub logged : {A B : Type 0} → Option (Log A B) → List (A × B)
logged None = []
logged (Some log) = log.items
