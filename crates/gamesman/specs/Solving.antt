-- The output of `solve`.
use Rattle.std.specs.Prelude.{◌≡◌, ℕ, Bool, true, false, List, ◌++◌, codes, Option, None, Result}
use Rattle.std.specs.Fmt.{decimal}
use Rattle.serde_json.specs.Data.{Data, object, member, no_members}
use Rattle.gm_game.specs.Rules.{Rules}
use Rattle.gm_tiers.specs.Orders.{IsTierOrder}
use Rattle.gm_build.specs.Work.{IsSomeWork}
use Rattle.gm_build.specs.declared.work.Work.{Work}
use Rattle.gm_json.specs.Words.{whole, line_of}
use Rattle.gamesman.specs.declared.fault.Fault.{Fault}
use Rattle.gamesman.specs.Told.{IsTold}
use Rattle.gamesman.specs.Searches.{IsUnsearched}

-- a number, after some words
abbrev pub part : List ℕ → ℕ → List ℕ
part words number = words ++ decimal number

-- the numbers of tiers that were solved, reused and migrated, of deliveries, and of those by hand, in words
abbrev pub report_text : Work → List ℕ
report_text w =
    part (codes "solved ") w.solved ++ part (codes " reused ") w.reused ++ part (codes " migrated ") w.migrated ++ part (codes " deliveries ") w.deliveries
    ++ part (codes " by hand ") w.by_hand ++ codes "\n"

-- the same as a JSON tree; the members in alphabetical order
abbrev pub work_tree : Work → Data
work_tree w =
    object (member (codes "byHand") (whole w.by_hand)
    (member (codes "deliveries") (whole w.deliveries)
    (member (codes "migrated") (whole w.migrated)
    (member (codes "reused") (whole w.reused)
    (member (codes "solved") (whole w.solved) no_members)))))

-- the same as a line of JSON, or in words
abbrev pub report_for : Bool → Work → List ℕ
report_for true w = line_of (work_tree w)
report_for false w = report_text w

-- the line for a build of all tiers of the game, with the numbers of its work
pub record IsReport (r : Rules) (json : Bool) (line : List ℕ) : Type 0 where
  pub tiers : List ℕ
  pub order : IsTierOrder r tiers
  pub work : Work
  pub some_work : IsSomeWork r tiers work
  pub text : line ≡ report_for json work

-- a game is built, and the work that it took is written
abbrev pub IsSolvedBy : Rules → Bool → Option (List ℕ) → Option (List ℕ) → Result ℕ Fault → Type 0
IsSolvedBy r json before after result = IsTold (IsReport r json) (IsUnsearched r None) before after result
