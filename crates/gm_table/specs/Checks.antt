-- Records that are checked one by one.
use Rattle.std.specs.Prelude.{◌≡◌, ◌≢◌, ℕ, ◌+◌, ◌*◌, ◌/◌, ◌<◌, ◌≤◌, List, Option, None, Some, IfSome, MatchOption, length, map, get_or, slice_get}
use Rattle.gm_game.specs.declared.position.Position.{Position}
use Rattle.gm_game.specs.declared.position.Solved.{Solved}
use Rattle.gm_game.specs.declared.limits.TheConstants.{REMOTENESS}
use Rattle.gm_game.specs.Rules.{Rules, at}
use Rattle.gm_game.specs.Children.{canonical_children_of}
use Rattle.gm_game.specs.Records.{IsRecord, settled_by, look_in, Fits}
use Rattle.gm_table.specs.declared.checker.CheckError.{CheckError}
use Rattle.gm_table.specs.declared.checker.CheckError.TheVariants.{OutOfMemory, WrongSize, WrongRecord}
use Rattle.gm_table.specs.Tables.{TableData, value_in}

-- the records fit: each follows from the records of the canonical children, which are looked up among these records within the tier, and in the tables for
-- other tiers
abbrev pub FitTables : Rules → List TableData → ℕ → List (Option Solved) → Type 0
FitTables r entries tier records = Fits r REMOTENESS tier (value_in r entries) records

-- what the records, and the tables of other tiers, say of a canonical position
abbrev pub look_up : Rules → List TableData → ℕ → List (Option Solved) → Position → Option Solved
look_up r entries tier records = look_in tier records (value_in r entries)

-- what the records and the tables say of the canonical children of a position
abbrev pub child_records : Rules → List TableData → ℕ → List (Option Solved) → Position → List (Option Solved)
child_records r entries tier records p = map (look_up r entries tier records) (canonical_children_of r p)

-- the value that the records and the tables give a position
abbrev pub value_from : Rules → List TableData → ℕ → List (Option Solved) → Position → Solved
value_from r entries tier records p = settled_by r (look_up r entries tier records) p

-- a record of a position fits: it has the value that the records and the tables give, within the limit, and there is none if the position isn't legal and
-- canonical
abbrev pub RecordFits : Rules → List TableData → ℕ → List (Option Solved) → Position → Option Solved → Type 0
RecordFits r entries tier records p o = IsRecord r REMOTENESS (λ q s. s ≡ value_from r entries tier records q) p o

-- the record at an index fits
abbrev pub FitsAt : Rules → List TableData → ℕ → List (Option Solved) → ℕ → Type 0
FitsAt r entries tier records index = (o : Option Solved) → slice_get records index ≡ Some o → RecordFits r entries tier records (at tier index) o

-- the record at an index doesn't fit, and each one before it does
pub record IsFirstWrong (r : Rules) (entries : List TableData) (tier : ℕ) (records : List (Option Solved)) (index : ℕ) : Type 0 where
  pub there : index < length records
  pub wrong : FitsAt r entries tier records index → ⊥
  pub before : (i : ℕ) → i < index → FitsAt r entries tier records i

-- the records from lo up to hi fit
abbrev pub FitBetween : Rules → List TableData → ℕ → List (Option Solved) → ℕ → ℕ → Type 0
FitBetween r entries tier records lo hi = (i : ℕ) → lo ≤ i → i < hi → FitsAt r entries tier records i

-- this is the first index from lo up to hi whose record doesn't fit, or there is none
abbrev pub IsFirstWrongIn : Rules → List TableData → ℕ → List (Option Solved) → ℕ → ℕ → Option ℕ → Type 0
IsFirstWrongIn r entries tier records lo hi first = MatchOption first (FitBetween r entries tier records lo hi)
    (λ w. (lo ≤ w) × (w < hi) × (FitsAt r entries tier records w → ⊥) × FitBetween r entries tier records lo w)

-- this is the first index of a part, of 128, whose record doesn't fit, or there is none
abbrev pub IsFirstWrongOf : Rules → List TableData → ℕ → List (Option Solved) → ℕ → Option ℕ → Type 0
IsFirstWrongOf r entries tier records part first = IsFirstWrongIn r entries tier records (part * length records / 128) ((part + 1) * length records / 128) first

-- these are such indexes of some parts
abbrev pub AreFirstWrongOf : Rules → List TableData → ℕ → List (Option Solved) → List (Option (Option ℕ)) → Type 0
AreFirstWrongOf r entries tier records found = (part : ℕ) → IfSome (get_or found part None) (IsFirstWrongOf r entries tier records part)

-- these records are not the tier's, for this reason
abbrev pub AreWrong : Rules → List TableData → ℕ → List (Option Solved) → CheckError → Type 0
AreWrong r entries tier records OutOfMemory = ⊥
AreWrong r entries tier records WrongSize = length records ≢ r.tier_size tier
AreWrong r entries tier records (WrongRecord index) = (length records ≡ r.tier_size tier) × IsFirstWrong r entries tier records index

-- the numbers of the errors
abbrev pub check_error_number : CheckError → ℕ
check_error_number OutOfMemory = 1
check_error_number WrongSize = 2
check_error_number (WrongRecord index) = 3
