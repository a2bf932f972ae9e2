-- The trees of lines have no float; the tables of entries.
use Rattle.gamesman.proofs.Lower.{◌≡◌, ℕ, List, Option, None, Some, false, refl}
use Rattle.std.specs.Prelude.{codes}
use Rattle.serde_json.specs.Data.{Data, object, member, no_members}
use Rattle.serde_json.specs.Written.{has_float}
use Rattle.gm_build.specs.declared.inspect.TierState.{TierState}
use Rattle.gm_build.specs.declared.work.Work.{Work}
use Rattle.gm_json.specs.Words.{text, whole}
use Rattle.gm_play.specs.PlayTexts.{value_word}
use Rattle.gamesman.specs.Checking.{finding_tree}
use Rattle.gamesman.specs.Listing.{AreTheGames, EntryData, entry_tree, whole_or_null}
use Rattle.gamesman.specs.Solving.{work_tree}

entry_parts : (remoteness : Option ℕ) (family name start title value : List ℕ) (legal : ℕ) → has_float
    (object (member (codes "family") (text family)
    (member (codes "legal") (whole legal)
    (member (codes "name") (text name)
    (member (codes "remoteness") (whole_or_null remoteness)
    (member (codes "start") (text start)
    (member (codes "title") (text title)
    (member (codes "value") (text value) no_members)))))))) ≡ false
entry_parts None family name start title value legal = refl
entry_parts (Some n) family name start title value legal = refl

pub entry_no_float : (d : Data) (e : EntryData) (start title : List ℕ) → d ≡ entry_tree e start title → has_float d ≡ false
entry_no_float d e start title is = rw is (entry_parts e.remoteness e.family e.name start title (value_word e.value) e.legal)

-- the tables of entries have the games of the tables of names
pub are_the_games : AreTheGames
are_the_games = (refl, refl)

pub work_no_float : (d : Data) (w : Work) → d ≡ work_tree w → has_float d ≡ false
work_no_float d w e = rw e refl

pub finding_no_float : (d : Data) (tier : ℕ) (state : TierState) → d ≡ finding_tree tier state → has_float d ≡ false
finding_no_float d tier state e = rw e refl
