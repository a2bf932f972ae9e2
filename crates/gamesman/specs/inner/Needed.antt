-- What a command needs before tables are built.
use Rattle.std.specs.Prelude.{◌≡◌, ℕ, true, List, [], Option, None, Some}
use Rattle.std.specs.Borrow.{Bor}
use Rattle.gm_game.specs.Rules.{Rules}
use Rattle.gm_tiers.specs.Reach.{IsReached}
use Rattle.gm_play.specs.Places.{IsAt}
use Rattle.gm_page.specs.Engines.{AreDigits}
use Rattle.gm_command.specs.declared.requests.TableCommand.{TableCommand}
use Rattle.gm_command.specs.declared.requests.TableCommand.TheVariants.{Explore, Page, At, Find, Play}
use Rattle.gamesman.specs.declared.fault.Fault.{Fault}
use Rattle.gamesman.specs.declared.fault.Fault.TheVariants.{NoSuchPosition}
use Rattle.gamesman.specs.declared.needs.Needs.{Needs}
use Rattle.gamesman.specs.Games.{GameSpec}
use Rattle.gamesman.specs.Engines.{IsEngineFault}
use Rattle.gamesman.specs.Plays.{IsFrom, IsFromNone}
use Rattle.gamesman.specs.Searches.{first_of}

-- the legal position with this text, or the start if none is given, and its tier
abbrev pub IsAbout : GameSpec → Option (Bor (List ℕ)) → Needs → Type 0
IsAbout g position needs = IsFrom g.rules g.shown g.move_shown g.picture position needs.position × (g.rules.is_legal needs.position ≡ true)
    × (needs.tier ≡ needs.position.tier)

-- the fault that no position has the text
abbrev pub IsAboutNone : GameSpec → Option (Bor (List ℕ)) → Fault → Type 0
IsAboutNone g position fault = IsFromNone g.rules g.shown g.move_shown g.picture position × (fault ≡ NoSuchPosition)

-- the canonical position at this index of a tier of the game, and this tier
abbrev pub IsAtPlace : Rules → ℕ → ℕ → Needs → Type 0
IsAtPlace r tier index needs = IsAt r tier index needs.position × IsReached r tier × (needs.tier ≡ tier)

-- the digits of an engine, or none without its file
abbrev pub AreDigitsOf : Option (Bor (List ℕ)) → List ℕ → Type 0
AreDigitsOf None digits = digits ≡ []
AreDigitsOf (Some engine) digits = AreDigits digits

-- no engine is there, though one is to be
abbrev pub IsEngineFaultOf : Option (Bor (List ℕ)) → Fault → Type 0
IsEngineFaultOf None fault = ⊥
IsEngineFaultOf (Some engine) fault = IsEngineFault fault

-- what a command needs: its position or place, the digits of its engine, and the tier whose tables it reads with all that this one reaches
abbrev pub IsNeeded : GameSpec → TableCommand → Needs → Type 0
IsNeeded g (Explore position question) needs = IsAbout g position needs
IsNeeded g (Page request) needs = IsAbout g request.position needs × AreDigitsOf request.engine needs.engine.items
IsNeeded g (At tier index json) needs = IsAtPlace g.rules tier index needs
IsNeeded g (Find search) needs = needs.tier ≡ first_of g.rules search.tier
IsNeeded g (Play request) needs = IsAbout g request.position needs
IsNeeded g _ needs = needs.tier ≡ g.rules.initial.tier
