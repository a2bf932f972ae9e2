use Rattle.gamesman.specs.Answers.{IsAnswered, IsAnsweredIn}
use Rattle.gamesman.proofs.games.answer.Goals as goal

pub returns-in-FromTables-clause-answered : goal.returns-in-FromTables-clause-answered
unfolding IsAnsweredIn IsAnswered
returns-in-FromTables-clause-answered g c = rw c.in-FromTables.is (c.answer_from_tables.result, c.answer_from_tables.ensures, c.done.ensures)

pub returns-in-Ask-clause-answered : goal.returns-in-Ask-clause-answered
unfolding IsAnsweredIn
returns-in-Ask-clause-answered g c = rw c.in-Ask.is c.answer_asked.ensures

pub returns-in-Locate-clause-answered : goal.returns-in-Locate-clause-answered
unfolding IsAnsweredIn IsAnswered
returns-in-Locate-clause-answered g c = rw c.in-Locate.is (c.locate.result, c.locate.ensures, c.done-in-Locate.ensures)

pub returns-in-Check-clause-answered : goal.returns-in-Check-clause-answered
unfolding IsAnsweredIn IsAnswered
returns-in-Check-clause-answered g c = rw c.in-Check.is (c.check_folder.result, c.check_folder.ensures, c.done-in-Check.ensures)

pub returns-in-Naming-clause-answered : goal.returns-in-Naming-clause-answered
unfolding IsAnsweredIn IsAnswered
returns-in-Naming-clause-answered g c = rw c.in-Naming.is (c.write_naming.result, tt, c.done-in-Naming.ensures)
