use Rattle.gm_engine.proofs.Words.{word_again}
use Rattle.gm_engine.proofs.bytes.word_of.Goals as goal

pub returns-clause-value : goal.returns-clause-value
returns-clause-value c = word_again c.args.number
