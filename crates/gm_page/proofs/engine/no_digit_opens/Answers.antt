use Rattle.gm_page.proofs.Digits.{digits_open_none}
use Rattle.gm_page.proofs.engine.no_digit_opens.Goals as goal

pub returns : goal.returns
returns c all = digits_open_none c.args.digits.now all
