use Rattle.gm_page.proofs.Scripting.{text_opens_none}
use Rattle.gm_page.proofs.script.no_tag_is_opened.Goals as goal

pub returns : goal.returns
returns c = text_opens_none c.args.text.now
