use Rattle.gm_frontier.proofs.PieceLemmas.{listed_at}
use Rattle.gm_frontier.proofs.part.listed_note.Goals as goal

pub returns : goal.returns
returns g c = listed_at c.args.notes.now c.args.k c.index-notes-k.result c.copied.result c.requires c.index-notes-k.is c.copied.ensures
