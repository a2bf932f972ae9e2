use Rattle.gm_frontier.proofs.ReadLemmas.{has_record, read_is_note, note_read}
use Rattle.gm_frontier.proofs.part.recorded_note.Goals as goal

pub unwrap-solved-requires : goal.unwrap-solved-requires
unwrap-solved-requires g c = has_record g.G.Game.rules c.args.table.now c.args.indexes.now c.args.k c.from-index.result c.at.result c.requires.recorded
    c.requires.index c.from-index.ensures c.at.ensures.value

pub of-requires : goal.of-requires
of-requires g c =
    read_is_note g.G.Game.rules c.args.table.now c.args.indexes.now c.args.k c.from-index.result c.at.result c.requires.recorded c.requires.index
    c.from-index.ensures c.at.ensures.value c.tier-tier.result
    c.unwrap-solved.result c.tier-tier.ensures.value c.unwrap-solved.ensures

pub returns : goal.returns
returns g c =
    note_read g.G.Game.rules c.args.table.now c.args.indexes.now c.args.k c.from-index.result c.at.result c.requires.recorded c.requires.index
    c.from-index.ensures c.at.ensures.value c.tier-tier.result
    c.unwrap-solved.result c.tier-tier.ensures.value c.unwrap-solved.ensures c.of.result c.of.ensures.position c.of.ensures.solved
