use Rattle.gm_shard.proofs.RunLemmas.{note_taken}
use Rattle.gm_shard.proofs.replay.take_note.Goals as goal

pub returns : goal.returns
returns g c =
    note_taken g.G.Game.rules c.args.note.now c.args.parent c.args.shard.now c.deliver-answer.new.self c.position-position.ensures.note
    c.range-after.ensures.good
    c.deliver-answer.result c.deliver-answer.ensures c.is_added.result c.is_added.ensures
