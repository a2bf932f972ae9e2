use Rattle.gm_frontier.proofs.Lower.{◌≡◌, ap, refl, ◌∙◌, length, arith, List, NoteData, joined}
use Rattle.gm_frontier.proofs.GatherLemmas.{gathered}
use Rattle.gm_frontier.proofs.level.Level.gather.Goals as goal

pub note_count-len-requires : goal.note_count-len-requires
note_count-len-requires g c =
    let (level, few) = gathered g.G.Game.rules g.met.G.Game.lawful c.args.place c.args.runs.now c.requires.tiles c.requires.small
    c.in_ok-push_runs.ensures.whole c.args.tables.now c.as_slice.result.now
    (c.as_slice.ensures.value ∙ c.child_tiers.ensures) c.in_ok-push_children.ensures.whole (joined c.new-parts.result.items)
    (joined c.push_runs.new.parts.items) (joined c.push_children.new.parts.items)
    (ap joined c.new-parts.ensures.items) c.in_ok-push_runs.ensures.notes c.in_ok-push_children.ensures.notes in
    let same : length (joined c.as_slice-2.result.now) ≡ length (joined c.push_children.new.parts.items) =
    ap (λ (parts : List (List NoteData)). length (joined parts)) c.as_slice-2.ensures.value in
    omega arith

pub invariant_of-result : goal.invariant_of-result
invariant_of-result g c =
    let (level, few) = gathered g.G.Game.rules g.met.G.Game.lawful c.args.place c.args.runs.now c.requires.tiles c.requires.small
    c.in_ok-push_runs.ensures.whole c.args.tables.now c.as_slice.result.now
    (c.as_slice.ensures.value ∙ c.child_tiers.ensures) c.in_ok-push_children.ensures.whole (joined c.new-parts.result.items)
    (joined c.push_runs.new.parts.items) (joined c.push_children.new.parts.items)
    (ap joined c.new-parts.ensures.items) c.in_ok-push_runs.ensures.notes c.in_ok-push_children.ensures.notes in
    record {
      level = level;
      small = c.requires.small;
      count = c.note_count-len.ensures ∙ ap (λ (parts : List (List NoteData)). length (joined parts)) c.as_slice-2.ensures.value;
    }

pub returns : goal.returns
returns g c =
    let (level, few) = gathered g.G.Game.rules g.met.G.Game.lawful c.args.place c.args.runs.now c.requires.tiles c.requires.small
    c.in_ok-push_runs.ensures.whole c.args.tables.now c.as_slice.result.now
    (c.as_slice.ensures.value ∙ c.child_tiers.ensures) c.in_ok-push_children.ensures.whole (joined c.new-parts.result.items)
    (joined c.push_runs.new.parts.items) (joined c.push_children.new.parts.items)
    (ap joined c.new-parts.ensures.items) c.in_ok-push_runs.ensures.notes c.in_ok-push_children.ensures.notes in
    (refl, level)
