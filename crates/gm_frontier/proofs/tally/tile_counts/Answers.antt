use Rattle.gm_frontier.proofs.Lower.{rules, ◌≡◌, ◌∙◌, ℕ, ◌+◌, ◌<◌, ◌/◌, List, length, get_or, subst, Contains, contains_first, contains_later, NoteData, tile_count}
use Rattle.gm_frontier.proofs.TallyLemmas.{counted_more, room_left}
use Rattle.gm_frontier.proofs.tally.tile_counts.Goals as goal

-- what the invariant says of the pair in hand and those after it
Within : ℕ → ℕ → List (NoteData × ℕ) → Type 0
Within width n pairs = (pair : NoteData × ℕ) → Contains pairs pair → pair.1 / width < n

Counted : ℕ → ℕ → List ℕ → List (NoteData × ℕ) → List (NoteData × ℕ) → Type 0
Counted width n counts all pairs = (k : ℕ) → k < n → get_or counts k 0 + tile_count width k pairs ≡ tile_count width k all

pub count_index-requires-clause-room : goal.count_index-requires-clause-room
unfolding Within Counted
count_index-requires-clause-room g c =
    let n = c.args.tiles in
    let pair : NoteData × ℕ = (c.in-Some.field-0-0, c.in-Some.parent) in
    let within = subst (Within c.args.width n) c.in-Some.ensures.steps c.loop-parent.invariant.within in
    let counted = subst (Counted c.args.width n c.loop-parent.counts.items c.args.pairs) c.in-Some.ensures.steps c.loop-parent.invariant.counted in
    room_left c.args.width c.loop-parent.counts.items pair c.next.new.self c.args.pairs n (within pair (contains_first pair c.next.new.self))
    counted c.requires.few

pub loop-parent-preserved : goal.loop-parent-preserved
unfolding Within Counted
loop-parent-preserved g c =
    let n = c.args.tiles in
    let pair : NoteData × ℕ = (c.in-Some.field-0-0, c.in-Some.parent) in
    let within = subst (Within c.args.width n) c.in-Some.ensures.steps c.loop-parent.invariant.within in
    let counted = subst (Counted c.args.width n c.loop-parent.counts.items c.args.pairs) c.in-Some.ensures.steps c.loop-parent.invariant.counted in
    let length_is : length c.loop-parent.counts.items ≡ n = search rules in
    record {
      same = c.count_index.ensures.length ∙ c.loop-parent.invariant.same;
      within = λ x l. within x (contains_later pair x c.next.new.self l);
      counted = counted_more c.args.width c.loop-parent.counts.items c.count_index.new.counts.items pair c.next.new.self c.args.pairs n length_is
          (within pair (contains_first pair c.next.new.self)) c.count_index.ensures.counts counted;
    }
