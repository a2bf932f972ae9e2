use Rattle.gm_frontier.proofs.Lower.{IfOk-from_err, ℕ, List, ◌++◌, get_or, refl, sym, ap, subst, ◌∙◌, Contains, flat_map, take_all, contains_none, joined, IsChildPart, notes_of_tier}
use Rattle.std.proofs.lemmas.List.Elements.{Contains-get_or}
use Rattle.std.proofs.Common.{append-nil}
use Rattle.gm_frontier.proofs.PieceLemmas.{joined_more, all_more}
use Rattle.gm_frontier.proofs.part.push_children.Goals as goal

pub child_part-requires : goal.child_part-requires
child_part-requires g c = c.requires (get_or c.args.tiers.now c.loop-tier.tier-index 0)
    (Contains-get_or c.args.tiers.now c.loop-tier.tier-index 0 c.loop-tier-test.true)

pub loop-tier-init : goal.loop-tier-init
loop-tier-init g c = record { notes = sym (append-nil (joined c.args.parts.now.items)); whole = λ tier h. absurd (contains_none tier h) }

pub returns-clause-notes : goal.returns-clause-notes
returns-clause-notes g c =
    c.loop-tier.invariant.notes
    ∙ ap (λ (l : List ℕ). joined c.args.parts.now.items ++ flat_map (notes_of_tier c.args.tables.now c.args.place) l)
    (take_all c.loop-tier.tier-index c.args.tiers.now c.loop-tier-test.false)

pub returns-clause-whole : goal.returns-clause-whole
returns-clause-whole g c =
    subst (λ (l : List ℕ). (tier : ℕ) → Contains l tier → IsChildPart g.G.Game.rules c.args.place tier (notes_of_tier c.args.tables.now c.args.place tier))
    (take_all c.loop-tier.tier-index c.args.tiers.now c.loop-tier-test.false) c.loop-tier.invariant.whole

pub loop-tier-preserved : goal.loop-tier-preserved
loop-tier-preserved g c =
    let tiers = c.args.tiers.now in
    let i = c.loop-tier.tier-index in
    let notes_in = notes_of_tier c.args.tables.now c.args.place in
    record {
      notes = joined_more notes_in tiers i (get_or tiers i 0) 0 (joined c.args.parts.now.items) (joined c.loop-tier.parts.items)
          (joined c.push_part.new.parts.items) c.child_part.result
          c.loop-tier-test.true refl c.loop-tier.invariant.notes c.in_ok-push_part.ensures c.child_part.ensures.notes;
      whole = all_more (λ t. IsChildPart g.G.Game.rules c.args.place t (notes_in t)) tiers i (get_or tiers i 0)
          0 c.loop-tier-test.true refl c.loop-tier.invariant.whole
          (subst (IsChildPart g.G.Game.rules c.args.place (get_or tiers i 0)) c.child_part.ensures.notes c.child_part.ensures.whole);
    }

pub returns-in_err-push_part-clause-notes : goal.returns-in_err-push_part-clause-notes
returns-in_err-push_part-clause-notes g c = IfOk-from_err c.from_residual.result _ c.from_residual.ensures.0

pub returns-in_err-push_part-clause-whole : goal.returns-in_err-push_part-clause-whole
returns-in_err-push_part-clause-whole g c = IfOk-from_err c.from_residual.result _ c.from_residual.ensures.0
