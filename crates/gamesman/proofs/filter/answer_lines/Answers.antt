use Rattle.gamesman.proofs.Lower.{◌≡◌, ℕ, ◌≤◌, ◌<◌, true, false, List, ◌∷◌, ◌++◌, [], length, Option, refl, sym, ap, subst, ◌∙◌, rules, Appends, err_from_is_err_and, game_spec, IsTextFor, IsOfNone}
use Rattle.std.specs.Prelude.{◌==◌}
use Rattle.std.specs.Io.Iter.{bytes_remaining}
use Rattle.gm_play.specs.Dialogue.{without_return}
use Rattle.gm_json.specs.Asking.{kept_bytes}
use Rattle.gm_json.proofs.Splitting.{some_of, short_of, full_of, unequal}
use Rattle.gamesman.specs.Filters.{IsLineFault}
use Rattle.gamesman.proofs.Filtering.{Amid, none_of, begins, one_byte, byte_kept, byte_past, line_done, line_fails, all_done, last_done, last_fails}
use Rattle.gamesman.proofs.filter.answer_lines.Goals as goal

pub loop-byte-init : goal.loop-byte-init
loop-byte-init g c =
    let IsText = IsTextFor (game_spec g.G.Game.rules g.G.Shown.shown g.G.Shown.move_shown g.G.Pictured.picture) c.args.question in
    let all : bytes_remaining g.I.Read.remaining c.into_iter-byte-iterator.result ≡ g.I.Read.remaining c.args.reader =
    ap (bytes_remaining g.I.Read.remaining) c.into_iter-byte-iterator.ensures.into_iter_gives ∙ c.bytes-byte-items.ensures in
    subst (λ (o : Option (List ℕ)). Amid IsText 1 c.new-line.result.items (g.I.Read.remaining c.args.reader) o (g.O.Write.contents c.args.output.now)
    (g.O.Write.contents c.args.output.now)) (sym all) (begins IsText _ _ 1 c.new-line.result.items refl c.new-line.ensures)

pub loop-byte-preserved-then-byte-eq10 : goal.loop-byte-preserved-then-byte-eq10
loop-byte-preserved-then-byte-eq10 g c =
    let IsText = IsTextFor (game_spec g.G.Game.rules g.G.Shown.shown g.G.Shown.move_shown g.G.Pictured.picture) c.args.question in
    let b = c.in-Ok.byte in
    let here : (b == 10) ≡ true = search rules in
    let w1 = g.O.Write.contents c.loop-byte.output in
    let w2 = g.O.Write.contents c.answer_line.new.output in
    line_done IsText c.loop-byte.number c.loop-byte.line.items b _ _ _ _ w1 c.loop-byte.invariant
    (one_byte _ _ c.in-Some.byte b c.in-Ok.is c.in-Some.ensures.steps) w2 c.clear.new.self.items c.saturating_add-number.result here c.clear.ensures
    c.saturating_add-number.ensures
    (subst (λ (l : List ℕ). (out : List ℕ) × IsText (without_return l) out × Appends w1 w2 out) c.as_slice.ensures.value c.in_ok-answer_line.ensures.ok)

pub loop-byte-preserved-then-not-is_full : goal.loop-byte-preserved-then-not-is_full
loop-byte-preserved-then-not-is_full g c =
    let IsText = IsTextFor (game_spec g.G.Game.rules g.G.Shown.shown g.G.Shown.move_shown g.G.Pictured.picture) c.args.question in
    let b = c.in-Ok.byte in
    let kept = c.loop-byte.line.items in
    let other : (b == 10) ≡ false = search rules in
    let short : length kept < kept_bytes = short_of _ _ _ c.is_full.ensures.value c.is_full.ensures.fits c.if-not-is_full.true in
    let grown : c.push.new.self.items ≡ kept ++ b ∷ [] = search rules in
    byte_kept IsText c.loop-byte.number kept b _ _ _ _ _ c.loop-byte.invariant (one_byte _ _ c.in-Some.byte b c.in-Ok.is c.in-Some.ensures.steps)
    c.push.new.self.items other short grown

pub loop-byte-preserved : goal.loop-byte-preserved
loop-byte-preserved g c =
    let IsText = IsTextFor (game_spec g.G.Game.rules g.G.Shown.shown g.G.Shown.move_shown g.G.Pictured.picture) c.args.question in
    let b = c.in-Ok.byte in
    let kept = c.loop-byte.line.items in
    let other : (b == 10) ≡ false = unequal b 10 c.if-byte-eq10.false in
    let full : kept_bytes ≤ length kept = full_of _ _ _ c.is_full.ensures.value c.is_full.ensures.fits c.if-not-is_full.false in
    byte_past IsText c.loop-byte.number kept b _ _ _ _ _ c.loop-byte.invariant (one_byte _ _ c.in-Some.byte b c.in-Ok.is c.in-Some.ensures.steps) kept other
    full refl

pub returns-in_err-answer_line : goal.returns-in_err-answer_line
returns-in_err-answer_line g c =
    let IsText = IsTextFor (game_spec g.G.Game.rules g.G.Shown.shown g.G.Shown.move_shown g.G.Pictured.picture) c.args.question in
    let IsNone = IsOfNone g.G.Game.rules g.G.Shown.shown g.G.Shown.move_shown in
    let b = c.in-Ok.byte in
    let here : (b == 10) ≡ true = search rules in
    let w1 = g.O.Write.contents c.loop-byte.output in
    let w2 = g.O.Write.contents c.answer_line.new.output in
    let fault = c.in_err-answer_line.field-0.0 in
    let number = c.loop-byte.number in
    let q = err_from_is_err_and c.from_residual.result c.from_residual.ensures.1 in
    rw (q.1, q.2) (line_fails IsText number c.loop-byte.line.items b _ _ _ _ w1 c.loop-byte.invariant
    (one_byte _ _ c.in-Some.byte b c.in-Ok.is c.in-Some.ensures.steps) IsNone w2 fault here
    (subst (λ (l : List ℕ). IsLineFault IsText IsNone l number w1 w2 fault) c.as_slice.ensures.value c.in_err-answer_line.ensures.err))

pub returns-in_err-answer_line-2 : goal.returns-in_err-answer_line-2
returns-in_err-answer_line-2 g c =
    let IsText = IsTextFor (game_spec g.G.Game.rules g.G.Shown.shown g.G.Shown.move_shown g.G.Pictured.picture) c.args.question in
    let IsNone = IsOfNone g.G.Game.rules g.G.Shown.shown g.G.Shown.move_shown in
    let kept = c.loop-byte.line.items in
    let some : 0 < length kept = some_of _ _ c.is_empty.ensures c.if-not-is_empty.true in
    let w1 = g.O.Write.contents c.loop-byte.output in
    let w2 = g.O.Write.contents c.answer_line-then-not-is_empty.new.output in
    let fault = c.in_err-answer_line-2.field-0.0 in
    let number = c.loop-byte.number in
    let q = err_from_is_err_and c.from_residual-in_err-answer_line-2.result c.from_residual-in_err-answer_line-2.ensures.1 in
    rw (q.1, q.2) (last_fails IsText number kept _ _ _ w1 c.loop-byte.invariant c.in-None.ensures.steps some IsNone w2 fault
    (subst (λ (l : List ℕ). IsLineFault IsText IsNone l number w1 w2 fault) c.as_slice-then-not-is_empty.ensures.value
    c.in_err-answer_line-2.ensures.err))

pub returns-in_ok-answer_line-2 : goal.returns-in_ok-answer_line-2
returns-in_ok-answer_line-2 g c =
    let IsText = IsTextFor (game_spec g.G.Game.rules g.G.Shown.shown g.G.Shown.move_shown g.G.Pictured.picture) c.args.question in
    let kept = c.loop-byte.line.items in
    let some : 0 < length kept = some_of _ _ c.is_empty.ensures c.if-not-is_empty.true in
    let w1 = g.O.Write.contents c.loop-byte.output in
    let w2 = g.O.Write.contents c.answer_line-then-not-is_empty.new.output in (
      refl,
      last_done IsText c.loop-byte.number kept _ _ _ w1 c.loop-byte.invariant c.in-None.ensures.steps some w2
          (subst (λ (l : List ℕ). (out : List ℕ) × IsText (without_return l) out × Appends w1 w2 out) c.as_slice-then-not-is_empty.ensures.value
          c.in_ok-answer_line-2.ensures.ok),
    )

pub returns-else-not-is_empty : goal.returns-else-not-is_empty
returns-else-not-is_empty g c =
    let IsText = IsTextFor (game_spec g.G.Game.rules g.G.Shown.shown g.G.Shown.move_shown g.G.Pictured.picture) c.args.question in
    let kept = c.loop-byte.line.items in
    let none : length kept ≡ 0 = none_of _ _ c.is_empty.ensures c.if-not-is_empty.false in
    (refl, all_done IsText c.loop-byte.number kept _ _ _ _ c.loop-byte.invariant c.in-None.ensures.steps none)
