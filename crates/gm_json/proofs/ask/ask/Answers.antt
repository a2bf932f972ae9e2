use Rattle.gm_json.proofs.Lower.{◌≡◌, ◌∙◌, Option, List, ℕ, false, subst, ap, IsAnswer}
use Rattle.std.proofs.Common.{Err}
use Rattle.gm_json.specs.declared.ask_error.AskError.TheVariants.{NotHeld}
use Rattle.gm_json.specs.Asking.{IsServed, IsServiceBroken}
use Rattle.gm_json.specs.inner.Feeds.{unread, ahead}
use Rattle.gm_json.specs.Turns.{answers_after}
use Rattle.gm_json.proofs.Stopping.{ahead_none}
use Rattle.gm_json.proofs.Plain.{served_too, from_first, plainly_broken, held_error}
use Rattle.gm_json.proofs.ask.ask.Goals as goal

pub returns-in-Ok-clause-ok : goal.returns-in-Ok-clause-ok
returns-in-Ok-clause-ok g c =
    let says = IsAnswer g.G.Game.rules g.G.Shown.shown g.G.Shown.move_shown c.args.asked c.args.tiers.now in
    subst (λ (r : Option (List ℕ)). IsServed says r (g.R.Read.remaining c.serve-served.new.input) (g.W.Write.contents c.args.output.now)
    (g.W.Write.contents c.serve-served.new.output))
    (ahead_none (unread c.begin.new.feed) (g.R.Read.remaining c.args.input.now) (c.begin.ensures.unread ∙ c.new-feed.ensures.unread))
    (served_too (answers_after false 0 says) says (from_first says) (ahead c.begin.new.feed (g.R.Read.remaining c.args.input.now))
    (g.R.Read.remaining c.serve-served.new.input) (g.W.Write.contents c.args.output.now) (g.W.Write.contents c.serve-served.new.output) c.in-Ok.ensures.ok)

pub returns-in-Err-clause-err : goal.returns-in-Err-clause-err
returns-in-Err-clause-err g c =
    let says = IsAnswer g.G.Game.rules g.G.Shown.shown g.G.Shown.move_shown c.args.asked c.args.tiers.now in
    subst (λ (r : Option (List ℕ)). IsServiceBroken says c.error_of.result r (g.R.Read.remaining c.serve-served.new.input)
    (g.W.Write.contents c.args.output.now) (g.W.Write.contents c.serve-served.new.output))
    (ahead_none (unread c.begin.new.feed) (g.R.Read.remaining c.args.input.now) (c.begin.ensures.unread ∙ c.new-feed.ensures.unread))
    (plainly_broken says c.in-Err.stop c.error_of.result c.serve-served.new.hand.number (unread c.serve-served.new.feed)
    (ahead c.begin.new.feed (g.R.Read.remaining c.args.input.now)) (g.R.Read.remaining c.serve-served.new.input) (g.W.Write.contents c.args.output.now)
    (g.W.Write.contents c.serve-served.new.output) c.error_of.ensures c.in-Err.ensures.turns c.in-Err.ensures.err)

pub returns-in-Err-clause-not_held : goal.returns-in-Err-clause-not_held
returns-in-Err-clause-not_held g c e =
    let same : c.error_of.result ≡ NotHeld = let is = e in cc in
    c.in-Err.ensures.not_held (ap (λ s. Err s) (held_error c.in-Err.stop c.error_of.result NotHeld c.error_of.ensures c.in-Err.ensures.turns same))
