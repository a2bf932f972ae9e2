use Rattle.gm_find.proofs.Lower.{◌∙◌, true, sym, ◌≡◌}
use Rattle.std.proofs.Common.{false, rules}
use Rattle.std.proofs.lemmas.Bool.{not-false}
use Rattle.gm_find.proofs.Keys.{key_found}
use Rattle.gm_find.proofs.Searching.{found_old, found_new}
use Rattle.gm_find.proofs.search.find.Goals as goal

pub returns-in_ok-push-in-Ok-true : goal.returns-in_ok-push-in-Ok-true
returns-in_ok-push-in-Ok-true g c left h =
    let is : c.in-Ok-true.field-0 ≡ true = search rules in
    rw c.in_ok-push-in-Ok-true.ensures.items
    (found_new g.G.Game.rules c.args.found.now.keys c.args.waiting.now.items left c.args.c h c.insert.new.self.keys (rw is at c.in-Ok-true.ensures.keys))

pub returns-in-Ok-false : goal.returns-in-Ok-false
returns-in-Ok-false g c left h =
    let is : c.in-Ok-false.field-0 ≡ false = search rules in
    rw (rw is at c.in-Ok-false.ensures.keys) (found_old g.G.Game.rules c.args.found.now.keys c.args.waiting.now.items left c.args.c h
    (key_found c.args.c.tier c.args.c.index c.args.found.now.keys (not-false _ (sym (sym is ∙ c.in-Ok-false.ensures.added)))))
