use Rattle.gm_page.proofs.Lower.{◌≡◌, false, sym, subst, ap, ◌∙◌, Data, has_float}
use Rattle.serde_json.specs.Data.{Members, object}
use Rattle.serde_json.proofs.Views.{view-Object}
use Rattle.gm_page.proofs.Rowing.{head_without}
use Rattle.gm_page.proofs.head.push_head.Goals as goal

pub push_script_line-requires : goal.push_script_line-requires
push_script_line-requires g c =
    subst (λ (d : Data). has_float d ≡ false) (sym (view-Object c.put_head.new.members ∙ ap (λ (ms : Members). object ms) c.in_ok-put_head.ensures))
    (head_without g.G.Game.rules.name g.G.Pictured.picture c.args.start.now c.args.whole)
