use Rattle.gm_json.proofs.Lower.{◌++◌, List, ℕ, true, codes, ap, refl, ◌∙◌, on_ok_weaker, text, compact_text}
use Rattle.serde_json.specs.Data.{null}
use Rattle.gm_json.proofs.Writing.{value_after}
use Rattle.gm_json.proofs.why.push_answer.Goals as goal

pub returns-in-Some : goal.returns-in-Some
returns-in-Some g c =
    let d = text (g.G.Shown.move_shown c.args.p c.in-Some.number) in
    let old = c.args.out.now.items in
    rw c.in-Some.is (on_ok_weaker c.push_text.result
    (λ e. value_after old c.push_key.new.out.items c.push_text.new.out.items true (codes "bestMove") (compact_text d) d c.in_ok-push_key.ensures
    (e ∙ ap (λ (t : List ℕ). c.push_key.new.out.items ++ compact_text (text t)) (c.as_slice.ensures.value ∙ c.move_text.ensures)) refl)
    c.push_text.ensures)

pub returns-in-None : goal.returns-in-None
returns-in-None g c =
    let old = c.args.out.now.items in
    rw c.in-None.is (on_ok_weaker c.push_bytes.result
    (λ e. value_after old c.push_key.new.out.items c.push_bytes.new.out.items true (codes "bestMove") (codes "null") null c.in_ok-push_key.ensures e refl)
    c.push_bytes.ensures)
