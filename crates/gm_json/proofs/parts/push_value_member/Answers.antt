use Rattle.gm_json.proofs.Lower.{◌≡◌, List, ℕ, true, sym, ap, subst, ◌∙◌, on_ok_weaker, quoted, string, value_word}
use Rattle.std.specs.List.{list_all}
use Rattle.gm_json.specs.inner.Parts.{is_clear}
use Rattle.gm_json.proofs.Writing.{value_after, word_clear}
use Rattle.gm_json.proofs.parts.push_value_member.Goals as goal

pub push_clear-requires : goal.push_clear-requires
push_clear-requires c = subst (λ (w : List ℕ). list_all is_clear w ≡ true) (sym (c.as_bytes.ensures.value ∙ c.word_of.ensures)) (word_clear c.args.value)

pub returns : goal.returns
returns c =
    on_ok_weaker c.push_clear.result
    (λ e. value_after c.args.out.now.items c.push_key.new.out.items c.push_clear.new.out.items c.args.later c.args.key.now (quoted c.as_bytes.result.now)
    (string (value_word c.args.value))
    c.in_ok-push_key.ensures e (ap quoted (c.as_bytes.ensures.value ∙ c.word_of.ensures)))
    c.push_clear.ensures
