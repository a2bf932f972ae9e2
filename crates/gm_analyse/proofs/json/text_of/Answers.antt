use Rattle.gm_analyse.proofs.Lower.{◌≡◌, ◌==◌, ℕ, Option, arith, subst, sym, ap, ◌∙◌, take, name_text}
use Rattle.std.specs.List.{position}
use Rattle.std.specs.Option.{unwrap_or}
use Rattle.std.specs.Str.{IsUtf8}
use Rattle.std.proofs.lemmas.Result.{MatchResult-at_ok}
use Rattle.gm_analyse.proofs.Names.{name_is_text, name_ends, ok_unless}
use Rattle.gm_analyse.proofs.json.text_of.Goals as goal

pub unwrap-requires : goal.unwrap-requires
unwrap-requires c =
    let name = c.args.name.now in
    let end : c.unwrap_or-end.result ≡ unwrap_or (position (λ b. b == 0) name) 16 = c.unwrap_or-end.ensures ∙ ap (λ (o : Option ℕ). unwrap_or o 16)
    c.first_zero.ensures.value in
    let cut : take c.unwrap_or-end.result name ≡ name_text name = ap (λ (n : ℕ). take n name) end ∙ name_ends name 16 (omega arith) in
    ok_unless c.from_utf8.result _ _ c.from_utf8.ensures.cases (λ e h. h.0 (subst IsUtf8 (sym cut) (name_is_text name c.requires)))

pub returns : goal.returns
returns c =
    let name = c.args.name.now in
    let end : c.unwrap_or-end.result ≡ unwrap_or (position (λ b. b == 0) name) 16 = c.unwrap_or-end.ensures ∙ ap (λ (o : Option ℕ). unwrap_or o 16)
    c.first_zero.ensures.value in
    let cut : take c.unwrap_or-end.result name ≡ name_text name = ap (λ (n : ℕ). take n name) end ∙ name_ends name 16 (omega arith) in
    let text = MatchResult-at_ok {r = c.from_utf8.result} _ _ c.unwrap.result c.unwrap.ensures c.from_utf8.ensures.cases in
    text.0 ∙ cut
