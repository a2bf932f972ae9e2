use Rattle.gm_game.proofs.Lower.{◌≡◌, sym, ap, subst, ◌∙◌}
use Rattle.std.proofs.Common.{Ok}
use Rattle.std.proofs.lemmas.Fmt.{parse-decimal, IsAscii-decimal}
use Rattle.std.specs.Result.{result_ok}
use Rattle.std.specs.Str.{IsUtf8}
use Rattle.std.proofs.lemmas.Str.{IsUtf8-from_ascii}
use Rattle.gm_game.proofs.text.parsed.Goals as goal

pub returns-in-Ok : goal.returns-in-Ok
returns-in-Ok c n small e =
    let r : c.parse.result ≡ Ok n = parse-decimal 64 n c.in-Ok.digits.now c.parse.result small small (c.in-Ok.ensures.cases.0 ∙ sym e)
    c.parse.ensures.value.0 in
    let ok = c.ok.ensures.value in
    ok ∙ ap result_ok r

pub returns-in-Err : goal.returns-in-Err
returns-in-Err c n small e =
    absurd (c.in-Err.ensures.cases.0 (subst IsUtf8 e (IsUtf8-from_ascii _ (IsAscii-decimal n small))))
