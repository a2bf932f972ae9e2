use Rattle.gm_page.specs.Engines.{AreDigits}
use Rattle.gamesman.proofs.Lower.{subst, sym, IfOk-weaker, OutOfMemory}
use Rattle.gamesman.specs.Engines.{IsEngineFault, IsGamesPage}
use Rattle.gamesman.proofs.Answering.{text_told}
use Rattle.gamesman.proofs.engine.page_of_games.Goals as goal

pub returns : goal.returns
returns g c =
    let are = subst AreDigits (sym c.as_slice.ensures.value) c.in_ok-digits.ensures.digits in
    text_told c.games_text-page.result (λ v. v.items) (λ e. OutOfMemory e) IsGamesPage IsEngineFault _ _ c.put_text.result (λ e. tt) (λ e. tt)
    (IfOk-weaker c.games_text-page.result _ _ (λ v is. (c.as_slice.result.now, are, is)) c.games_text-page.ensures) c.put_text.ensures.put c.put_text.ensures.refused
