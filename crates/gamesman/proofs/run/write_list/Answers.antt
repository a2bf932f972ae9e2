use Rattle.gamesman.proofs.Lower.{OutOfMemory, IsMemoryFault, false, true, ◌≡◌}
use Rattle.gamesman.specs.Listing.{listed_lines}
use Rattle.gamesman.proofs.Answering.{text_told}
use Rattle.gamesman.proofs.run.write_list.Goals as goal

pub returns-in-Titles : goal.returns-in-Titles
returns-in-Titles g c =
    rw c.in-Titles.is (text_told c.games_text.result (λ v. v.items) (λ e. OutOfMemory e) (λ out. out ≡ listed_lines false c.args.all) IsMemoryFault
    _ _ c.put_text.result (λ e. tt) (λ e. tt) c.games_text.ensures.lines c.put_text.ensures.put c.put_text.ensures.refused)

pub returns-in-Json : goal.returns-in-Json
returns-in-Json g c =
    rw c.in-Json.is (text_told c.games_text-in-Json.result (λ v. v.items) (λ e. OutOfMemory e) (λ out. out ≡ listed_lines true c.args.all) IsMemoryFault
    _ _ c.put_text-in-Json.result (λ e. tt) (λ e. tt) c.games_text-in-Json.ensures.lines c.put_text-in-Json.ensures.put c.put_text-in-Json.ensures.refused)
