use Rattle.gamesman.proofs.Lower.{List, ℕ, ap, ◌∙◌, IfOk-weaker}
use Rattle.gm_caption.specs.declared.caption.Caption.{Caption}
use Rattle.gm_page.specs.declared.puzzles.Puzzle.{Puzzle}
use Rattle.gm_page.specs.Puzzles.{listed_sheet}
use Rattle.gamesman.specs.Listed.{title_of, sheet_caption}
use Rattle.gamesman.proofs.sheet.ordered_sheet.Goals as goal

pub returns : goal.returns
returns c =
    let request = c.args.request in
    let puzzles = c.as_slice-puzzles.result.now in
    let title = title_of request.title in
    IfOk-weaker c.listed_sheet.result _ _ (λ v h. record {
      listed = c.put_in_order.new.puzzles.items;
      order = c.in_ok-put_in_order.ensures;
      out_is = h ∙ ap (λ (t : List ℕ). listed_sheet t c.as_slice-legends.result.now c.sheet_caption.result puzzles) c.title_of-title.ensures
          ∙ ap (λ (t : List ℕ). listed_sheet title t c.sheet_caption.result puzzles) c.as_slice-legends.ensures.value
          ∙ ap (λ (caption : Caption). listed_sheet title c.args.parts.now.legends.items caption puzzles) c.sheet_caption.ensures
          ∙ ap (λ (ps : List Puzzle). listed_sheet title c.args.parts.now.legends.items (sheet_caption request) ps) c.as_slice-puzzles.ensures.value;
    }) c.listed_sheet.ensures
