use Rattle.gm_page.proofs.Lower.{ℕ, List, ◌++◌, ◌∙◌, sym, subst, ap, All, Found}
use Rattle.std.proofs.lemmas.Result.{IfOk-weaker}
use Rattle.std.proofs.lemmas.List.Elements.{All-contains_itself}
use Rattle.std.specs.Option.{is_some}
use Rattle.std.specs.List.{AllZip}
use Rattle.gm_caption.specs.declared.caption.Caption.TheVariants.{BothSides}
use Rattle.gm_find.proofs.Telling.{chosen_in}
use Rattle.gm_draw.specs.GameSpecs.{game_spec}
use Rattle.gm_page.specs.declared.puzzles.Puzzle.{Puzzle}
use Rattle.gm_page.specs.Puzzles.{IsKnownFound, IsPuzzleFor, legend_of, listed_sheet}
use Rattle.gm_page.proofs.puzzles.found_sheet.Goals as goal

pub puzzles_of-requires : goal.puzzles_of-requires
puzzles_of-requires g c =
    let r = g.G.Game.rules in
    let xs = c.in_ok-found.found.items in
    subst (All (IsKnownFound r c.args.known.now.tables.now)) (sym c.as_slice.ensures.value)
    (λ k d inside. (
      c.in_ok-found.ensures.each k d inside,
      c.args.known.now.held _ (chosen_in r c.args.sought (is_some c.args.reached) c.args.choice c.args.known.now.tiers.now xs c.in_ok-found.ensures.chosen _
          (All-contains_itself xs k d inside)).1,
    ))

pub returns : goal.returns
returns g c =
    let xs = c.in_ok-found.found.items in
    let picture = g.G.Pictured.picture in
    let spec = game_spec g.G.Game.rules g.G.Shown.shown g.G.Shown.move_shown picture in
    let ps = c.in_ok-puzzles.puzzles.items in
    let legends = c.as_slice-2.result.now in
    let puzzles = c.as_slice-3.result.now in
    IfOk-weaker c.listed_sheet.result _ _ (λ v h. record {
      found = xs;
      are_found = c.in_ok-found.ensures.chosen;
      sheet = record {
        puzzles = ps;
        are_puzzles = subst (λ (l : List Found). AllZip (IsPuzzleFor spec) l ps) c.as_slice.ensures.value c.in_ok-puzzles.ensures;
        out_is = h ∙ ap (λ (t : List ℕ). listed_sheet t legends BothSides puzzles) c.picture.ensures.title
            ∙ ap (λ (l : List ℕ). listed_sheet picture.title l BothSides puzzles)
            (c.as_slice-2.ensures.value ∙ c.in_ok-push_legend.ensures ∙ ap (λ (t : List ℕ). t ++ legend_of spec) c.new-legends.ensures.items)
            ∙ ap (λ (l : List Puzzle). listed_sheet picture.title (legend_of spec) BothSides l) c.as_slice-3.ensures.value;
      };
    }) c.listed_sheet.ensures
