use Rattle.gm_page.proofs.Lower.{◌≡◌, ◌++◌, ℕ, List, refl, subst, flat_map, head_tree, script_line, rules}
use Rattle.gm_page.specs.Pages.{page_front, page_back}
use Rattle.gm_page.proofs.Paging.{parts_of}
use Rattle.gm_page.proofs.Reaching.{listing_held}
use Rattle.gm_page.proofs.page.page_text.Goals as goal

pub push_rows-requires : goal.push_rows-requires
push_rows-requires g c =
    let start = c.args.start.now in
    listing_held g.G.Game.rules start.position c.args.limit g.met.G.Game.lawful start.legal c.in_ok-list.list c.in_ok-list.ensures

pub is_whole-whole-requires : goal.is_whole-whole-requires
is_whole-whole-requires g c =
    let start = c.args.start.now in
    λ k d l. (listing_held g.G.Game.rules start.position c.args.limit g.met.G.Game.lawful start.legal c.in_ok-list.list c.in_ok-list.ensures k d l).0

pub returns : goal.returns
returns g c =
    let r = g.G.Game.rules in
    let picture = g.G.Pictured.picture in
    let start = c.args.start.now in
    let whole = c.is_whole-whole.result in
    let head = script_line (head_tree r.name picture (g.G.Shown.shown start.position) whole) in
    let rows = c.in_ok-push_rows.ensures in
    let shown_is : c.as_slice.result.now ≡ g.G.Shown.shown start.position = search rules in
    let started = subst (λ (t : List ℕ). c.push_head.new.page.items ≡ c.push_front.new.page.items ++ script_line (head_tree r.name picture t whole)) shown_is
    c.in_ok-push_head.ensures in
    record {
      start = start.position;
      read = (start.legal, refl);
      all = c.in_ok-list.list;
      listing = c.in_ok-list.ensures;
      lines = record {
        whole = whole;
        is_whole = c.is_whole-whole.ensures;
        rows = rows.0;
        are_rows = rows.1;
        out_is = parts_of page_front head (flat_map script_line rows.0) (page_back c.args.digits.now) c.new-page.result.items
            c.push_front.new.page.items c.push_head.new.page.items c.push_rows.new.page.items c.push_back.new.page.items c.new-page.ensures.items
            c.in_ok-push_front.ensures started rows.2 c.in_ok-push_back.ensures;
      };
    }
