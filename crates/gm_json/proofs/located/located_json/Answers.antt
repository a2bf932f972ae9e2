use Rattle.gm_json.proofs.Lower.{◌++◌, [], List, ℕ, false, codes, ap, ◌∙◌, member, no_members, members_text}
use Rattle.gm_json.specs.Extras.{canonical_tree, place_members}
use Rattle.gm_json.proofs.Writing.{opened}
use Rattle.gm_json.proofs.located.located_json.Goals as goal

pub returns : goal.returns
returns g c =
    let shown = g.G.Shown.shown in
    let l = c.args.l in
    let o1 = c.push_bytes.new.out.items in
    let tail = member (codes "canonical") (canonical_tree shown l.canonical) no_members in
    c.in_ok-push_bytes-2.ensures ∙ c.in_ok-push_canonical.ensures no_members ∙ c.in_ok-push_place.ensures tail
    ∙ opened [] o1 123 (members_text false (place_members shown l.position tail))
    (c.in_ok-push_bytes.ensures ∙ ap (λ (t : List ℕ). t ++ codes "{") c.new-line.ensures.items)
