-- The first bytes of a tier's file, and the name of the game in them.
use Rattle.gm_tierdb.proofs.Lower.{◌≡◌, ◌≤◌, ℕ, List, length, take, drop, sym, ap, ◌∙◌, take-take}
use Rattle.gm_tierdb.specs.inner.Owners.{owner_of}
use Rattle.std.proofs.lemmas.List.{drop-take}

-- the name is in the first 24 bytes
in_head : (text : List ℕ) → drop 8 (take 24 text) ≡ owner_of text
in_head text = drop-take 8 16 text

pub owner_kept : (head text : List ℕ) → 24 ≤ length head → take (length head) text ≡ head → owner_of text ≡ owner_of head
owner_kept head text long is =
    let first : take 24 head ≡ take 24 text = ap (take 24) (sym is) ∙ take-take 24 (length head) text long in
    sym (in_head text) ∙ ap (drop 8) (sym first) ∙ in_head head
