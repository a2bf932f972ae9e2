-- The tallies of all pieces of a level, as they grow by one.
use Rattle.gm_frontier.proofs.Lower.{◌≡◌, ℕ, ◌+◌, ◌<◌, inl, inr, List, [], ◌∷◌, ◌++◌, map, length, refl, sym, ap, subst, ◌∙◌, arith, Contains, div_ceil, Rules, contains_none, LevelData, TallyData, numbers_from}
use Rattle.gm_frontier.specs.inner.Tallies.{AreTallies, AreAllTallies, IsTallyOf, IsTallyTile}
use Rattle.std.proofs.lemmas.List.Elements.{Contains-push_cases}
use Rattle.std.proofs.lemmas.List.{map_push}
use Rattle.gm_frontier.proofs.TalliedLemmas.{numbers_push, tallies_in_order}

-- the tallies of the first k pieces, in order
pub record AreFirst (level : LevelData) (n width k : ℕ) (tallies : List TallyData) : Type 0 where
  pub alike : (t : TallyData) → Contains tallies t → (t.place ≡ level.place) × (t.n ≡ n) × (t.width ≡ width)
  pub pieces : map (λ t. t.piece) tallies ≡ numbers_from 0 k

pub none_first : (level : LevelData) (n width k : ℕ) (tallies : List TallyData) → k ≡ 0 → tallies ≡ [] → AreFirst level n width k tallies
none_first level n width k tallies zero none = subst (AreFirst level n width k) (sym none) (record {
  alike = λ t h. absurd (contains_none t h);
  pieces = ap (numbers_from 0) (sym zero);
})

pub one_more : (r : Rules) (level : LevelData) (n width k : ℕ) (old new : List TallyData) (t : TallyData) → AreFirst level n width k old
    → IsTallyOf r level k n width t → new ≡ old ++ t ∷ [] → AreFirst level n width (k + 1) new
one_more r level n width k old new t first is e = subst (AreFirst level n width (k + 1)) (sym e) (record {
  alike = λ u h. elim (Contains-push_cases old t u h) [
    | inl i ↦ first.alike u i
    | inr q ↦ subst (λ (v : TallyData). (v.place ≡ level.place) × (v.n ≡ n) × (v.width ≡ width)) q (is.place, is.n, is.width)
  ];
  pieces = map_push (λ (u : TallyData). u.piece) old t ∙ ap (λ (ks : List ℕ). ks ++ t.piece ∷ []) first.pieces
      ∙ ap (λ (p : ℕ). numbers_from 0 k ++ p ∷ []) (let p = is.piece in let q : t.piece ≡ 0 + k = omega arith in q) ∙ sym (numbers_push 0 k);
})

-- when all pieces have theirs
pub all_first : (level : LevelData) (n width k : ℕ) (tallies : List TallyData) → k ≡ div_ceil (length level.notes) n → AreFirst level n width k tallies
    → AreAllTallies level n width tallies
all_first level n width k tallies all first = record { alike = first.alike; pieces = first.pieces ∙ ap (numbers_from 0) all }

-- the tallies of all pieces count into each tile
pub all_count : (r : Rules) (level : LevelData) (n width lo hi : ℕ) (tallies : List TallyData) → 0 < n → AreAllTallies level n width tallies
    → IsTallyTile (r.tier_size level.place.tier) width lo hi → AreTallies r level lo hi tallies
all_count r level n width lo hi tallies some all tile = record {
  n = n;
  width = width;
  some_notes = some;
  alike = all.alike;
  pieces = tallies_in_order (div_ceil (length level.notes) n) tallies all.pieces;
  range = inr tile;
}
