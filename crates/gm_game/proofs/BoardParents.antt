-- The parents of a canonical position, from the boards before its board, and the laws of a game on boards.
use Rattle.gm_game.proofs.Lower.{◌≡◌, ℕ, ◌≤◌, ◌<◌, ◌^◌, true, List, [], map, length, ◌⊎◌, inl, inr, refl, sym, ap, ◌∙◌, subst, arith, ◌↔◌, Position, at, IsGame, put_all}
use Rattle.std.proofs.lemmas.List.{length-map}
use Rattle.gm_game.specs.declared.limits.TheConstants.{PARENTS}
use Rattle.gm_game.specs.Rules.{IsAscending, IsParent}
use Rattle.std.specs.List.{Contains}
use Rattle.gm_game.specs.Boards.{BoardGame, position_of, board_of, least_index, least_image, rules_of, IsBoardGame, IsNumbered, IsSymmetric, IsBefore}
use Rattle.gm_game.proofs.Lists.{map_in, map_from}
use Rattle.gm_game.proofs.Putting.{put_all_ascending, put_all_from, put_all_later, put_all_few}
use Rattle.gm_game.proofs.BoardLaws.{legal_board, legal_below, board_back, position_legal, least_image_is, least_image_same, canonical_child_from, canonical_child_to, own_tier, image_child, canonical_board, canonical_legal, from_canonical, to_canonical}

is_parent : {B S : Type 0} (r : BoardGame B S) → IsBoardGame r → IsNumbered r → IsSymmetric r → (c : Position) (t : ℕ) (b : B)
    → (rules_of r).is_legal c ≡ true → (rules_of r).canonical c ≡ c → IsBefore r t (board_of r c) b → IsParent (rules_of r) c t (least_index r b)
is_parent r g n s c t b l k h =
    let x = least_image_is r s b h.legal in
    let le : r.legal (r.image x.0 b) ≡ true = s.keeps_legal x.0 b x.1 h.legal in
    let p = at t (least_index r b) in
    let ep : p ≡ position_of r (r.image x.0 b) = ap (λ (u : ℕ). at u (least_index r b)) (sym h.tier) ∙ x.2 in
    let eb : board_of r p ≡ r.image x.0 b = ap (board_of r) ep ∙ board_back r n _ le in
    let lp : (rules_of r).is_legal p ≡ true = subst (λ (q : Position). (rules_of r).is_legal q ≡ true) (sym ep) (position_legal r n _ le) in
    let y = image_child r g s b x.0 h.move.0 h.legal x.1 h.move.1 in (
      record {
        legal = lp;
        canonical = ap (least_image r) eb ∙ least_image_same r s b x.0 h.legal x.1 ∙ x.2 ∙ sym ep;
        unended = ap r.ended eb ∙ s.keeps_ended x.0 b x.1 h.legal ∙ h.unended;
      },
      canonical_child_to r g n p c lp y.0
          (subst (λ (a : _). Contains (r.moves a) y.0) (sym eb) y.1)
          (ap (λ (a : _). least_image r (r.play a y.0)) eb ∙ y.2 ∙ ap (least_image r) h.move.2 ∙ k),
    )

before_from : {B S : Type 0} (r : BoardGame B S) → IsBoardGame r → IsNumbered r → IsSymmetric r → (c : Position) (t i : ℕ)
    → IsParent (rules_of r) c t i → (b : B) × IsBefore r t (board_of r c) b × (least_index r b ≡ i)
before_from r g n s c t i h =
    let inner = h.0 in
    let b = r.board t i in
    let lb : r.legal b ≡ true = legal_board r (at t i) inner.legal in
    let tb : r.tier b ≡ t = own_tier r (at t i) inner.legal in
    let x = canonical_child_from r g n (at t i) c inner.legal h.1 in
    let ld : r.legal (r.play b x.0) ≡ true = g.play_legal b x.0 lb x.1 in
    let y = least_image_is r s (r.play b x.0) ld in
    let ec : board_of r c ≡ r.image y.0 (r.play b x.0) = ap (board_of r) (sym x.2 ∙ y.2) ∙ board_back r n _ (s.keeps_legal y.0 _ y.1 ld) in
    let z = s.keeps_moves y.0 b x.0 y.1 lb x.1 in (
      r.image y.0 b,
      record {
        legal = s.keeps_legal y.0 b y.1 lb;
        unended = s.keeps_ended y.0 b y.1 lb ∙ inner.unended;
        tier = s.keeps_tier y.0 b y.1 lb ∙ tb;
        move = (z.0, z.1, z.2 ∙ sym ec);
      },
      ap (λ (p : Position). p.index) (least_image_same r s b y.0 lb y.1 ∙ inner.canonical),
    )

-- the parents are the least indexes of the boards before
pub parents_are : {B S : Type 0} (r : BoardGame B S) → IsBoardGame r → IsNumbered r → IsSymmetric r → (c : Position) (t : ℕ) (befores : List B)
    → (rules_of r).is_legal c ≡ true → (rules_of r).canonical c ≡ c
    → ((b : B) → Contains befores b ↔ IsBefore r t (board_of r c) b)
    → (i : ℕ) → Contains (map (least_index r) befores) i ↔ IsParent (rules_of r) c t i
parents_are r g n s c t befores l k all i = (
  λ d. let x = map_in (least_index r) befores i d in
      subst (λ (j : ℕ). IsParent (rules_of r) c t j) x.2 (is_parent r g n s c t x.0 l k ((all x.0).0 x.1)),
  λ h. let x = before_from r g n s c t i h in
      subst (λ (j : ℕ). Contains (map (least_index r) befores) j) x.2 (map_from (least_index r) befores x.0 ((all x.0).1 x.1)),
)

-- so are the numbers of a list that puts them in order, once each
pub parents_listed : {B S : Type 0} (r : BoardGame B S) → IsBoardGame r → IsNumbered r → IsSymmetric r → (c : Position) (t : ℕ) (befores : List B)
    → (rules_of r).is_legal c ≡ true → (rules_of r).canonical c ≡ c
    → ((b : B) → Contains befores b ↔ IsBefore r t (board_of r c) b)
    → (xs : List ℕ) → xs ≡ put_all [] (map (least_index r) befores)
    → IsAscending xs × ((i : ℕ) → Contains xs i ↔ IsParent (rules_of r) c t i)
parents_listed r g n s c t befores l k all xs e = (
  subst (λ (ys : List ℕ). IsAscending ys) (sym e) (put_all_ascending [] (map (least_index r) befores) tt),
  λ i. (
    λ d. elim (put_all_from [] (map (least_index r) befores) i (subst (λ (ys : List ℕ). Contains ys i) e d)) [
      | inl f ↦ absurd (omega (arith, f.1))
      | inr f ↦ (parents_are r g n s c t befores l k all i).0 f
    ],
    λ h. subst (λ (ys : List ℕ). Contains ys i) (sym e) (put_all_later [] (map (least_index r) befores) i ((parents_are r g n s c t befores l k all i).1 h)),
  ),
)

-- the parents of the rules
listed : {B S : Type 0} (r : BoardGame B S) → IsBoardGame r → IsNumbered r → IsSymmetric r → (c : Position) (t : ℕ) → ((rules_of r).is_legal c ≡ true) ×
    ((rules_of r).canonical c ≡ c)
    → IsAscending ((rules_of r).parents c t) × ((i : ℕ) → Contains ((rules_of r).parents c t) i ↔ IsParent (rules_of r) c t i)
listed r g n s c t k =
    parents_listed r g n s c t (r.befores t (board_of r c)) k.0 k.1 (λ b. g.befores_exact t (board_of r c) b (legal_board r c k.0))
    ((rules_of r).parents c t) refl

parents_few : {B S : Type 0} (r : BoardGame B S) → IsBoardGame r → (c : Position) (t : ℕ) → (rules_of r).is_legal c ≡ true → length
    ((rules_of r).parents c t) ≤ PARENTS
parents_few r g c t l =
    let befores = r.befores t (board_of r c) in
    let few = g.befores_few t (board_of r c) (legal_board r c l) in
    let put = put_all_few [] (map (least_index r) befores) in
    let same = length-map befores (least_index r) in
    omega arith

-- a game on boards that is numbered and symmetric has the laws of a game
pub symmetric_is_game : {B S : Type 0} (r : BoardGame B S) → IsBoardGame r → IsNumbered r → IsSymmetric r → IsGame (rules_of r)
symmetric_is_game r g n s = record {
  name_length = g.name_length;
  name_text = g.name_text;
  moves_ascending = λ p l. g.moves_ascending _ (legal_board r p l);
  ended = λ p l. g.ended _ (legal_board r p l);
  unended = λ p l. g.unended _ (legal_board r p l);
  initial_legal = position_legal r n r.start g.start_legal;
  index_below = λ p l. legal_below r p l;
  tier_fits = λ p l. subst (λ (t : ℕ). t < 2 ^ 64) (own_tier r p l) (n.tier_fits _ (legal_board r p l));
  size_fits = λ p l. subst (λ (t : ℕ). r.size t < 2 ^ 64) (own_tier r p l) (n.size_fits _ (legal_board r p l));
  move_fits = λ p m l c. g.move_fits _ m (legal_board r p l) c;
  play_legal = λ p m l c. position_legal r n _ (g.play_legal _ m (legal_board r p l) c);
  play_tier = λ p m l c. subst (λ (t : ℕ). (r.tier (r.play (board_of r p) m) ≡ t) ⊎ Contains (r.child_tiers t) (r.tier (r.play (board_of r p) m)))
      (own_tier r p l) (g.play_tier _ m (legal_board r p l) c);
  child_rank = g.child_rank;
  child_tiers_ascending = g.child_tiers_ascending;
  canonical_twice = λ p l. let x = canonical_board r n s p l in
      ap (least_image r) x.2 ∙ least_image_same r s (board_of r p) x.0 (legal_board r p l) x.1;
  canonical_tier = λ p l. own_tier r p l;
  canonical_legal = λ p l. canonical_legal r n s p l;
  canonical_primitive = λ p l. let x = canonical_board r n s p l in
      ap r.ended x.2 ∙ s.keeps_ended x.0 _ x.1 (legal_board r p l);
  canonical_children = λ p c l. (from_canonical r g n s p c l, to_canonical r g n s p c l);
  parents_ascending = λ c t k. (listed r g n s c t k).0;
  parents_exact = λ c t i k. (listed r g n s c t k).1 i;
  moves_few = λ p l. g.moves_few _ (legal_board r p l);
  parents_few = λ c t k. parents_few r g c t k.0;
  child_tiers_few = g.child_tiers_few;
}
