use Rattle.gm_play.proofs.Lower.{◌≡◌, ◌<◌, ◌≤◌, ℕ, List, ◌∷◌, [], length, map, take, get_or, sym, ap, ◌∙◌, subst, arith, Contains, take_more, refl, take_all, length-take-le, All-push, MoveValue, IsMoveValue, Contains-get_or}
use Rattle.std.proofs.lemmas.List.{map-append, length-map}
use Rattle.gm_play.proofs.move_values.values_of.Goals as goal

-- there is room for one more
room : (list : List MoveValue) (items moves : List ℕ) (k : ℕ) → map (λ (x : MoveValue). x.number) list ≡ take k items → k < length items → items ≡ moves →
    length moves ≤ 128 → length list < 128
room list items moves k listed less same few =
    let long : length list ≡ length (take k items) = sym (length-map list (λ (x : MoveValue). x.number)) ∙ ap length listed in
    let cut : length (take k items) ≡ k = length-take-le k items (omega arith) in
    let all : length items ≡ length moves = ap length same in
    omega arith

pub loop-number-preserved : goal.loop-number-preserved
loop-number-preserved g c =
    let items = c.as_slice-number-items.result.now in
    let k = c.loop-number.number-index in
    let list = c.loop-number.list.items in
    let x = c.value_of.result in
    record {
      listed = rw (
        c.push.ensures.items,
        map-append (λ (y : MoveValue). y.number) list (x ∷ []),
        c.loop-number.invariant.listed,
        take_more items k 0 c.loop-number-test.true,
        c.value_of.ensures.number,
      ) refl;
      each = rw c.push.ensures.items
          (All-push (IsMoveValue g.G.Game.rules c.args.known.now.position) list x c.loop-number.invariant.each c.value_of.ensures.value);
    }

pub value_of-requires : goal.value_of-requires
value_of-requires g c =
    let items = c.as_slice-number-items.result.now in
    let k = c.loop-number.number-index in
    let same : items ≡ g.G.Game.rules.moves c.args.known.now.position = c.as_slice-number-items.ensures.value ∙ c.moves-moves.ensures in
    subst (λ (l : List ℕ). Contains l (get_or items k 0)) same (Contains-get_or items k 0 c.loop-number-test.true)

pub push-requires : goal.push-requires
push-requires g c =
    let few = g.met.G.Game.lawful.moves_few c.args.known.now.position c.args.known.now.legal in
    let same = c.as_slice-number-items.ensures.value ∙ c.moves-moves.ensures in
    (omega arith, room c.loop-number.list.items _ _ c.loop-number.number-index c.loop-number.invariant.listed c.loop-number-test.true same few)

pub returns : goal.returns
returns g c = record {
  listed = c.loop-number.invariant.listed ∙ take_all c.loop-number.number-index c.as_slice-number-items.result.now c.loop-number-test.false ∙
      c.as_slice-number-items.ensures.value ∙ c.moves-moves.ensures;
  each = c.loop-number.invariant.each;
}
