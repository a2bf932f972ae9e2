use Rattle.gm_play.proofs.Lower.{refl, sym, subst, ◌∙◌, All, MoveValue, IsMoveValue, IsMoveOf, List, take_all, [], ◌≡◌, ℕ, ◌+◌, ◌<◌, ◌∷◌, ◌++◌, length, take, get_or, ap₂, take_more, All-push, Position, Rules}
use Rattle.gm_play.specs.Why.{AreExchangeRows, made_of, IsExchange, exchange_row}
use Rattle.std.proofs.lemmas.List.Elements.{All-nil}
use Rattle.std.proofs.lemmas.List.{map-append, append-nil}
use Rattle.std.proofs.lemmas.Grind.{flat_map-append}
use Rattle.gm_play.specs.declared.why.Exchange.{Exchange}
use Rattle.gm_play.proofs.why.why_text.Goals as goal

module _ (r : Rules) (shown : Position → List ℕ) (move_shown : Position → ℕ → List ℕ) (p : Position) where
  -- one more row
  rows_more : (moves : List MoveValue) (k : ℕ) (d : MoveValue) (x : Exchange) (old new : List ℕ) → k < length moves → AreExchangeRows r shown move_shown
      p (take k moves) old → x.made ≡ get_or moves k d
      → IsExchange r x → new ≡ old ++ exchange_row r shown move_shown p x → AreExchangeRows r shown move_shown p (take (k + 1) moves) new
  rows_more moves k d x old new inside h made is n =
      let row : Exchange → List ℕ = exchange_row r shown move_shown p in
      let these = h.exchanges in
      record {
        exchanges = these ++ x ∷ [];
        made = map-append made_of these (x ∷ []) ∙ ap₂ (λ (a : List MoveValue) (b : MoveValue). a ++ b ∷ []) h.made made ∙ sym (take_more moves k d inside);
        each = All-push (IsExchange r) these x h.each is;
        out_is = n ∙ ap₂ (λ (a b : List ℕ). a ++ b) h.out_is (sym (append-nil (row x))) ∙ sym (flat_map-append row these (x ∷ []));
      }

pub loop-x-init : goal.loop-x-init
loop-x-init g c = record { exchanges = []; made = refl; each = All-nil _; out_is = c.new-rows.ensures.items }

pub exchange_after-exchange-requires : goal.exchange_after-exchange-requires
exchange_after-exchange-requires g c =
    let found = c.moves_of-list.ensures in
    let same = c.as_slice-x-items.ensures.value in
    record {
      each = subst (All (IsMoveOf g.G.Game.rules c.args.known.now.position)) (sym same) found.each c.loop-x.x-index _ c.loop-x-test.true;
      value = subst (All (IsMoveValue g.G.Game.rules c.args.known.now.position)) (sym (same ∙ found.moves.are)) found.moves.values.each c.loop-x.x-index _
          c.loop-x-test.true;
    }

pub push_exchange-requires : goal.push_exchange-requires
push_exchange-requires g c = record {
  each = subst (λ (x : MoveValue). IsMoveOf g.G.Game.rules c.args.known.now.position x) (sym c.exchange_after-exchange.ensures.made)
      (subst (All (IsMoveOf g.G.Game.rules c.args.known.now.position)) (sym c.as_slice-x-items.ensures.value) c.moves_of-list.ensures.each c.loop-x.x-index _
      c.loop-x-test.true);
  exchange = c.exchange_after-exchange.ensures.exchange;
}

pub loop-x-preserved : goal.loop-x-preserved
loop-x-preserved g c =
    rows_more g.G.Game.rules g.G.Shown.shown g.G.Shown.move_shown c.args.known.now.position c.as_slice-x-items.result.now c.loop-x.x-index _
    c.exchange_after-exchange.result c.loop-x.rows.items c.push_exchange.new.rows.items c.loop-x-test.true
    c.loop-x.invariant c.exchange_after-exchange.ensures.made c.exchange_after-exchange.ensures.exchange c.in_ok-push_exchange.ensures

pub returns : goal.returns
returns g c =
    let r = g.G.Game.rules in
    let s = g.G.Shown.shown in
    let m = g.G.Shown.move_shown in
    let p = c.args.known.now.position in
    let found = c.moves_of-list.ensures.moves in
    record {
      position = p;
      read = (c.args.known.now.legal, refl);
      moves = found.list;
      values = found.values;
      best = found.best;
      rows = subst (λ (list : List MoveValue). AreExchangeRows r s m p list c.loop-x.rows.items)
          (take_all c.loop-x.x-index _ c.loop-x-test.false ∙ c.as_slice-x-items.ensures.value ∙ found.are) c.loop-x.invariant;
    }
