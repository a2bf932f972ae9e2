-- The reason for a refusal, from the reason why a step has failed.
use Rattle.gm_engine.proofs.Lower.{◌≡◌, ◌<◌, ℕ, List, Some, length, slice_index_or, inr, subst, sym, ◌∙◌, Solved, Rules, TableData, Width, IsTrueTier, AreTrueTiers, AreDisordered, IsNotNext, HaveTables}
use Rattle.std.proofs.Common.{slice_get, ◌≢◌}
use Rattle.std.proofs.lemmas.List.Elements.{Contains-get_or}
use Rattle.gm_table.specs.Tables.{IsTable}
use Rattle.gm_tiers.specs.Orders.{IsTierOrder}
use Rattle.gm_engine.specs.Records.{farthest}
use Rattle.gm_engine.specs.Refusing.{IsTierUnchecked, IsUnchecked, IsUnheld, IsUnadded, IsFar, IsTierUnsolved, IsUnsolved, AreUnsolved, IsUnsolvedGame}
use Rattle.gm_engine.specs.declared.refusal.Refusal.{Refusal}
use Rattle.gm_engine.specs.declared.refusal.Refusal.TheVariants.{Memory, Order, Records, TooFar, Room, Position as NoPosition, NotSolved}
use Rattle.gm_engine.proofs.Ordering.{disordered_more, disordered_last, total}

-- one reason follows from another one
pub unheld : (A B : Type 0) → (A → B) → (e : Refusal) → IsUnheld A e → IsUnheld B e
unheld A B so Memory why = tt
unheld A B so Order why = so why
unheld A B so Records why = absurd why
unheld A B so TooFar why = absurd why
unheld A B so Room why = absurd why
unheld A B so NoPosition why = absurd why
unheld A B so NotSolved why = absurd why

module _ (r : Rules) (w : Width) where
  -- if the bytes of a tier are refused, so are all bytes that they are a part of
  pub unchecked : (tiers all : List ℕ) (entries : List TableData) (tier : ℕ) (bytes : List ℕ) → (AreTrueTiers r w tiers all → IsTrueTier r w tier bytes)
      → (IsNotNext r entries tier → AreDisordered r tiers) → (e : Refusal) → IsTierUnchecked r w entries tier bytes e → IsUnchecked r w tiers all e
  unchecked tiers all entries tier bytes is order Memory why = tt
  unchecked tiers all entries tier bytes is order Order why = order why
  unchecked tiers all entries tier bytes is order Records why = λ known. why (is known)
  unchecked tiers all entries tier bytes is order TooFar why = why
  unchecked tiers all entries tier bytes is order Room why = why
  unchecked tiers all entries tier bytes is order NoPosition why = why
  unchecked tiers all entries tier bytes is order NotSolved why = why

  -- a record of a true table whose remoteness is too great is that of a position
  pub far : (tier : ℕ) (t : TableData) → IsTable r t → t.tier ≡ tier → (index : ℕ) (s : Solved) → slice_get t.records index ≡ Some (Some s) → farthest w < s.remoteness
      → IsFar r w tier
  far tier t is same index s there more =
      let (canonical, value, near) = is.is_true.each index (Some s) there in
      subst (IsFar r w) same (index, s.value, s.remoteness, canonical, value, more)

  -- if the records of a table are refused, so is the tier
  pub unadded : (entries : List TableData) (tier : ℕ) (t : TableData) → IsTable r t → t.tier ≡ tier → (e : Refusal) → IsUnadded w t.records e
      → IsTierUnsolved r w entries tier e
  unadded entries tier t is same Memory why = tt
  unadded entries tier t is same TooFar (index, s, there, more) = far tier t is same index s there more
  unadded entries tier t is same Order why = absurd why
  unadded entries tier t is same Records why = absurd why
  unadded entries tier t is same Room why = absurd why
  unadded entries tier t is same NoPosition why = absurd why
  unadded entries tier t is same NotSolved why = absurd why

  -- a tier is refused after others: for their order
  pub unsolved_before : (solved : List ℕ) (tier room : ℕ) (e : Refusal) → IsUnheld (AreDisordered r solved) e → IsUnsolved r w solved tier room e
  unsolved_before solved tier room Memory why = tt
  unsolved_before solved tier room Order why = disordered_more r solved tier why
  unsolved_before solved tier room Records why = absurd why
  unsolved_before solved tier room TooFar why = absurd why
  unsolved_before solved tier room Room why = absurd why
  unsolved_before solved tier room NoPosition why = absurd why
  unsolved_before solved tier room NotSolved why = absurd why

  -- a tier is refused after others: for its own sake
  pub unsolved_here : (entries : List TableData) (solved : List ℕ) (tier room : ℕ) → HaveTables entries solved → (e : Refusal)
      → IsTierUnsolved r w entries tier e → IsUnsolved r w solved tier room e
  unsolved_here entries solved tier room have Memory why = tt
  unsolved_here entries solved tier room have Order why = disordered_last r entries solved tier have why
  unsolved_here entries solved tier room have Records why = absurd why
  unsolved_here entries solved tier room have TooFar why = why
  unsolved_here entries solved tier room have Room why = absurd why
  unsolved_here entries solved tier room have NoPosition why = absurd why
  unsolved_here entries solved tier room have NotSolved why = absurd why

  -- a tier in its order is refused only as too far
  pub unsolved_one : (entries : List TableData) (tiers : List ℕ) (k : ℕ) → k < length tiers → (IsNotNext r entries (slice_index_or tiers k 0) → ⊥)
      → (e : Refusal) → IsTierUnsolved r w entries (slice_index_or tiers k 0) e → AreUnsolved r w tiers e
  unsolved_one entries tiers k within next Memory why = tt
  unsolved_one entries tiers k within next Order why = absurd (next why)
  unsolved_one entries tiers k within next Records why = absurd why
  unsolved_one entries tiers k within next TooFar why = (slice_index_or tiers k 0, Contains-get_or tiers k 0 within, why)
  unsolved_one entries tiers k within next Room why = absurd why
  unsolved_one entries tiers k within next NoPosition why = absurd why
  unsolved_one entries tiers k within next NotSolved why = absurd why

  -- a game is refused: the room is not that of its records
  pub unroomed_game : (places room : ℕ) (tiers bytes : List ℕ) → IsTierOrder r tiers → AreTrueTiers r w tiers bytes → (e : Refusal) → e ≡ Room
      → length bytes ≢ room → IsUnsolvedGame r w places room e
  unroomed_game places room tiers bytes order true_ e is other =
      subst (IsUnsolvedGame r w places room) (sym is) (tiers, order, inr (λ same. other (total r w tiers bytes true_ ∙ sym same)))
