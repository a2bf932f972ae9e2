-- The conditions of each refusal.
use Rattle.std.specs.Prelude.{◌≡◌, ◌≢◌, ◌≤◌, ◌<◌, ◌^◌, ◌⊎◌, ◌++◌, ◌∷◌, [], true, ℕ, List, Option, Some, Err, length, map, take, slice_get}
use Rattle.std.specs.List.{Contains, sum}
use Rattle.gm_game.specs.declared.limits.TheConstants.{TIER_SIZE}
use Rattle.gm_game.specs.declared.position.Position.{Position}
use Rattle.gm_game.specs.declared.position.Value.{Value}
use Rattle.gm_game.specs.declared.position.Solved.{Solved}
use Rattle.gm_game.specs.Rules.{Rules, at, IsCanonical}
use Rattle.gm_game.specs.Values.{HasValue}
use Rattle.gm_table.specs.Tables.{TableData, IsHeld, AreHeld}
use Rattle.gm_table.specs.Solving.{AreDeliveries}
use Rattle.gm_tiers.specs.Orders.{IsTierOrder}
use Rattle.gm_tiers.specs.Search.{search_of}
use Rattle.gm_tiers.specs.declared.tier_error.TierError.{TierError}
use Rattle.gm_play.specs.Places.{IsAt}
use Rattle.gm_json.specs.Asking.{AreAnswers, lines_of}
use Rattle.gm_engine.specs.Records.{IsTrueTier, AreTrueTiers, room, farthest}
use Rattle.gm_engine.specs.declared.width.Width.{Width}
use Rattle.gm_engine.specs.Saying.{Says}
use Rattle.gm_engine.specs.declared.refusal.Refusal.{Refusal}
use Rattle.gm_engine.specs.declared.refusal.Refusal.TheVariants.{Memory, Order, Records, TooFar, Room, Position as NoPosition, NotSolved}

-- a tier can't come after these: it has too many indexes, or one of its child tiers is not among them
abbrev pub IsEarly : Rules → List ℕ → ℕ → Type 0
IsEarly r before tier = (TIER_SIZE < r.tier_size tier) ⊎ (((child : ℕ) → Contains (r.child_tiers tier) child → Contains before child) → ⊥)

-- one of these tiers can't come after those before it
abbrev pub AreDisordered : Rules → List ℕ → Type 0
AreDisordered r tiers = (k : ℕ) × (tier : ℕ) × (slice_get tiers k ≡ Some tier) × IsEarly r (take k tiers) tier

-- a tier can't be solved or checked from these tables: it has too many indexes, or one of its child tiers has no table
abbrev pub IsNotNext : Rules → List TableData → ℕ → Type 0
IsNotNext r entries tier = (TIER_SIZE < r.tier_size tier) ⊎ (AreHeld r entries tier → ⊥)

-- these tiers have tables
abbrev pub HaveTables : List TableData → List ℕ → Type 0
HaveTables entries tiers = (tier : ℕ) → Contains tiers tier → IsHeld entries tier

-- this number of items is refused if there is less room
abbrev pub IsRoomRefusal : ℕ → ℕ → Refusal → Type 0
IsRoomRefusal number room Room = room < number
IsRoomRefusal number room _ = ⊥

-- the tiers of the game have no order: the search for them finds too many, or one that is too large
abbrev pub IsUnordered : Rules → Refusal → Type 0
IsUnordered r Memory = Unit {0}
IsUnordered r Order = (e : TierError) × (search_of r r.initial.tier ≡ Err e)
IsUnordered r _ = ⊥

-- the tiers of the game have no order, or there is not enough room for them
abbrev pub IsUnlisted : Rules → ℕ → Refusal → Type 0
IsUnlisted r room Room = (order : List ℕ) × IsTierOrder r order × (room < length order)
IsUnlisted r room e = IsUnordered r e

-- why bytes are refused as the records of a tier, by the tables that are held
abbrev pub IsTierUnchecked : Rules → Width → List TableData → ℕ → List ℕ → Refusal → Type 0
IsTierUnchecked r width entries tier bytes Memory = Unit {0}
IsTierUnchecked r width entries tier bytes Order = IsNotNext r entries tier
IsTierUnchecked r width entries tier bytes Records = IsTrueTier r width tier bytes → ⊥
IsTierUnchecked r width entries tier bytes _ = ⊥

-- bytes are refused as the records of these tiers only if they are not the true ones, and the order of the tiers only if it is wrong
abbrev pub IsUnchecked : Rules → Width → List ℕ → List ℕ → Refusal → Type 0
IsUnchecked r width tiers bytes Memory = Unit {0}
IsUnchecked r width tiers bytes Order = AreDisordered r tiers
IsUnchecked r width tiers bytes Records = AreTrueTiers r width tiers bytes → ⊥
IsUnchecked r width tiers bytes _ = ⊥

-- true records are never refused as records, and the order of their tiers only if it is wrong
abbrev pub IsUnheld : Type 0 → Refusal → Type 0
IsUnheld Wrong Memory = Unit {0}
IsUnheld Wrong Order = Wrong
IsUnheld Wrong _ = ⊥

-- the remoteness of a canonical position of the tier is too great for a record
abbrev pub IsFar : Rules → Width → ℕ → Type 0
IsFar r width tier = (index : ℕ) × (value : Value) × (remoteness : ℕ) × IsCanonical r (at tier index) × HasValue r (at tier index) value remoteness
    × (farthest width < remoteness)

-- a record is refused only if its remoteness is too great
abbrev pub IsUnadded : Width → List (Option Solved) → Refusal → Type 0
IsUnadded width records Memory = Unit {0}
IsUnadded width records TooFar = (index : ℕ) × (s : Solved) × (slice_get records index ≡ Some (Some s)) × (farthest width < s.remoteness)
IsUnadded width records _ = ⊥

-- a tier is refused as too far only if the remoteness of a position is too great
abbrev pub IsTierUnsolved : Rules → Width → List TableData → ℕ → Refusal → Type 0
IsTierUnsolved r width entries tier TooFar = IsFar r width tier
IsTierUnsolved r width entries tier e = IsUnheld (IsNotNext r entries tier) e

-- a tier is refused as too far only if the remoteness of a position is too great, and the order only if it is wrong with this tier at its end; the room is
-- refused only if it is not that of the tier, or if the number of deliveries is too large
abbrev pub IsUnsolved : Rules → Width → List ℕ → ℕ → ℕ → Refusal → Type 0
IsUnsolved r width solved tier places TooFar = IsFar r width tier
IsUnsolved r width solved tier places Room = (places ≢ room r width tier) ⊎ ((number : ℕ) × AreDeliveries r tier number × (2 ^ 63 ≤ number))
IsUnsolved r width solved tier places e = IsUnheld (AreDisordered r (solved ++ tier ∷ [])) e

-- the tiers are refused only if the remoteness of a position of one of them is too great
abbrev pub AreUnsolved : Rules → Width → List ℕ → Refusal → Type 0
AreUnsolved r width tiers Memory = Unit {0}
AreUnsolved r width tiers TooFar = (tier : ℕ) × Contains tiers tier × IsFar r width tier
AreUnsolved r width tiers _ = ⊥

-- a game is refused only if its tiers have no order, if the remoteness of a position is too great, or if the room is not that of its tiers and their records
abbrev pub IsUnsolvedGame : Rules → Width → ℕ → ℕ → Refusal → Type 0
IsUnsolvedGame r width places bytes TooFar = (tiers : List ℕ) × IsTierOrder r tiers × AreUnsolved r width tiers TooFar
IsUnsolvedGame r width places bytes Room = (tiers : List ℕ) × IsTierOrder r tiers × ((places < length tiers) ⊎ (bytes ≢ sum (map (room r width) tiers)))
IsUnsolvedGame r width places bytes e = IsUnordered r e

-- the reasons why lines have no answers: the tier of a legal position has no table
abbrev pub IsNotHeldRefusal : Rules → List TableData → Refusal → Type 0
IsNotHeldRefusal r entries Memory = Unit {0}
IsNotHeldRefusal r entries NotSolved = (p : Position) × (r.is_legal p ≡ true) × (IsHeld entries p.tier → ⊥)
IsNotHeldRefusal r entries _ = ⊥

-- lines are refused only if the order of the tiers is wrong, if a legal position is of none of them, or if the answers take more room
abbrev pub AreLinesRefused : Rules → (Position → List ℕ) → (Position → ℕ → List ℕ) → ℕ → List ℕ → List ℕ → ℕ → Refusal → Type 0
AreLinesRefused r shown move_shown bits tiers lines room Memory = Unit {0}
AreLinesRefused r shown move_shown bits tiers lines room Order = AreDisordered r tiers
AreLinesRefused r shown move_shown bits tiers lines room NotSolved = (p : Position) × (r.is_legal p ≡ true) × (Contains tiers p.tier → ⊥)
AreLinesRefused r shown move_shown bits tiers lines room Room = (answers : List ℕ) × AreAnswers (Says r shown move_shown bits tiers) 1 (lines_of lines) answers
    ×
    (room < length answers)
AreLinesRefused r shown move_shown bits tiers lines room _ = ⊥

-- no canonical position has this index of the tier, or there is not enough room for its text
abbrev pub IsUnshown : Rules → (Position → List ℕ) → ℕ → ℕ → ℕ → Refusal → Type 0
IsUnshown r shown tier index room NoPosition = (p : Position) → IsAt r tier index p → ⊥
IsUnshown r shown tier index room Room = (p : Position) × IsAt r tier index p × (room < length (shown p))
IsUnshown r shown tier index room _ = ⊥
