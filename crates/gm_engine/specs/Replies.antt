-- The answers of the exports: a number, or a refusal with its reason.
use Rattle.std.specs.Prelude.{◌≡◌, ⊤, ℕ, ◌<◌, ◌+◌, ◌⊎◌, List, length, take}
use Rattle.gm_game.specs.declared.position.Position.{Position}
use Rattle.gm_table.specs.Solving.{AreDeliveries}
use Rattle.gm_tiers.specs.Orders.{IsTierOrder}
use Rattle.gm_play.specs.Places.{IsAt}
use Rattle.gm_json.specs.Asking.{AreAnswers, lines_of}
use Rattle.gm_engine.specs.Games.{PlayedGame}
use Rattle.gm_engine.specs.Records.{IsTrueTier, AreTrueTiers, bytes_of}
use Rattle.gm_engine.specs.Saying.{Says}
use Rattle.gm_engine.specs.Refusing.{IsUnlisted, IsUnchecked, IsUnsolved, IsUnsolvedGame, AreLinesRefused, IsUnshown}
use Rattle.gm_engine.specs.declared.request.Request.{Request}
use Rattle.gm_engine.specs.declared.request.Request.TheVariants.{Width, Size, Order as Tiers, Game, Tier, Check, Lines, Text}
use Rattle.gm_engine.specs.declared.refusal.Refusal.{Refusal}
use Rattle.gm_engine.specs.declared.refusal.Refusal.TheVariants.{Memory, Order, Records, TooFar, Room, Position as NoPosition, NotSolved}

-- the first number that is a refusal; it is the answer if there is no such game
abbrev pub refused : ℕ
refused = 18446744073709551360

-- the numbers of the refusals
abbrev pub refusal_number : Refusal → ℕ
refusal_number Memory = 1
refusal_number Order = 2
refusal_number Records = 3
refusal_number TooFar = 4
refusal_number Room = 5
refusal_number NoPosition = 6
refusal_number NotSolved = 7

-- the answer is a number with the first property, or a refusal for a reason with the second
abbrev pub Replies : (ℕ → Type 0) → (Refusal → Type 0) → ℕ → Type 0
Replies Holds Refuses result = ((result < refused) × Holds result) ⊎ ((e : Refusal) × (result ≡ refused + refusal_number e) × Refuses e)

-- the first n numbers, for the answer n, are the tiers of the game, child tiers first
abbrev pub IsOrder : PlayedGame → List ℕ → List ℕ → ℕ → Type 0
IsOrder g before after = Replies (λ n. IsTierOrder g.rules (take n after)) (IsUnlisted g.rules (length before))

-- the first n numbers, for the answer n, are the tiers of the game, child tiers first, and the bytes are their true records
abbrev pub IsSolvedGame : PlayedGame → List ℕ → List ℕ → List ℕ → List ℕ → ℕ → Type 0
IsSolvedGame g places room order out = Replies (λ n. IsTierOrder g.rules (take n order) × AreTrueTiers g.rules g.width (take n order) out)
    (IsUnsolvedGame g.rules g.width (length places) (length room))

-- the bytes are the true records of the tier, and the answer is the number of its deliveries
abbrev pub IsSolved : PlayedGame → List ℕ → ℕ → List ℕ → List ℕ → ℕ → Type 0
IsSolved g solved tier before after = Replies (λ n. IsTrueTier g.rules g.width tier after × AreDeliveries g.rules tier n)
    (IsUnsolved g.rules g.width solved tier (length before))

-- the bytes are the true records of the tiers
abbrev pub IsChecked : PlayedGame → List ℕ → List ℕ → ℕ → Type 0
IsChecked g tiers records = Replies (λ n. (n ≡ 0) × AreTrueTiers g.rules g.width tiers records) (IsUnchecked g.rules g.width tiers records)

-- the first n bytes, for the answer n, are the answers to the lines
abbrev pub IsAskAnswered : PlayedGame → ℕ → List ℕ → List ℕ → List ℕ → List ℕ → ℕ → Type 0
IsAskAnswered g bits tiers lines before after = Replies (λ n. AreAnswers (Says g.rules g.shown g.move_shown bits tiers) 1 (lines_of lines) (take n after))
    (AreLinesRefused g.rules g.shown g.move_shown bits tiers lines (length before))

-- the first n bytes, for the answer n, are the text of the canonical position with this index of the tier
abbrev pub IsText : PlayedGame → ℕ → ℕ → List ℕ → List ℕ → ℕ → Type 0
IsText g tier index before after = Replies (λ n. (p : Position) × IsAt g.rules tier index p × (take n after ≡ g.shown p))
    (IsUnshown g.rules g.shown tier index (length before))

-- the records that the host gives with a request are those of the tiers that it names
abbrev pub AreGiven : PlayedGame → Request → Type 0
AreGiven g Width = ⊤
AreGiven g (Size tier) = ⊤
AreGiven g (Tiers alloc) = ⊤
AreGiven g (Game alloc) = ⊤
AreGiven g (Tier alloc solved records tier) = AreTrueTiers g.rules g.width solved.now records.now
AreGiven g (Check alloc tiers records) = ⊤
AreGiven g (Lines alloc solved records asked lines) = AreTrueTiers g.rules g.width solved.now records.now
AreGiven g (Text tier index) = ⊤

-- this is the reply to a request, with the tiers and the bytes before and after
abbrev pub IsReply : PlayedGame → Request → List ℕ → List ℕ → List ℕ → List ℕ → ℕ → Type 0
IsReply g Width places order room out result = result ≡ bytes_of g.width
IsReply g (Size tier) places order room out result = result ≡ g.rules.tier_size tier
IsReply g (Tiers alloc) places order room out result = IsOrder g places order result
IsReply g (Game alloc) places order room out result = IsSolvedGame g places room order out result
IsReply g (Tier alloc solved records tier) places order room out result = IsSolved g solved.now tier room out result
IsReply g (Check alloc tiers records) places order room out result = IsChecked g tiers.now records.now result
IsReply g (Lines alloc solved records asked lines) places order room out result = IsAskAnswered g asked solved.now lines.now room out result
IsReply g (Text tier index) places order room out result = IsText g tier index room out result
