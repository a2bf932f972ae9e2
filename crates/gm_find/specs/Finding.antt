-- Positions that are sought.
use Rattle.std.specs.Prelude.{◌≡◌, ◌-◌, ℕ, zero, suc, List, [], ◌∷◌, map, length, Bool, true, IsTrue, Option, None, Some, ◌<◌, ◌≤◌, ◌==◌, if◌then◌else◌, false}
use Rattle.std.specs.List.{Contains, flat_map, range_with_len}
use Rattle.gm_game.specs.declared.position.Position.{Position}
use Rattle.gm_game.specs.declared.position.Value.TheVariants.{Win, Lose, Draw, Tie}
use Rattle.gm_game.specs.Rules.{Rules, at, IsCanonical}
use Rattle.gm_game.specs.Values.{IsTrueValue, HasValue}
use Rattle.gm_game.specs.declared.position.Phase.{Phase}
use Rattle.gm_game.specs.declared.position.Phase.TheVariants.{WinLose, Ties}
use Rattle.gm_game.specs.declared.position.Solved.{Solved}
use Rattle.gm_game.specs.declared.position.Value.{Value}
use Rattle.gm_play.specs.BestMoves.{wanted_from}
use Rattle.gm_game.specs.Children.{canonical_children_of}
use Rattle.gm_find.specs.declared.only.Aim.{Aim}
use Rattle.gm_find.specs.declared.only.Aim.TheVariants.{Keep, WinIn}
use Rattle.gm_find.specs.declared.sought.Sought.{Sought}
use Rattle.gm_find.specs.declared.sought.Span.{Span}
use Rattle.gm_find.specs.Lists.{AreThose}
use Rattle.gm_find.specs.Tries.{HasLeastTries}
use Rattle.gm_find.specs.Reaching.{IsReachedByPlay}

-- the positions of a tier, by ascending index
abbrev pub positions_in : Rules → ℕ → List Position
positions_in r tier = map (at tier) (range_with_len 0 (r.tier_size tier))

-- the positions of some tiers, tier by tier
abbrev pub all_positions : Rules → List ℕ → List Position
all_positions r tiers = flat_map (positions_in r) tiers

-- the value of a result that keeps this one for the side that moves
abbrev pub kept_by : Value → Value
kept_by Lose = Win
kept_by Draw = Draw
kept_by Tie = Tie
kept_by Win = Lose

-- after this move the side that made it still has the value
abbrev pub KeepsValue : Rules → Value → Position → ℕ → Type 0
KeepsValue r v p m = (k : ℕ) × HasValue r (r.play p m) (kept_by v) k

-- this move wins in n moves, itself included
abbrev pub WinsIn : Rules → ℕ → Position → ℕ → Type 0
WinsIn r n p m = (k : ℕ) × HasValue r (r.play p m) Lose k × (suc k ≡ n)

-- the move achieves an aim
abbrev pub Achieves : Rules → Aim → Position → ℕ → Type 0
Achieves r (Keep v) p m = KeepsValue r v p m
Achieves r (WinIn n) p m = WinsIn r n p m

-- a move to a position of this value achieves the aim
abbrev pub IsAchievedBy : Aim → Solved → Type 0
IsAchievedBy (Keep v) s = s.value ≡ wanted_from v
IsAchievedBy (WinIn n) s = (s.value ≡ Lose) × (suc s.remoteness ≡ n)

-- of the moves of p exactly one achieves the aim
abbrev pub HasOnlyMove : Rules → Aim → Position → Type 0
HasOnlyMove r a p = (m : ℕ) × AreThose (Achieves r a p) (r.moves p) (m ∷ [])

-- c is the canonical position of the result of a move that achieves the aim
abbrev pub IsAchieved : Rules → Aim → Position → Position → Type 0
IsAchieved r a p c = (m : ℕ) × Contains (r.moves p) m × Achieves r a p m × (r.canonical (r.play p m) ≡ c)

-- the moves of p that achieve the aim lead to one position, up to symmetry, and there is such a move
abbrev pub HasOnlyResult : Rules → Aim → Position → Type 0
HasOnlyResult r a p = (c : Position) × IsAchieved r a p c × ((d : Position) → IsAchieved r a p d → d ≡ c)

-- there is no position yet, or it is this one
abbrev pub AgreesWith : Option Position → Position → Type 0
AgreesWith None c = Unit {0}
AgreesWith (Some d) c = d ≡ c

-- exactly one move achieves the aim; if only distinct moves count, exactly one up to symmetry
abbrev pub HasOnly : Rules → Bool → Aim → Position → Type 0
HasOnly r false a p = HasOnlyMove r a p
HasOnly r true a p = HasOnlyResult r a p

-- p is a win, and exactly one move wins in the fewest moves; if only distinct moves count, exactly one up to symmetry
abbrev pub HasOnlyFastest : Rules → Bool → Position → Type 0
HasOnlyFastest r d p = (n : ℕ) × HasValue r p Win n × HasOnly r d (WinIn n) p

-- there are at least n moves; where distinct moves are asked for, at least n up to symmetry
abbrev pub HasMoves : Rules → Bool → ℕ → Position → Type 0
HasMoves r false n p = n ≤ length (r.moves p)
HasMoves r true n p = n ≤ length (canonical_children_of r p)

-- of the moves of q, each after which the other side wins in n leads to a position with this property: each longest defence
abbrev pub AfterDefence : Rules → ℕ → (Position → Type 0) → Position → Type 0
AfterDefence r n P q = (e : ℕ) → Contains (r.moves q) e → HasValue r (r.play q e) Win n → P (r.play q e)

-- what counts at a turn of the winner who wins in n: a move that keeps the win, or, if only the fastest count, one that wins in n
abbrev pub line_aim : Bool → ℕ → Aim
line_aim false n = Keep Win
line_aim true n = WinIn n

-- from p, a win in n, the winner has one move that counts, and so on after it and each longest defence; at the last turn any move will do
abbrev pub IsOnlyWin : Rules → Bool → Bool → ℕ → Position → Type 0
IsOnlyWin r d f zero p = Unit {0}
IsOnlyWin r d f (suc zero) p = Unit {0}
IsOnlyWin r d f (suc (suc zero)) p = Unit {0}
IsOnlyWin r d f (suc (suc (suc n))) p = HasOnly r d (line_aim f (suc (suc (suc n)))) p
    × ((m : ℕ) → Contains (r.moves p) m → Achieves r (line_aim f (suc (suc (suc n)))) p m → AfterDefence r (suc n) (IsOnlyWin r d f (suc n)) (r.play p m))

-- the move e of the loser, if the winner wins in n after it, leads to a win as said above
abbrev pub IsOnlyDefence : Rules → Bool → Bool → ℕ → Position → ℕ → Type 0
IsOnlyDefence r d f n q e = HasValue r (r.play q e) Win n → IsOnlyWin r d f n (r.play q e)

-- the move m of the winner, who wins in n, if it counts, leads to a loss after each longest defence of which the winner wins as said above
abbrev pub IsOnlyAfter : Rules → Bool → Bool → ℕ → Position → ℕ → Type 0
IsOnlyAfter r d f n p m = Achieves r (line_aim f n) p m → AfterDefence r (n - 2) (IsOnlyWin r d f (n - 2)) (r.play p m)

-- a win in which, against every longest defence, at each turn of the winner but the last exactly one move keeps the win, or, if only the fastest count, wins in the
-- fewest moves
abbrev pub IsOnlyLine : Rules → Bool → Bool → Position → Type 0
IsOnlyLine r d f p = (n : ℕ) × HasValue r p Win n × IsOnlyWin r d f n p

-- whether a remoteness is asked for: any is, or those of a span
abbrev pub IsAskedFor : Option Span → ℕ → Type 0
IsAskedFor None n = Unit {0}
IsAskedFor (Some s) n = (s.least ≤ n) × (n ≤ s.most)

-- the one remoteness that is wanted, if there is one
abbrev pub level_of : Option Span → Option ℕ
level_of None = None
level_of (Some s) = if s.least == s.most then Some s.least else None

-- the value, with a remoteness that is sought
abbrev pub IsValueOf : Sought → Solved → Type 0
IsValueOf q s = (q.value ≡ s.value) × IsAskedFor q.remoteness s.remoteness

-- p has as many moves as are sought, and, if those are sought, exactly one that keeps the value, and exactly one that wins in the fewest moves
abbrev pub HasFittingMoves : Rules → Sought → Position → Type 0
HasFittingMoves r q p = HasMoves r q.distinct q.min_moves p × (IsTrue q.only_move → HasOnly r q.distinct (Keep q.value) p)
    × (IsTrue q.only_fastest → HasOnlyFastest r q.distinct p)

-- p has such a line as is sought, and as many tries along its solution
abbrev pub HasFittingLine : Rules → Sought → Position → Type 0
HasFittingLine r q p = (IsTrue q.whole_line → IsOnlyLine r q.distinct q.only_fastest p) × (0 < q.min_tries → HasLeastTries r q.min_tries p)

-- a canonical position that is sought; where only reached positions are asked for, one that play reaches
pub record IsMatch (r : Rules) (q : Sought) (reached : Bool) (p : Position) : Type 0 where
  pub canonical : IsCanonical r p
  pub value : (s : Solved) × IsTrueValue r p s × IsValueOf q s
  pub choice : HasMoves r q.distinct q.min_moves p
  pub only : IsTrue q.only_move → HasOnly r q.distinct (Keep q.value) p
  pub fastest : IsTrue q.only_fastest → HasOnlyFastest r q.distinct p
  pub line : IsTrue q.whole_line → IsOnlyLine r q.distinct q.only_fastest p
  pub tries : 0 < q.min_tries → HasLeastTries r q.min_tries p
  pub reaches : IsTrue reached → IsReachedByPlay r p

-- the place at which positions of this value and remoteness stand
abbrev pub place_for : Value → Option ℕ → Option (Phase × ℕ)
place_for v None = None
place_for Lose (Some n) = Some (WinLose, n)
place_for Draw (Some n) = None
place_for Tie (Some n) = Some (Ties, n)
place_for Win (Some n) = Some (WinLose, n)
