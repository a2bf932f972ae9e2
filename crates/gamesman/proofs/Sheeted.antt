-- Lists, and the sheets of their lines.
use Rattle.gamesman.proofs.Lower.{◌≡◌, suc, true, false, append_assoc, ℕ, ◌+◌, ◌<◌, List, [], ◌∷◌, ◌++◌, length, get_or, Option, None, Some, refl, sym, ap, subst, ◌∙◌, arith, inl, inr, take_all, flat_map, Fault, NoSuchGame, NoSuchPosition, NoSuchPositionInLine, NoSuchGameInLine, NoSuchTier, NoSuchIndex, NotLegal, NotCanonical, OutOfMemory, NotBuilt, AnotherGames, InputFailed, OutputFailed, OutputClosed, TooMuchInput, EngineNotRead, NotAnEngine, GameSpec, IsUnbuilt, IsOfNone, Position, TableData, HoldsExactly}
use Rattle.std.proofs.Common.{◌⊎◌, zero, set}
use Rattle.std.specs.Prelude.{MatchOption}
use Rattle.std.specs.List.{AllZip, slice_get}
use Rattle.std.specs.Option.{IsSomeAnd}
use Rattle.std.proofs.lemmas.Slice.Zip.{AllZip-left, AllZip-right, AllZip-long}
use Rattle.std.proofs.lemmas.Option.{slice_get_within, slice_get_read, get_or_from_slice_get}
use Rattle.std.specs.Prelude.{◌==◌}
use Rattle.gm_json.specs.Asking.{lines_of, lines_from}
use Rattle.gm_json.proofs.Splitting.{lines_more, lines_next, lines_none}
use Rattle.gm_table.specs.Tables.{IsHeld}
use Rattle.gm_tiers.specs.Orders.{IsTierOrder}
use Rattle.gm_play.specs.PlayTexts.{IsReadAs}
use Rattle.gm_play.specs.Dialogue.{without_return}
use Rattle.gm_play.proofs.Rows.{flat_more}
use Rattle.gm_command.specs.declared.names.GameName.{GameName}
use Rattle.gm_page.specs.declared.puzzles.Puzzle.{Puzzle}
use Rattle.gm_page.specs.declared.puzzles.SheetLook.{SheetLook}
use Rattle.gm_page.specs.Puzzles.{legend_of}
use Rattle.gm_command.specs.declared.requests.SheetRequest.{SheetRequest}
use Rattle.gamesman.specs.declared.list.ListLine.{ListLine}
use Rattle.gamesman.specs.declared.list.PositionList.{PositionList}
use Rattle.gamesman.specs.declared.sheet.Parts.{Parts}
use Rattle.gamesman.specs.Games.{spec_of}
use Rattle.gamesman.specs.Lists.{IsPlaced, IsGameAdded, IsOfGame, IsNamed, IsFirstLine, AreGamesOf, IsListOf, IsNoLine, IsWholeInput, text_on}
use Rattle.gamesman.specs.Listed.{AreFilled, IsPartOf, IsNoPuzzle, IsUnfilled, IsOfSome, AreOfSome, AreAllOfSome, AreAllFilled, IsPuzzleOf, IsPuzzleAt, look_of, IsOrderedSheet, IsSheetWith, IsListedSheet, IsNoSheet, IsNoSheetOfInput}

pub some_inj : {X : Type 0} {x y : X} → Some x ≡ Some y → x ≡ y
some_inj {X} {x} {y} e = ap (λ (o : Option X). elim o [ None ↦ x | Some z ↦ z ]) e

-- an element stays in its place where others follow, and the place of one after these
pub kept_at : {X : Type 0} (xs ys : List X) (j : ℕ) (x : X) → slice_get xs j ≡ Some x → slice_get (xs ++ ys) j ≡ Some x
kept_at [] ys j x e = absurd (cc (e))
kept_at (y ∷ xs) ys zero x e = e
kept_at (y ∷ xs) ys (suc j) x e = kept_at xs ys j x e

pub get_at : {X : Type 0} (xs ys : List X) (x : X) → slice_get (xs ++ x ∷ ys) (length xs) ≡ Some x
get_at [] ys x = refl
get_at (y ∷ xs) ys x = get_at xs ys x

-- the element at a place
pub found_at : {X : Type 0} (xs : List X) (k : ℕ) (x : X) → k < length xs → x ≡ get_or xs k x → slice_get xs k ≡ Some x
found_at xs k x less e = slice_get_read xs (length xs) k x refl less e

-- an element is one of these or the one after them
pub last_or : {X : Type 0} (xs : List X) (x : X) (k : ℕ) (y : X) → slice_get (xs ++ x ∷ []) k ≡ Some y
    → (slice_get xs k ≡ Some y) ⊎ ((k ≡ length xs) × (x ≡ y))
last_or [] x zero y e = inr (refl, some_inj e)
last_or [] x (suc k) y e = absurd (cc (e))
last_or (z ∷ xs) x zero y e = inl e
last_or (z ∷ xs) x (suc k) y e = elim (last_or xs x k y e) [ inl there ↦ inl there | inr last ↦ inr (ap suc last.0, last.1) ]

pub in_first : {X : Type 0} (xs ys : List X) (j : ℕ) (x : X) → slice_get (xs ++ ys) j ≡ Some x → j < length xs → slice_get xs j ≡ Some x
in_first [] ys j x e less = absurd (omega (arith, less))
in_first (y ∷ xs) ys zero x e less = e
in_first (y ∷ xs) ys (suc j) x e less = in_first xs ys j x e (omega (arith, less))

-- an element is replaced
pub set_here : {X : Type 0} (xs : List X) (j : ℕ) (a : X) → j < length xs → slice_get (set xs j a) j ≡ Some a
set_here [] j a less = absurd (omega (arith, less))
set_here (x ∷ xs) zero a less = refl
set_here (x ∷ xs) (suc j) a less = set_here xs j a (omega (arith, less))

pub set_other : {X : Type 0} (xs : List X) (i j : ℕ) (a : X) → (i ≡ j → ⊥) → slice_get (set xs j a) i ≡ slice_get xs i
set_other [] i j a differ = refl
set_other (x ∷ xs) zero zero a differ = absurd (differ refl)
set_other (x ∷ xs) zero (suc j) a differ = refl
set_other (x ∷ xs) (suc i) zero a differ = refl
set_other (x ∷ xs) (suc i) (suc j) a differ = set_other xs i j a (λ same. differ (ap suc same))

pub set_long : {X : Type 0} (xs : List X) (j : ℕ) (a : X) → length (set xs j a) ≡ length xs
set_long [] j a = refl
set_long (x ∷ xs) zero a = refl
set_long (x ∷ xs) (suc j) a = ap suc (set_long xs j a)

-- ---- the games of a list
pub added_kept : (old new : List GameName) (game : GameName) → IsGameAdded old game new → (j : ℕ) (g : GameName) → slice_get old j ≡ Some g
    → slice_get new j ≡ Some g
added_kept old new game (inl h) j g e = subst (λ (l : List GameName). slice_get l j ≡ Some g) (sym h.0) e
added_kept old new game (inr h) j g e = subst (λ (l : List GameName). slice_get l j ≡ Some g) (sym h.0) (kept_at old (game ∷ []) j g e)

abbrev IsOnce : List GameName → Type 0
IsOnce games = (i j : ℕ) (game : GameName) → slice_get games i ≡ Some game → slice_get games j ≡ Some game → i ≡ j

-- a new game is added to games of which each is there once
once_added : (games : List GameName) (game : GameName) → ((k : ℕ) → slice_get games k ≡ Some game → ⊥) → IsOnce games → IsOnce (games ++ game ∷ [])
once_added games game new once i j g a b = elim (last_or games game i g a) [
  | inl here ↦ elim (last_or games game j g b) [
    | inl there ↦ once i j g here there
    | inr last ↦ absurd (new i (here ∙ ap (λ (x : GameName). Some x) (sym last.1)))
  ]
  | inr first ↦ elim (last_or games game j g b) [
    | inl there ↦ absurd (new j (there ∙ ap (λ (x : GameName). Some x) (sym first.1)))
    | inr last ↦ first.0 ∙ sym last.0
  ]
]

once_more : (games more : List GameName) (game : GameName) → IsGameAdded games game more → IsOnce games → IsOnce more
once_more games more game (inl h) once = subst IsOnce (sym h.0) once
once_more games more game (inr h) once = subst IsOnce (sym h.0) (once_added games game h.1 once)

module _ (all : Option GameName) (games more : List GameName) (lines : List (List ℕ)) (line : List ℕ) (game : GameName) where
  -- the first line of a game stays where it is
  first_kept : ((j : ℕ) (g : GameName) → slice_get games j ≡ Some g → slice_get more j ≡ Some g) → (k : ℕ) (g : GameName)
      → IsFirstLine all games lines k g → IsFirstLine all more (lines ++ line ∷ []) k g
  first_kept kept k g (j, at, here, of, before) = (
    j,
    at,
    kept_at lines (line ∷ []) j at here,
    of,
    λ i early less there.
        let within : i < length lines = omega (arith, less, slice_get_within lines j at here) in
        let (m, other, below, placed, named) = before i early less (in_first lines (line ∷ []) i early there within) in
        (m, other, below, kept m other placed, named),
  )

  -- a game that is new has its first line at the end
  first_new : AreGamesOf all lines games → IsOfGame all line game → IsFirstLine all (games ++ game ∷ []) (lines ++ line ∷ []) (length games) game
  first_new are of = (
    length lines,
    line,
    get_at lines [] line,
    of,
    λ i early less there.
        let (m, other, placed, named) = are.named i early (in_first lines (line ∷ []) i early there less) in
        (m, other, slice_get_within games m other placed, kept_at games (game ∷ []) m other placed, named),
  )

  first_more : AreGamesOf all lines games → IsOfGame all line game → IsGameAdded games game more → (k : ℕ) (g : GameName) → slice_get more k ≡ Some g
      → IsFirstLine all more (lines ++ line ∷ []) k g
  first_more are of (inl h) k g e = first_kept (added_kept games more game (inl h)) k g
      (are.first k g (subst (λ (l : List GameName). slice_get l k ≡ Some g) h.0 e))
  first_more are of (inr h) k g e = elim (last_or games game k g (subst (λ (l : List GameName). slice_get l k ≡ Some g) h.0 e)) [
    | inl old ↦ first_kept (added_kept games more game (inr h)) k g (are.first k g old)
    | inr last ↦ subst (λ (l : List GameName). IsFirstLine all l (lines ++ line ∷ []) k g) (sym h.0)
        (subst (λ (n : ℕ). IsFirstLine all (games ++ game ∷ []) (lines ++ line ∷ []) n g) (sym last.0)
        (subst (λ (x : GameName). IsFirstLine all (games ++ game ∷ []) (lines ++ line ∷ []) (length games) x) last.1 (first_new are of)))
  ]

  -- the games of one line more
  pub games_more : AreGamesOf all lines games → IsOfGame all line game → IsGameAdded games game more → (p : ℕ) → slice_get more p ≡ Some game
      → AreGamesOf all (lines ++ line ∷ []) more
  games_more are of added p here = record {
    named = λ j l there. elim (last_or lines line j l there) [
      | inl early ↦ (let (k, g, placed, is) = are.named j l early in (k, g, added_kept games more game added k g placed, is))
      | inr last ↦ (p, game, here, subst (λ (x : List ℕ). IsOfGame all x game) last.1 of)
    ];
    once = once_more games more game added are.once;
    first = first_more are of added;
  }

-- no lines are of no games
pub no_lines : (all : Option GameName) (list : PositionList) → list.games.items ≡ [] → list.lines.items ≡ [] → IsListOf all [] list
no_lines all list no_games none = record {
  are_games = record {
    named = λ j line e. absurd (cc (e));
    once = λ i j game a b. absurd (cc (subst (λ (l : List GameName). slice_get l i ≡ Some game) no_games a));
    first = λ k game e. absurd (cc (subst (λ (l : List GameName). slice_get l k ≡ Some game) no_games e));
  };
  placed = subst (λ (ls : List ListLine). AllZip (IsPlaced all list.games.items) [] ls) (sym none) tt;
}

-- ---- lists
-- one line more, among games that are the same as far as they went
pub one_more : (all : Option GameName) (games more : List GameName) (lines : List (List ℕ)) (ls : List ListLine) (line : List ℕ) (l : ListLine)
    → ((j : ℕ) (g : GameName) → slice_get games j ≡ Some g → slice_get more j ≡ Some g) → IsPlaced all more line l → AllZip (IsPlaced all games) lines ls
    → AllZip (IsPlaced all more) (lines ++ line ∷ []) (ls ++ l ∷ [])
one_more all games more [] [] line l kept is tt = (is, tt)
one_more all games more [] (y ∷ ys) line l kept is h = absurd h
one_more all games more (x ∷ xs) [] line l kept is h = absurd h
one_more all games more (x ∷ xs) (y ∷ ys) line l kept is ((game, named, at, text), rest) =
    ((game, named, kept y.game game at, text), one_more all games more xs ys line l kept is rest)

some_line : {X : Type 0} {P : X → Type 0} (o : Option X) (p : Option X) → p ≡ o → IsSomeAnd o P → (x : X) × (p ≡ Some x) × P x
some_line None p e is = absurd is
some_line (Some x) p e is = (x, e, is)

-- the line of a list at a place
pub placed : (all : Option GameName) (games : List GameName) (lines : List (List ℕ)) (ls : List ListLine) (k : ℕ) (line : List ℕ)
    → AllZip (IsPlaced all games) lines ls → slice_get lines k ≡ Some line → (l : ListLine) × (slice_get ls k ≡ Some l) × IsPlaced all games line l
placed all games lines ls k line are e = some_line (slice_get ls k) (slice_get ls k) refl (subst
    (λ (o : Option (List ℕ)). MatchOption o (Unit {0}) (λ x. IsSomeAnd (slice_get ls k) (IsPlaced all games x))) e
    (AllZip-left (IsPlaced all games) lines ls are k))

-- the same backwards: the line in the input of a line of the list
pub line_of_placed : (all : Option GameName) (games : List GameName) (lines : List (List ℕ)) (ls : List ListLine) (k : ℕ) (l : ListLine)
    → AllZip (IsPlaced all games) lines ls → slice_get ls k ≡ Some l → (line : List ℕ) × (slice_get lines k ≡ Some line) × IsPlaced all games line l
line_of_placed all games lines ls k l are e = some_line (slice_get lines k) (slice_get lines k) refl (subst
    (λ (o : Option ListLine). MatchOption o (Unit {0}) (λ y. IsSomeAnd (slice_get lines k) (λ x. IsPlaced all games x y))) e
    (AllZip-right (IsPlaced all games) lines ls are k))

-- the fault of a line, before which each names a game
pub line_fault : (all : Option GameName) (line : List ℕ) (lines : List (List ℕ)) (k : ℕ) → slice_get lines k ≡ Some line
    → ((j : ℕ) (early : List ℕ) → j < k → slice_get lines j ≡ Some early → IsNamed all early) → (fault : Fault) → IsNoLine all line k fault
    → IsNoSheet all lines fault
line_fault all line lines k at named NoSuchGame is = absurd is
line_fault all line lines k at named NoSuchPosition is = absurd is
line_fault all line lines k at named (NoSuchPositionInLine n) is = absurd is
line_fault all line lines k at named (NoSuchGameInLine n) is = (k, line, is.0, at, is.1, named)
line_fault all line lines k at named (NoSuchTier tier) is = absurd is
line_fault all line lines k at named (NoSuchIndex tier index) is = absurd is
line_fault all line lines k at named (NotLegal tier index) is = absurd is
line_fault all line lines k at named (NotCanonical tier index) is = absurd is
line_fault all line lines k at named (OutOfMemory error) is = tt
line_fault all line lines k at named (NotBuilt error) is = absurd is
line_fault all line lines k at named (AnotherGames tier) is = absurd is
line_fault all line lines k at named InputFailed is = absurd is
line_fault all line lines k at named OutputFailed is = absurd is
line_fault all line lines k at named OutputClosed is = absurd is
line_fault all line lines k at named TooMuchInput is = absurd is
line_fault all line lines k at named EngineNotRead is = absurd is
line_fault all line lines k at named NotAnEngine is = absurd is

-- ---- the bytes of an input
-- between two bytes: the lines that ended are those of the list
module _ (all : Option GameName) (bytes line rest : List ℕ) (b : ℕ) (old : PositionList) (done : List (List ℕ)) (are : IsListOf all done old) where
  -- a line ends
  pub line_ends : lines_of bytes ≡ done ++ lines_from line (b ∷ rest) → (b == 10) ≡ true → (new : PositionList) (next : List ℕ)
      → ((lines : List (List ℕ)) → IsListOf all lines old → IsListOf all (lines ++ line ∷ []) new) → next ≡ []
      → (more : List (List ℕ)) × (lines_of bytes ≡ more ++ lines_from next rest) × IsListOf all more new
  line_ends e here new next step empty = (
    done ++ line ∷ [],
    e ∙ ap (λ (ls : List (List ℕ)). done ++ ls) (lines_next line b rest here) ∙ sym (append_assoc done (line ∷ []) (lines_from [] rest))
        ∙ ap (λ (t : List ℕ). (done ++ line ∷ []) ++ lines_from t rest) (sym empty),
    step done are,
  )

  -- a line goes on
  pub line_grows : lines_of bytes ≡ done ++ lines_from line (b ∷ rest) → (b == 10) ≡ false → (next : List ℕ) → next ≡ line ++ b ∷ []
      → (more : List (List ℕ)) × (lines_of bytes ≡ more ++ lines_from next rest) × IsListOf all more old
  line_grows e other next grown =
      (done, e ∙ ap (λ (ls : List (List ℕ)). done ++ ls) (lines_more line b rest other ∙ ap (λ (t : List ℕ). lines_from t rest) (sym grown)), are)

-- no byte is left, and none has begun a line
pub lines_empty : (line : List ℕ) → length line ≡ 0 → lines_from line [] ≡ []
lines_empty [] e = lines_none
lines_empty (b ∷ bs) e = absurd (omega (arith, e))

-- a line that names no game
pub line_stops : (all : Option GameName) (lines done rest : List (List ℕ)) (line : List ℕ) (old : PositionList) → IsListOf all done old
    → lines ≡ done ++ line ∷ rest → (fault : Fault) → IsNoLine all line (length old.lines.items) fault → IsNoSheet all lines fault
line_stops all lines done rest line old are e fault is =
    line_fault all line lines (length done) (subst (λ (ls : List (List ℕ)). slice_get ls (length done) ≡ Some line) (sym e) (get_at done rest line))
    (λ j early less there. let there_too = subst (λ (ls : List (List ℕ)). slice_get ls j ≡ Some early) e there in
    let (k, game, placed, of) = are.are_games.named j early (in_first done (line ∷ rest) j early there_too less) in (game, of)) fault
    (subst (λ (k : ℕ). IsNoLine all line k fault) (AllZip-long (IsPlaced all old.games.items) done old.lines.items are.placed) is)

-- ---- one game
pub below : (m k : ℕ) → m < k + 1 → (m < k) ⊎ (m ≡ k)
below m k less = grind (arith, less)

apart : (m k : ℕ) → m < k → m ≡ k → ⊥
apart m k less same = absurd (omega (arith, less, same))

module _ (g : GameSpec) (look : SheetLook) (k : ℕ) (lines : List ListLine) (j : ℕ) (line : ListLine) (at : slice_get lines j ≡ Some line)
    (start old : List Puzzle) (so_far : AreFilled g look k lines j start old) where
  same_line : (i : ℕ) (l : ListLine) → slice_get lines i ≡ Some l → i ≡ j → l ≡ line
  same_line i l there one = some_inj (sym there ∙ ap (slice_get lines) one ∙ at)

  -- the puzzle of one line more is made
  pub fill_one : (p : Puzzle) → line.game ≡ k → j < length old → IsPuzzleOf g look line.text.items p
      → AreFilled g look k lines (j + 1) start (set old j p)
  fill_one p same less is = record {
    many = set_long old j p ∙ so_far.many;
    here = λ i l there place before. elim (below i j before) [
      | inl early ↦ (let (q, found, made) = so_far.here i l there place early in (q, set_other old i j p (apart i j early) ∙ found, made))
      | inr one ↦ (
        p,
        subst (λ (n : ℕ). slice_get (set old j p) n ≡ Some p) (sym one) (set_here old j p less),
        subst (λ (x : ListLine). IsPuzzleOf g look x.text.items p) (sym (same_line i l there one)) is,
      )
    ];
    others = λ i l there not.
        set_other old i j p (λ one. not (ap (λ (x : ListLine). x.game) (same_line i l there one) ∙ same)) ∙ so_far.others i l there not;
  }

  -- the line is of another game
  pub fill_none : (line.game ≡ k → ⊥) → AreFilled g look k lines (j + 1) start old
  fill_none not_here = record {
    many = so_far.many;
    here = λ i l there place before. elim (below i j before) [
      | inl early ↦ so_far.here i l there place early
      | inr one ↦ absurd (not_here (ap (λ (x : ListLine). x.game) (sym (same_line i l there one)) ∙ place))
    ];
    others = so_far.others;
  }

-- the position that was read has a table, as each tier of the game and no other
pub some_held : (g : GameSpec) (text : List ℕ) (p : Position) (entries : List TableData) (order : List ℕ) → IsReadAs g.rules g.shown g.move_shown text p
    → IsTierOrder g.rules order → HoldsExactly entries order → IsHeld entries p.tier → IsOfSome g text
some_held g text p entries order read is held has = (p, read, (is.each p.tier).0 ((held p.tier).0 has))

-- no line is filled yet
pub fill_begins : (g : GameSpec) (look : SheetLook) (k : ℕ) (lines : List ListLine) (start : List Puzzle) → AreFilled g look k lines 0 start start
fill_begins g look k lines start = record {
  many = refl;
  here = λ j l there place less. absurd (omega (arith, less));
  others = λ j l there not. refl;
}

-- the lines before have their puzzles, so they are those of positions
pub some_before : (g : GameSpec) (look : SheetLook) (k : ℕ) (lines : List ListLine) (j : ℕ) (start old : List Puzzle)
    → AreFilled g look k lines j start old → AreOfSome g k lines j
some_before g look k lines j start old filled i l there place less = let (p, found, made) = filled.here i l there place less in made.1

pub puzzle_fault : (g : GameSpec) (k j : ℕ) (lines : List ListLine) (l : ListLine) → slice_get lines j ≡ Some l → l.game ≡ k → AreOfSome g k lines j
    → (fault : Fault) → IsNoPuzzle g l.text.items (j + 1) fault → IsUnfilled g k lines fault
puzzle_fault g k j lines l at same some NoSuchGame is = absurd is
puzzle_fault g k j lines l at same some NoSuchPosition is = absurd is
puzzle_fault g k j lines l at same some (NoSuchPositionInLine n) is = (j, l, at, same, some, is)
puzzle_fault g k j lines l at same some (NoSuchGameInLine n) is = absurd is
puzzle_fault g k j lines l at same some (NoSuchTier tier) is = absurd is
puzzle_fault g k j lines l at same some (NoSuchIndex tier index) is = absurd is
puzzle_fault g k j lines l at same some (NotLegal tier index) is = absurd is
puzzle_fault g k j lines l at same some (NotCanonical tier index) is = absurd is
puzzle_fault g k j lines l at same some (OutOfMemory error) is = tt
puzzle_fault g k j lines l at same some (NotBuilt error) is = absurd is
puzzle_fault g k j lines l at same some (AnotherGames tier) is = absurd is
puzzle_fault g k j lines l at same some InputFailed is = absurd is
puzzle_fault g k j lines l at same some OutputFailed is = absurd is
puzzle_fault g k j lines l at same some OutputClosed is = absurd is
puzzle_fault g k j lines l at same some TooMuchInput is = absurd is
puzzle_fault g k j lines l at same some EngineNotRead is = absurd is
puzzle_fault g k j lines l at same some NotAnEngine is = absurd is

pub build_fault : (g : GameSpec) (k : ℕ) (lines : List ListLine) (fault : Fault) → IsUnbuilt g.rules g.rules.initial.tier fault → IsUnfilled g k lines fault
build_fault g k lines NoSuchGame is = absurd is
build_fault g k lines NoSuchPosition is = absurd is
build_fault g k lines (NoSuchPositionInLine n) is = absurd is
build_fault g k lines (NoSuchGameInLine n) is = absurd is
build_fault g k lines (NoSuchTier tier) is = absurd is
build_fault g k lines (NoSuchIndex tier index) is = absurd is
build_fault g k lines (NotLegal tier index) is = absurd is
build_fault g k lines (NotCanonical tier index) is = absurd is
build_fault g k lines (OutOfMemory error) is = tt
build_fault g k lines (NotBuilt error) is = is
build_fault g k lines (AnotherGames tier) is = is
build_fault g k lines InputFailed is = absurd is
build_fault g k lines OutputFailed is = absurd is
build_fault g k lines OutputClosed is = absurd is
build_fault g k lines TooMuchInput is = absurd is
build_fault g k lines EngineNotRead is = absurd is
build_fault g k lines NotAnEngine is = absurd is

-- ---- several games
-- the lines of the games before the place k have their puzzles, so they are those of positions
pub all_some_before : (look : SheetLook) (list : PositionList) (k : ℕ) (parts : Parts) → AreAllFilled look list k parts → AreAllOfSome list k
all_some_before look list k parts so_far j l game here place less = let (p, there, made) = so_far.made j l game here place less in made.1

-- a line that is looked up before that at the place j, of the game at the place k
earlier_some : (all : Option GameName) (list : PositionList) (lines : List (List ℕ)) → IsListOf all lines list → (k : ℕ) (game : GameName)
    → slice_get list.games.items k ≡ Some game → AreAllOfSome list k → (j : ℕ) → AreOfSome (spec_of game) k list.lines.items j
    → (i : ℕ) (early : List ℕ) (m : ℕ) (other : GameName) → slice_get lines i ≡ Some early → IsOfGame all early other → slice_get list.games.items m ≡ Some other
    → (m < k) ⊎ ((m ≡ k) × (i < j)) → IsOfSome (spec_of other) (text_on all (without_return early))
earlier_some all list lines are k game at before j some i early m other e of there which =
    let games = list.games.items in
    let (l, here, (its, named, place, text)) = placed all games lines list.lines.items i early are.placed e in
    let one : its ≡ other = some_inj (sym named ∙ of) in
    let placed_too : slice_get games l.game ≡ Some other = place ∙ ap (λ (x : GameName). Some x) one in
    let same : l.game ≡ m = are.are_games.once l.game m other placed_too there in
    subst (IsOfSome (spec_of other)) text (elim which [
      | inl less ↦ before i l other here placed_too (subst (λ (n : ℕ). n < k) (sym same) less)
      | inr also ↦ (
          let game_is : game ≡ other = some_inj (sym at ∙ ap (slice_get games) (sym also.0) ∙ there) in
          subst (λ (x : GameName). IsOfSome (spec_of x) l.text.items) game_is (some i l here (same ∙ also.0) also.1))
    ])

position_fault : (all : Option GameName) (list : PositionList) (lines : List (List ℕ)) → IsListOf all lines list → (k : ℕ) (game : GameName)
    → slice_get list.games.items k ≡ Some game → AreAllOfSome list k → (n : ℕ) → IsUnfilled (spec_of game) k list.lines.items (NoSuchPositionInLine n)
    → IsNoSheet all lines (NoSuchPositionInLine n)
position_fault all list lines are k game at before n (j, l, here, same, some, (number, none)) =
    let (line, there, (other, named, place, text)) = line_of_placed all list.games.items lines list.lines.items j l are.placed here in
    let one : other ≡ game = some_inj (sym place ∙ ap (slice_get list.games.items) same ∙ at) in record {
      games = list.games.items;
      are_games = are.are_games;
      at = j;
      line = line;
      place = k;
      game = game;
      number = number;
      here = there;
      placed = at;
      of_game = named ∙ ap (λ (g : GameName). Some g) one;
      none = subst (IsOfNone (spec_of game).rules (spec_of game).shown (spec_of game).move_shown) text none;
      earlier = earlier_some all list lines are k game at before j some;
    }

pub game_fault : (all : Option GameName) (list : PositionList) (lines : List (List ℕ)) → IsListOf all lines list → (k : ℕ) (game : GameName)
    → slice_get list.games.items k ≡ Some game → AreAllOfSome list k → (fault : Fault) → IsUnfilled (spec_of game) k list.lines.items fault
    → IsNoSheet all lines fault
game_fault all list lines are k game at before NoSuchGame is = (list.games.items, are.are_games, k, game, at, is)
game_fault all list lines are k game at before NoSuchPosition is = (list.games.items, are.are_games, k, game, at, is)
game_fault all list lines are k game at before (NoSuchPositionInLine n) is = position_fault all list lines are k game at before n is
game_fault all list lines are k game at before (NoSuchGameInLine n) is = absurd is
game_fault all list lines are k game at before (NoSuchTier tier) is = (list.games.items, are.are_games, k, game, at, is)
game_fault all list lines are k game at before (NoSuchIndex tier index) is = (list.games.items, are.are_games, k, game, at, is)
game_fault all list lines are k game at before (NotLegal tier index) is = (list.games.items, are.are_games, k, game, at, is)
game_fault all list lines are k game at before (NotCanonical tier index) is = (list.games.items, are.are_games, k, game, at, is)
game_fault all list lines are k game at before (OutOfMemory error) is = tt
game_fault all list lines are k game at before (NotBuilt error) is = (list.games.items, are.are_games, k, game, at, is)
game_fault all list lines are k game at before (AnotherGames tier) is = (list.games.items, are.are_games, k, game, at, is)
game_fault all list lines are k game at before InputFailed is = (list.games.items, are.are_games, k, game, at, is)
game_fault all list lines are k game at before OutputFailed is = (list.games.items, are.are_games, k, game, at, is)
game_fault all list lines are k game at before OutputClosed is = (list.games.items, are.are_games, k, game, at, is)
game_fault all list lines are k game at before TooMuchInput is = (list.games.items, are.are_games, k, game, at, is)
game_fault all list lines are k game at before EngineNotRead is = (list.games.items, are.are_games, k, game, at, is)
game_fault all list lines are k game at before NotAnEngine is = (list.games.items, are.are_games, k, game, at, is)

-- one game more
pub filled_more : (look : SheetLook) (list : PositionList) (k : ℕ) (game : GameName) (old new : Parts) → slice_get list.games.items k ≡ Some game
    → AreAllFilled look list k old → IsPartOf (spec_of game) look k list.lines.items old new → AreAllFilled look list (k + 1) new
filled_more look list k game old new at so_far part = record {
  many = part.filled.many ∙ so_far.many;
  made = λ j l other here place less. elim (below l.game k less) [
    | inl before ↦ (
        let (p, there, is) = so_far.made j l other here place before in
        (p, part.filled.others j l here (λ same. apart l.game k before same) ∙ there, is))
    | inr same ↦ (
        let one : game ≡ other = some_inj (sym at ∙ ap (slice_get list.games.items) (sym same) ∙ place) in
        subst (λ (g : GameName). IsPuzzleAt (spec_of g) look l.text.items new.puzzles.items j) one (part.filled.here j l here same (slice_get_within list.lines.items j l here)))
  ];
  legends = flat_more (λ (g : GameName). legend_of (spec_of g)) list.games.items k game old.legends.items new.legends.items (legend_of (spec_of game))
      (slice_get_within list.games.items k game at) so_far.legends part.legends
      (ap (λ (g : GameName). legend_of (spec_of g)) (sym (get_or_from_slice_get list.games.items k game game at)));
}

-- all games
pub sheet_filled : (all : Option GameName) (request : SheetRequest) (list : PositionList) (lines : List (List ℕ)) (parts : Parts) (out : List ℕ)
    → AreAllFilled (look_of request) list (length list.games.items) parts → IsSheetWith request parts out → IsListOf all lines list
    → IsListedSheet all request lines out
sheet_filled all request list lines parts out filled is are = record {
  games = list.games.items;
  are_games = are.are_games;
  puzzles = parts.puzzles.items;
  are_puzzles = record {
    many = filled.many ∙ AllZip-long (IsPlaced all list.games.items) lines list.lines.items are.placed;
    each = λ j line here. (
        let (l, there, (game, named, place, text)) = placed all list.games.items lines list.lines.items j line are.placed here in (
          game,
          named,
          subst (λ (t : List ℕ). IsPuzzleAt (spec_of game) (look_of request) t parts.puzzles.items j) text
              (filled.made j l game there place (slice_get_within list.games.items l.game game place)),
        ));
  };
  sheet = subst (λ (t : List ℕ). IsOrderedSheet request t parts.puzzles.items out)
      (filled.legends ∙ ap (flat_map (λ (g : GameName). legend_of (spec_of g)))
      (take_all (length list.games.items) list.games.items (omega arith))) is;
}

-- ---- inputs
pub input_fault : (all : Option GameName) (input : Option (List ℕ)) (bytes : List ℕ) → IsWholeInput input bytes → (fault : Fault)
    → IsNoSheet all (lines_of bytes) fault → IsNoSheetOfInput all input fault
input_fault all input bytes whole NoSuchGame is = (bytes, whole, is)
input_fault all input bytes whole NoSuchPosition is = (bytes, whole, is)
input_fault all input bytes whole (NoSuchPositionInLine n) is = (bytes, whole, is)
input_fault all input bytes whole (NoSuchGameInLine n) is = (bytes, whole, is)
input_fault all input bytes whole (NoSuchTier tier) is = (bytes, whole, is)
input_fault all input bytes whole (NoSuchIndex tier index) is = (bytes, whole, is)
input_fault all input bytes whole (NotLegal tier index) is = (bytes, whole, is)
input_fault all input bytes whole (NotCanonical tier index) is = (bytes, whole, is)
input_fault all input bytes whole (OutOfMemory error) is = tt
input_fault all input bytes whole (NotBuilt error) is = (bytes, whole, is)
input_fault all input bytes whole (AnotherGames tier) is = (bytes, whole, is)
input_fault all input bytes whole InputFailed is = tt
input_fault all input bytes whole OutputFailed is = (bytes, whole, is)
input_fault all input bytes whole OutputClosed is = (bytes, whole, is)
input_fault all input bytes whole TooMuchInput is = tt
input_fault all input bytes whole EngineNotRead is = (bytes, whole, is)
input_fault all input bytes whole NotAnEngine is = (bytes, whole, is)

-- no write has failed
pub not_failed : (all : Option GameName) (input : Option (List ℕ)) → IsNoSheetOfInput all input OutputFailed → ⊥
not_failed all input (bytes, whole, (games, are, k, game, at, is)) = is

pub not_closed : (all : Option GameName) (input : Option (List ℕ)) → IsNoSheetOfInput all input OutputClosed → ⊥
not_closed all input (bytes, whole, (games, are, k, game, at, is)) = is
