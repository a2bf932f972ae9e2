-- What holds of a dialogue for any input: its last line is that of its end, and what the computer's best moves guarantee.
use Rattle.gm_play.proofs.Lower.{◌≡◌, ◌≢◌, ℕ, ◌+◌, ◌≤◌, Bool, true, false, List, [], ◌∷◌, ◌++◌, length, codes, Option, None, Some, IfSome, refl, sym, subst, arith, append_assoc, append-nil, inl, inr, ◌==◌, if◌then◌else◌, Contains, bytes_eq, Position, End, Rules, IsGame, Side, You, Computer, IsBestMove, IsWonIn, IsEven, IsReached, Advice, IsRightAdvice, Said, without_return, reply, closing, text_after, Question, winner, ◌⊎◌, ap, ◌∙◌}
use Rattle.std.specs.List.{find}
use Rattle.gm_game.specs.Texts.{text_of}
use Rattle.gm_play.specs.Dialogue.{Course, before, after_move, ends, asks, game_over, position_line, asks_or_ends, persons_turn, moves_or_ends, computers_turn, turn, answer_to, dialogue, unmoved, course_with, course_after, course, talk, course_from}
use Rattle.gm_play.specs.declared.view.Question.TheVariants.{First, Again}
use Rattle.gm_play.specs.Endings.{over, over_line}
use Rattle.gm_play.specs.Courses.{IsWonCourse, IsUnlostCourse}
use Rattle.gm_play.specs.LastLines.{EndsWon, EndsUnlost, IsLastLine}
use Rattle.gm_game.specs.declared.position.End.TheVariants.{Lose as EndLose, Win as EndWin}
use Rattle.gm_play.proofs.Keeping.{reply_won, best_won, won_at, IsSafe, even_safe, reply_safe, best_safe, not_lost}
use Rattle.gm_play.proofs.Reaching.{reached_reached, played_reached}
use Rattle.gm_play.proofs.Reading.{find_is}

abbrev newline : List ℕ
newline = codes "\n"

-- a text of whole lines
abbrev EndsLine : List ℕ → Type 0
EndsLine t = (front : List ℕ) × (t ≡ front ++ newline)

-- the last line, by the end of the game: the line of the result, or that of the session if the game goes on
abbrev IsClosed : Option (Option Side) → List ℕ → Type 0
IsClosed None t = IsLastLine t (codes "bye\n") ⊎ IsLastLine t (codes "input ended\n")
IsClosed (Some w) t = IsLastLine t (over_line w)

last_after : (pre t line : List ℕ) → EndsLine pre → IsLastLine t line → IsLastLine (pre ++ t) line
last_after pre t line (front, e) (inl h) = inr (front, ap (λ (x : List ℕ). x ++ t) e ∙ ap (λ (x : List ℕ). front ++ newline ++ x) h)
last_after pre t line e (inr (front, h)) = inr (
  pre ++ front,
  ap (λ (x : List ℕ). pre ++ x) h ∙ sym (append_assoc pre (front ++ newline) line) ∙ ap
      (λ (x : List ℕ). x ++ line) (sym (append_assoc pre front newline)),
)

closed_after : (pre t : List ℕ) (e : Option (Option Side)) → EndsLine pre → IsClosed e t → IsClosed e (pre ++ t)
closed_after pre t None l (inl h) = inl (last_after pre t (codes "bye\n") l h)
closed_after pre t None l (inr h) = inr (last_after pre t (codes "input ended\n") l h)
closed_after pre t (Some w) l h = last_after pre t (over_line w) l h

ends_after : (pre t : List ℕ) → EndsLine t → EndsLine (pre ++ t)
ends_after pre t (front, e) = (pre ++ front, ap (λ (x : List ℕ). pre ++ x) e ∙ sym (append_assoc pre front newline))

-- the last lines from a win of the computer's side, and if the computer's side does not lose
won_line : (e : Option (Option Side)) (t : List ℕ) → IfSome e (λ w. w ≡ Some Computer) → IsClosed e t → EndsWon t
won_line None t h c = inr c
won_line (Some (Some Computer)) t h c = inl c
won_line e t h c = absurd (cc)

unlost_line : (e : Option (Option Side)) (t : List ℕ) → IfSome e (λ w. w ≢ Some You) → IsClosed e t → EndsUnlost t
unlost_line None t h c = inr (inr c)
unlost_line (Some None) t h c = inl c
unlost_line (Some (Some You)) t h c = absurd (h refl)
unlost_line (Some (Some Computer)) t h c = inr (inl c)

-- what holds of the positions of a game, up to a bound, and of its end, however the person replies to the best moves
record IsKept (r : Rules) (X : Type 0) (At : X → Position → Side → Type 0) (Few : X → ℕ → Type 0) (Ends : Option Side → Type 0) : Type 0 where
  pub none : (x : X) → Few x 0
  pub over : (x : X) (p : Position) (s : Side) (e : End) → At x p s → r.primitive p ≡ Some e → Ends (winner s e)
  pub replied : (x : X) (p : Position) (m : ℕ) → r.is_legal p ≡ true → Contains (r.moves p) m → At x p You
      → (y : X) × At y (r.play p m) Computer × ((j : ℕ) → Few y j → Few x (1 + j))
  pub best : (x : X) (p : Position) (m : ℕ) → IsBestMove r p (Some m) → At x p Computer → (y : X) × At y (r.play p m) You × ((j : ℕ) → Few y j → Few x (1 + j))

module _ (r : Rules) (g : IsGame r) (shown : Position → List ℕ) (move_shown : Position → ℕ → List ℕ) (k : Advice) (seen : Question → Position → List ℕ)
    (tier : ℕ) (known : IsRightAdvice r tier k) where
  step : (p : Position) (m : ℕ) → IsReached r tier p → Contains (r.moves p) m → IsReached r tier (r.play p m)
  step p m h has = reached_reached r tier p (r.play p m) h (played_reached r g p m h.0 has)

  place_ends : (p : Position) → EndsLine (position_line r shown move_shown k seen p)
  place_ends p = (shown p ++ codes " " ++ text_of (k.value p), refl)

  abbrev Talk : Position → List ℕ → List ℕ → List ℕ
  Talk = talk r shown move_shown k seen (closing r shown move_shown k seen)

  abbrev From : Position → List ℕ → List ℕ → Course
  From = course_from r shown move_shown k seen

  module _ (X : Type 0) (At : X → Position → Side → Type 0) (Few : X → ℕ → Type 0) (Ends : Option Side → Type 0) (kept : IsKept r X At Few Ends) where
    -- the course of a game, and the text of its dialogue
    abbrev IsFine : X → Course → List ℕ → Type 0
    IsFine x c t = Few x c.moves × IfSome c.ending Ends × IsClosed c.ending t

    abbrev IsAsked : X → Position → Type 0
    IsAsked x q = IsReached r tier q × At x q You

    -- if what follows the question of a part of a dialogue is fine, then so is the whole
    abbrev IsOpen : X → Said → Type 0
    IsOpen x said = (f : Position → List ℕ) (h : Position → Course) → ((y : X) (q : Position) → IsAsked y q → IsFine y (h q) (f q))
        → IsFine x (course_after said h) (said.text ++ text_after f said.asked)

    open_before : (x : X) (pre : List ℕ) (said : Said) → EndsLine pre → IsOpen x said → IsOpen x (before pre said)
    open_before x pre said l is f h next =
        let t = is f h next in (
          t.0,
          t.1,
          subst (IsClosed (course_after said h).ending) (sym (append_assoc pre said.text (text_after f said.asked)))
              (closed_after pre (said.text ++ text_after f said.asked) (course_after said h).ending l t.2),
        )

    moved : (x y : X) (said : Said) (o : Option Position) (h : Position → Course) (t : List ℕ) → ((j : ℕ) → Few y j → Few x (1 + j))
        → IsFine y (course_with said o h) t → IsFine x (course_with (after_move said) o h) t
    moved x y said None h t more is = (more said.moves is.0, is.1, is.2)
    moved x y said (Some q) h t more is =
        let e : 1 + (said.moves + (h q).moves) ≡ (1 + said.moves) + (h q).moves = omega arith in
        (subst (Few x) e (more (said.moves + (h q).moves) is.0), is.1, is.2)

    open_move : (x y : X) (said : Said) → ((j : ℕ) → Few y j → Few x (1 + j)) → IsOpen y said → IsOpen x (after_move said)
    open_move x y said more is f h next = moved x y said said.asked h (said.text ++ text_after f said.asked) more (is f h next)

    open_asked : (x : X) (p : Position) (t : List ℕ) → EndsLine t → IsAsked x p → IsOpen x (asks t p)
    open_asked x p t l a f h next =
        let n = next x p a in
        let e : (h p).moves ≡ 0 + (h p).moves = omega arith in
        (subst (Few x) e n.0, n.1, closed_after t (f p) (h p).ending l n.2)

    open_over : (x : X) (p : Position) (s : Side) (e : End) → At x p s → r.primitive p ≡ Some e → IsOpen x (game_over s e)
    open_over x p s e a o f h next = (kept.none x, kept.over x p s e a o, inl (append-nil (over s e)))

    asks_line : (q : Question) (p : Position) → EndsLine (seen q p ++ codes "your move?\n")
    asks_line q p = ends_after (seen q p) (codes "your move?\n") (codes "your move?", refl)

    person_case : (x : X) (p : Position) (o : Option End) → r.primitive p ≡ o → IsAsked x p → IsOpen x (asks_or_ends r shown move_shown k seen p o)
    person_case x p None e a = open_asked x p (seen First p ++ codes "your move?\n") (asks_line First p) a
    person_case x p (Some end) e a = open_over x p You end a.1 e

    person_open : (x : X) (p : Position) → IsAsked x p → IsOpen x (persons_turn r shown move_shown k seen p)
    person_open x p a = open_before x (position_line r shown move_shown k seen p) (asks_or_ends r shown move_shown k seen p (r.primitive p)) (place_ends p)
        (person_case x p (r.primitive p) refl a)

    computer_case : (x : X) (p : Position) (o : Option End) (b : Option ℕ) → r.primitive p ≡ o → IsBestMove r p b → IsReached r tier p → At x p Computer
        → IsOpen x (moves_or_ends r shown move_shown k seen p o b)
    computer_case x p (Some end) b e best l a = open_over x p Computer end a e
    computer_case x p None None e best l a = absurd (best e)
    computer_case x p None (Some m) e best l a =
        let (y, at, more) = kept.best x p m best a in
        let line = codes "computer" ++ codes ": " ++ move_shown p m ++ codes "\n" in
        let next = persons_turn r shown move_shown k seen (r.play p m) in
        open_move x y (before line next) more (open_before y line next (codes "computer" ++ codes ": " ++ move_shown p m, refl)
        (person_open y (r.play p m) (step p m l best.1.best.there, at)))

    computer_open : (x : X) (p : Position) → IsReached r tier p → At x p Computer → IsOpen x (computers_turn r shown move_shown k seen p)
    computer_open x p l a =
        open_before x (position_line r shown move_shown k seen p) (moves_or_ends r shown move_shown k seen p (r.primitive p) (k.best p)) (place_ends p)
        (computer_case x p (r.primitive p) (k.best p) refl (known p l).1 l a)

    reply_case : (x : X) (p : Position) (line : List ℕ) (c : Bool) (o : Option ℕ)
        → find (λ m. bytes_eq (move_shown p m) (without_return line)) (r.moves p) ≡ o → IsAsked x p
        → IsOpen x (if c then ends (codes "bye\n") else answer_to r shown move_shown k seen p o)
    reply_case x p line true o e a = λ f h next. (kept.none x, tt, inl (inl (append-nil (codes "bye\n"))))
    reply_case x p line false None e a =
        open_asked x p (codes "not a move\n" ++ seen Again p ++ codes "your move?\n")
        (ends_after (codes "not a move\n") (seen Again p ++ codes "your move?\n") (asks_line Again p)) a
    reply_case x p line false (Some m) e a =
        let has = (find_is (λ n. bytes_eq (move_shown p n) (without_return line)) (r.moves p) m e).0 in
        let (y, at, more) = kept.replied x p m a.0.0 has a.1 in
        open_move x y (computers_turn r shown move_shown k seen (r.play p m)) more (computer_open y (r.play p m) (step p m a.0 has) at)

    reply_open : (x : X) (p : Position) (line : List ℕ) → IsAsked x p → IsOpen x (reply r shown move_shown k seen p line)
    reply_open x p line a =
        let text = without_return line in
        reply_case x p line (bytes_eq text (codes "quit")) (find (λ m. bytes_eq (move_shown p m) text) (r.moves p)) refl a

    if_fine : (x : X) (c : Bool) (a b : Course) (s t : List ℕ) → IsFine x a s → IsFine x b t → IsFine x (if c then a else b) (if c then s else t)
    if_fine x true a b s t h k = h
    if_fine x false a b s t h k = k

    -- the input ends, or goes on
    from_fine : (bytes line : List ℕ) (x : X) (p : Position) → IsAsked x p → IsFine x (From p line bytes) (Talk p line bytes)
    unfolding course_from talk
    from_fine [] line x p a = if_fine x (length line == 0) _ _ _ _ (kept.none x, tt, inr (inl refl))
        (reply_open x p line a (λ q. codes "input ended\n") (λ q. unmoved) (λ y q b. (kept.none y, tt, inr (inl refl))))
    from_fine (b ∷ bs) line x p a = if_fine x (b == 10) _ _ _ _
        (reply_open x p line a (λ q. Talk q [] bs) (λ q. From q [] bs) (from_fine bs [])) (from_fine bs (line ++ b ∷ []) x p a)

    turn_open : (x : X) (p : Position) (s : Side) → IsReached r tier p → At x p s → IsOpen x (turn r shown move_shown k seen p s)
    turn_open x p You l a = person_open x p (l, a)
    turn_open x p Computer l a = computer_open x p l a

    fine : (x : X) (start : Position) (first : Side) (bytes : List ℕ) → IsReached r tier start → At x start first
        → IsFine x (course r shown move_shown k seen start first bytes) (dialogue r shown move_shown k seen start first bytes)
    fine x start first bytes l a = turn_open x start first l a (λ q. Talk q [] bytes) (λ q. From q [] bytes) (from_fine bytes [])

  -- a win of the computer's side within n moves
  won_over : (n : ℕ) (p : Position) (s : Side) (e : End) → IsWonIn r p s n → r.primitive p ≡ Some e → winner s e ≡ Some Computer
  won_over n p You EndLose a o = refl
  won_over n p Computer EndWin a o = refl
  won_over n p s e a o = absurd (let w = won_at r g p s n (Some e) a o (λ x. absurd (cc)) in cc)

  pub course_won : (start : Position) (first : Side) (n : ℕ) (bytes : List ℕ) → IsReached r tier start → IsWonIn r start first n
      → IsWonCourse n (course r shown move_shown k seen start first bytes) × EndsWon (dialogue r shown move_shown k seen start first bytes)
  course_won start first n bytes l a =
      let t = fine ℕ (λ n p s. IsWonIn r p s n) (λ n j. j ≤ n) (λ w. w ≡ Some Computer) record {
        none = λ n. omega arith;
        over = won_over;
        replied = λ n p m legal has h. (let (j, few, v) = reply_won r g p m n legal has h in (j, v, λ i low. omega arith));
        best = λ n p m b h. (let (j, few, v) = best_won r g p m n b h in (j, v, λ i low. omega arith));
      } n start first bytes l a in
      ((t.0, t.1), won_line (course r shown move_shown k seen start first bytes).ending (dialogue r shown move_shown k seen start first bytes) t.1 t.2)

  -- neither side wins: the computer's side does not lose
  safe_over : (x : Unit {0}) (p : Position) (s : Side) (e : End) → IsSafe r g p s → r.primitive p ≡ Some e → winner s e ≢ Some You
  safe_over x p You EndWin a o = λ w. not_lost r g p You a o
  safe_over x p Computer EndLose a o = λ w. not_lost r g p Computer a o
  safe_over x p s e a o = λ w. absurd (cc)

  pub course_even : (start : Position) (first : Side) (bytes : List ℕ) → IsReached r tier start → IsEven r start
      → IsUnlostCourse (course r shown move_shown k seen start first bytes) × EndsUnlost (dialogue r shown move_shown k seen start first bytes)
  course_even start first bytes l even =
      let t = fine (Unit {0}) (λ x. IsSafe r g) (λ x j. Unit {0}) (λ w. w ≢ Some You) record {
        none = λ x. tt;
        over = safe_over;
        replied = λ x p m legal has h. (tt, reply_safe r g p m legal has h, λ j few. tt);
        best = λ x p m b h. (tt, best_safe r g p m b.1.value b.1.own b.1.remoteness b.1.is_value b.1.best.reaches h, λ j few. tt);
      } tt start first bytes l (even_safe r g start first even) in
      (t.1, unlost_line (course r shown move_shown k seen start first bytes).ending (dialogue r shown move_shown k seen start first bytes) t.1 t.2)
