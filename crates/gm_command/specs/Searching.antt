-- What a line of `find` or `ask` asks for, from what clap found for its words.
use Rattle.std.specs.Prelude.{ℕ, ◌^◌, ◌==◌, ◌&&◌, ◌||◌, not, nat_le, Bool, true, false, List, [], ◌∷◌, take, drop, codes, Option, Some, None, is_some, unwrap_or, option_map, option_and_then, if◌then◌else◌}
use Rattle.std.specs.Str.{bytes_eq}
use Rattle.clap.specs.Words.{Row}
use Rattle.gm_game.specs.declared.position.Value.{Value}
use Rattle.gm_game.specs.declared.position.Value.TheVariants.{Lose, Draw, Tie, Win}
use Rattle.gm_find.specs.declared.sought.Span.{Span}
use Rattle.gm_find.specs.declared.sought.Sought.{Sought}
use Rattle.gm_find.specs.declared.sought.Choice.{Choice}
use Rattle.gm_find.specs.declared.sought.Choice.TheVariants.{First, Random, Sorted, Apart}
use Rattle.gm_find.specs.declared.sought.Order.{Order}
use Rattle.gm_find.specs.declared.sought.Order.TheVariants.{Long, Hard}
use Rattle.gm_json.specs.declared.asked.Asked.{Asked}
use Rattle.gm_json.specs.declared.asked.With.{With}
use Rattle.gm_command.specs.declared.requests.AskRequest.{AskRequest}
use Rattle.gm_command.specs.declared.requests.LineForm.TheVariants.{Rows, Json, Boards}
use Rattle.gm_command.specs.declared.requests.Report.{Report}
use Rattle.gm_command.specs.declared.requests.Report.TheVariants.{Lines, Sheet}
use Rattle.gm_command.specs.declared.requests.PositionSearch.{PositionSearch}
use Rattle.gm_command.specs.Given.{text_in, has, is_plain_number, number_below, option_number, number_or, no_limit, tier_in}

abbrev pub value_named : List ℕ → Option Value
value_named word = if bytes_eq word (codes "win") then Some Win else (if bytes_eq word (codes "tie") then Some Tie
    else (if bytes_eq word (codes "draw") then Some Draw else (if bytes_eq word (codes "lose") then Some Lose else None)))

-- a number of at most 4,294,967,295, written without a sign and without leading zeros
abbrev pub plain_number : List ℕ → Option ℕ
plain_number text = if is_plain_number text then number_below (2 ^ 32) text else None

-- what comes before the first `..` of a text, and what comes after it
abbrev pub cut_at_dots : List ℕ → Option (List ℕ × List ℕ)
cut_at_dots [] = None
cut_at_dots (c ∷ cs) = if bytes_eq (take 2 (c ∷ cs)) (codes "..") then Some ([], drop 2 (c ∷ cs))
    else option_map (λ p. (c ∷ p.0, p.1)) (cut_at_dots cs)

-- a span from one number to another that isn't less
abbrev pub span_from : ℕ → ℕ → Option Span
span_from least most = if nat_le least most then Some (record { least = least; most = most }) else None

-- `A..B`, or `N` for `N..N`
abbrev pub span_in : List ℕ → Option Span
span_in text =
    let ends = unwrap_or (cut_at_dots text) (text, text) in
    option_and_then (λ least. option_and_then (λ most. span_from least most) (plain_number ends.1)) (plain_number ends.0)

abbrev pub is_win : Value → Bool
is_win Win = true
is_win _ = false

abbrev pub is_tie : Value → Bool
is_tie Tie = true
is_tie _ = false

abbrev pub is_draw : Value → Bool
is_draw Draw = true
is_draw _ = false

-- some position can have these properties: a draw has no remoteness, a whole line and an only fastest move are of wins, an only move is of wins and ties, no
-- draw has a solution along which tries are counted, and moves are told apart by symmetry only where they are counted
abbrev pub is_possible : Sought → Bool
is_possible s = not (is_draw s.value && is_some s.remoteness)
    && (not (s.whole_line && not (is_win s.value))
    && (not (s.only_move && not (is_win s.value || is_tie s.value))
    && (not (s.only_fastest && not (is_win s.value))
    && (not (is_draw s.value && (s.tries || not (s.min_tries == 0)))
    && not (s.distinct && (not (s.only_move || (s.only_fastest || s.whole_line)) && s.min_moves == 0))))))

abbrev pub if_possible : Sought → Option Sought
if_possible s = if is_possible s then Some s else None

-- the order by tries, if they are counted
abbrev pub hard_order : Bool → Option (Option Order)
hard_order tries = if tries then Some (Some Hard) else None

-- the order that a word names: that of the indexes (none), or another
abbrev pub order_named : Bool → List ℕ → Option (Option Order)
order_named tries word = if bytes_eq word (codes "index") then Some None else (if bytes_eq word (codes "long") then Some (Some Long)
    else (if bytes_eq word (codes "hard") then hard_order tries else None))

-- the first positions of an order up to a limit
abbrev pub first_in : Option Order → ℕ → Choice
first_in None limit = First limit
first_in (Some order) limit = Sorted order limit

-- the parts that an answer has besides a position's value and moves: one more of them, which is not there before
abbrev pub with_word : With → List ℕ → Option With
with_word w word =
    if bytes_eq word (codes "canonical") then (if w.canonical then None else Some (record w { canonical = true }))
    else (if bytes_eq word (codes "parents") then (if w.parents then None else Some (record w { parents = true }))
    else (if bytes_eq word (codes "symmetric") then (if w.symmetric then None else Some (record w { symmetric = true }))
    else (if bytes_eq word (codes "best") then (if w.best then None else Some (record w { best = true }))
    else None)))

abbrev pub with_words : With → List (List ℕ) → Option With
with_words w [] = Some w
with_words w (word ∷ words) = option_and_then (λ more. with_words more words) (with_word w word)

abbrev pub begin_with : ℕ → List (List ℕ) → List (List ℕ)
begin_with c [] = (c ∷ []) ∷ []
begin_with c (word ∷ words) = (c ∷ word) ∷ words

-- the parts of a text between its commas (44)
abbrev pub split_at_commas : List ℕ → List (List ℕ)
split_at_commas [] = [] ∷ []
split_at_commas (c ∷ cs) = if c == 44 then [] ∷ split_at_commas cs else begin_with c (split_at_commas cs)

-- nothing but the value and the moves
abbrev pub with_nothing : With
with_nothing = record { canonical = false; parents = false; symmetric = false; best = false }

module _ (rows : List Row) where
  -- `--remoteness`; none if it is no span
  abbrev pub remoteness_option : Option (Option Span)
  remoteness_option = elim (text_in rows (codes "remoteness")) [ None ↦ Some None | Some text ↦ option_map (λ span. Some span) (span_in text) ]

  -- the properties that are searched for; none if no position can have them
  abbrev pub sought_in : Option Sought
  sought_in = option_and_then (λ remoteness. option_and_then (λ value. if_possible (record {
    value = value;
    remoteness = remoteness;
    only_move = has rows (codes "only-move");
    only_fastest = has rows (codes "only-fastest");
    whole_line = has rows (codes "whole-line");
    distinct = has rows (codes "distinct");
    min_moves = number_or rows (codes "min-moves") 0;
    min_tries = number_or rows (codes "min-tries") 0;
    tries = has rows (codes "tries");
  })) (option_and_then value_named (text_in rows (codes "value")))) remoteness_option

  -- `--sort`; none if it names no order
  abbrev pub order_in : Option (Option Order)
  order_in = elim (text_in rows (codes "sort")) [ None ↦ Some None | Some word ↦ order_named (has rows (codes "tries")) word ]

  -- `--spread`: how many positions with one best move are listed of those that are apart; none if the value is a draw
  abbrev pub spread_in : Value → Option (Option ℕ)
  spread_in value = if has rows (codes "spread")
      then (if is_draw value then None else Some (Some (number_or rows (codes "per-move") no_limit))) else Some None

  -- a number of positions by chance, or the first of an order up to a limit
  abbrev pub choice_in : Option Order → Choice
  choice_in order = elim (option_number rows (codes "random")) [
    | None ↦ first_in order (number_or rows (codes "limit") no_limit)
    | Some number ↦ Random number (number_or rows (codes "seed") 0)
  ]

  -- the same of positions that are apart
  abbrev pub apart_in : Option Order → ℕ → Choice
  apart_in order k = elim (option_number rows (codes "random")) [
    | None ↦ Apart order k (number_or rows (codes "limit") no_limit) None (option_number rows (codes "orient"))
    | Some number ↦ Apart order k number (Some (number_or rows (codes "seed") 0)) (option_number rows (codes "orient"))
  ]

  abbrev pub choice_among : Option Order → Option ℕ → Choice
  choice_among order None = choice_in order
  choice_among order (Some k) = apart_in order k

  abbrev pub report_in : Report
  report_in = if has rows (codes "json") then Lines Json else (if has rows (codes "page") then Sheet
      else (if has rows (codes "show") then Lines Boards else Lines Rows))

  -- the search: its properties, its tier or none for all, whether positions are to be reached, how many, and how they are written
  abbrev pub search_in : Option PositionSearch
  search_in = option_and_then (λ sought. option_and_then (λ order. option_map (λ spread. record {
    sought = sought;
    tier = tier_in rows (codes "tier");
    reached = has rows (codes "reached");
    choice = choice_among order spread;
    report = report_in;
  }) (spread_in sought.value)) order_in) sought_in

  -- `--with`; none if a word of it is unknown or comes twice
  abbrev pub with_in : Option With
  with_in = elim (text_in rows (codes "with")) [ None ↦ Some with_nothing | Some text ↦ with_words with_nothing (split_at_commas text) ]

  -- the answer that each position gets
  abbrev pub answer_in : Option Asked
  answer_in = option_map (λ more. record { values = has rows (codes "values"); distinct = has rows (codes "distinct"); «with» = more }) with_in

  abbrev pub ask_in : Option AskRequest
  ask_in = option_map (λ answer. record { answer = answer; ready = has rows (codes "ready") }) answer_in
