-- Names of games, and the texts of values.
use Rattle.std.specs.Prelude.{◌≡◌, ℕ, Bool, true, ◌&&◌, ◌==◌, nat_lt, List, [], ◌∷◌, ◌++◌, codes, if◌then◌else◌}
use Rattle.std.specs.List.{list_all}
use Rattle.std.specs.Fmt.{decimal}
use Rattle.gm_game.specs.declared.position.Value.{Value}
use Rattle.gm_game.specs.declared.position.Value.TheVariants.{Lose, Draw, Tie, Win}
use Rattle.gm_game.specs.declared.position.Solved.{Solved}

-- bytes below 128, and after the first zero byte only zero bytes
abbrev pub is_padded_text : List ℕ → Bool
is_padded_text [] = true
is_padded_text (b ∷ bs) = if b == 0 then list_all (λ c. c == 0) bs else nat_lt b 128 && is_padded_text bs

-- a text of bytes below 128, padded with zeros
abbrev pub IsPaddedText : List ℕ → Type 0
IsPaddedText bs = is_padded_text bs ≡ true

-- the words before a remoteness
abbrev pub value_words : Value → List ℕ
value_words Lose = codes "lose in "
value_words Draw = codes "draw"
value_words Tie = codes "tie in "
value_words Win = codes "win in "

-- the text of a value and its remoteness; a draw has none
abbrev pub value_text_of : Value → ℕ → List ℕ
value_text_of Lose n = value_words Lose ++ decimal n
value_text_of Draw n = value_words Draw
value_text_of Tie n = value_words Tie ++ decimal n
value_text_of Win n = value_words Win ++ decimal n

-- the text of a record
abbrev pub text_of : Solved → List ℕ
text_of s = value_text_of s.value s.remoteness
