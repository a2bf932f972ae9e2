-- What a line gives: the texts, flags and numbers of its words, by their names.
use Rattle.std.specs.Prelude.{ℕ, ◌^◌, ◌==◌, ◌&&◌, Bool, true, false, List, [], ◌∷◌, length, find, nat_le, nat_lt, Option, Some, None, codes, if◌then◌else◌, option_and_then, unwrap_or}
use Rattle.std.specs.List.{list_all}
use Rattle.std.specs.Option.{option_map_or}
use Rattle.std.specs.Char.{digit_value}
use Rattle.std.specs.Str.{bytes_eq}
use Rattle.std.specs.Str.Parse.{digits_value, without_leading_plus}
use Rattle.clap.specs.Words.{Row, found_of, rows_of, first_of, one_of}
use Rattle.clap.specs.declared.parser.matches.ArgMatches.{ArgMatches}
use Rattle.clap.specs.declared.parser.matches.ValueSource.{ValueSource}
use Rattle.clap.specs.declared.parser.matches.ValueSource.TheVariants.{CommandLine}

-- what clap found for the words of a command
abbrev pub rows_in : ArgMatches → List Row
rows_in matches = rows_of (found_of matches)

-- the greatest limit
abbrev pub no_limit : ℕ
no_limit = 18446744073709551615

-- a number is written without a sign and without leading zeros
abbrev pub is_plain_number : List ℕ → Bool
is_plain_number [] = false
is_plain_number (c ∷ cs) = if c == 48 then length cs == 0 else nat_le 48 c && nat_le c 57

-- the number below this limit that a text is, in decimal digits
abbrev pub number_below : ℕ → List ℕ → Option ℕ
number_below limit text =
    let digits = without_leading_plus text in
    if (nat_lt 0 (length digits) && list_all (λ d. nat_lt (digit_value d) 10) digits) && nat_lt (digits_value 10 digits) limit
    then Some (digits_value 10 digits) else None

abbrev pub is_of_line : Option ValueSource → Bool
is_of_line (Some CommandLine) = true
is_of_line _ = false

-- the line gives the word with this name; a default is not given
abbrev pub given : List Row → List ℕ → Bool
given rows name = is_of_line (option_and_then (λ r. r.source) (find (λ r. bytes_eq r.id name) rows))

-- the text of the word with this name
abbrev pub text_in : List Row → List ℕ → Option (List ℕ)
text_in rows name = first_of name rows

-- the line has this flag
abbrev pub has : List Row → List ℕ → Bool
has rows name = option_map_or (λ text. bytes_eq text (codes "true")) (one_of name rows) false

-- the number of the option with this name
abbrev pub option_number : List Row → List ℕ → Option ℕ
option_number rows name = option_and_then (number_below (2 ^ 32)) (one_of name rows)

-- the number of the tier of the option with this name
abbrev pub tier_in : List Row → List ℕ → Option ℕ
tier_in rows name = option_and_then (number_below (2 ^ 64)) (one_of name rows)

-- the number of the option with this name, or else this one
abbrev pub number_or : List Row → List ℕ → ℕ → ℕ
number_or rows name default = unwrap_or (option_number rows name) default
