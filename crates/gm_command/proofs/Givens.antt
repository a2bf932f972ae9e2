-- What the getters of clap's matches read, by the rows.
use Rattle.std.proofs.Common.{◌≡◌, ◌∙◌, ◌^◌, ◌&&◌, ℕ, Bool, cond, true, false, refl, sym, ap, List, [], ◌∷◌, length, nat_lt, Option, Some, None, Result, Ok, Err, codes, lt-ltb, ltb-true}
use Rattle.std.specs.List.{list_all, find}
use Rattle.std.specs.Option.{option_map, option_map_or, unwrap_or}
use Rattle.std.specs.Prelude.{option_and_then}
use Rattle.std.specs.Char.{digit_value}
use Rattle.std.specs.Str.{bytes_eq}
use Rattle.std.specs.Str.Parse.{AllDigits, ParsesBool, ParsesUnsigned, digits_value, without_leading_plus}
use Rattle.std.proofs.lemmas.Slice.Eq.{bytes_eq-Decides}
use Rattle.clap.specs.Words.{ReadsOne, Row, matched_of, rows_of}
use Rattle.clap.specs.Facts.{Entry}
use Rattle.clap.specs.Walk.{row_of}
use Rattle.clap.specs.declared.parser.matches.Found.{Found}
use Rattle.clap.specs.declared.parser.matches.MatchedArg.{MatchedArg}
use Rattle.clap.specs.declared.parser.matches.ValueSource.{ValueSource}
use Rattle.clap.proofs.WalkLemmas.{find_row}
use Rattle.gm_command.specs.Given.{given, is_of_line, number_below}
use Rattle.gm_command.proofs.Bools.{both, left, right}

-- a flag is `true` exactly if its text is
pub flag_read : (E : Type 0) (o : Option (List ℕ)) (r : Option Bool) → (o ≡ None → r ≡ None)
    → ((t : List ℕ) → o ≡ Some t → ReadsOne {T = Bool} {E = E} ParsesBool t r) → unwrap_or r false ≡ option_map_or (λ t. bytes_eq t (codes "true")) o false
flag_read E None r none value = ap (λ (x : Option Bool). unwrap_or x false) (none refl)
flag_read E (Some t) (Some true) none value = sym (ap (λ (x : List ℕ). bytes_eq x (codes "true")) (value t refl))
flag_read E (Some t) (Some false) none value = sym (ap (λ (x : List ℕ). bytes_eq x (codes "true")) (value t refl))
flag_read E (Some t) None none value = go (bytes_eq t (codes "true")) refl
  where
    go : (b : Bool) → bytes_eq t (codes "true") ≡ b → false ≡ b
    go true e = absurd ((value t refl).1.0 ((bytes_eq-Decides t (codes "true")).0 e))
    go false e = refl

digits_pass : (ds : List ℕ) → AllDigits 10 ds → list_all (λ d. nat_lt (digit_value d) 10) ds ≡ true
digits_pass [] h = refl
digits_pass (d ∷ ds) h = both _ _ (lt-ltb (digit_value d) 10 h.0) (digits_pass ds h.1)

digits_from : (ds : List ℕ) → list_all (λ d. nat_lt (digit_value d) 10) ds ≡ true → AllDigits 10 ds
digits_from [] e = tt
digits_from (d ∷ ds) e = (ltb-true _ _ (left _ _ e), digits_from ds (right _ _ e))

abbrev is_below : ℕ → List ℕ → Bool
is_below limit ds = (nat_lt 0 (length ds) && list_all (λ d. nat_lt (digit_value d) 10) ds) && nat_lt (digits_value 10 ds) limit

-- a text is read as a number of k bits
pub below_read : (E : Type 0) (k : ℕ) (t : List ℕ) (r : Result ℕ E) → ParsesUnsigned k 10 t r
    → (o : Option ℕ) → (o ≡ Rattle.std.specs.Result.result_ok r) → o ≡ number_below (2 ^ k) t
below_read E k t (Ok n) h o is =
    let ds = without_leading_plus t in
    let passes : is_below (2 ^ k) ds ≡ true = both _ _ (both _ _ (lt-ltb 0 (length ds) h.0.0.0) (digits_pass ds h.0.0.1)) (lt-ltb (digits_value 10 ds) (2 ^ k) h.0.1) in
    is ∙ ap Some h.1 ∙ sym (ap (λ (b : Bool). cond b (Some (digits_value 10 ds)) None) passes)
below_read E k t (Err e) h o is = go (is_below (2 ^ k) (without_leading_plus t)) refl
  where
    go : (b : Bool) → is_below (2 ^ k) (without_leading_plus t) ≡ b → o ≡ cond b (Some (digits_value 10 (without_leading_plus t))) None
    go false p = is
    go true p = absurd (h ((ltb-true _ _ (left _ _ (left _ _ p)), digits_from _ (right _ _ (left _ _ p))), ltb-true _ _ (right _ _ p)))

-- an option is read as a number of k bits
pub number_read : (E : Type 0) (G : List ℕ → Result ℕ E → Type 0) (k : ℕ) (o : Option (List ℕ)) (r : Option ℕ) → (o ≡ None → r ≡ None)
    → ((t : List ℕ) → o ≡ Some t → ReadsOne G t r) → ((t : List ℕ) (x : Result ℕ E) → G t x → ParsesUnsigned k 10 t x)
    → r ≡ option_and_then (number_below (2 ^ k)) o
number_read E G k None r none value parses = none refl
number_read E G k (Some t) (Some n) none value parses = below_read E k t (Ok n) (parses t (Ok n) (value t refl)) (Some n) refl
number_read E G k (Some t) None none value parses =
    let read = value t refl in
    below_read E k t (Err read.0) (parses t (Err read.0) read.1) None refl

-- where the value of a word came from, by the rows
pub source_rows : (f : Found) (id : List ℕ) → option_and_then (λ (a : MatchedArg). a.source) (matched_of f id)
    ≡ option_and_then (λ (r : Row). r.source) (find (λ r. bytes_eq r.id id) (rows_of f))
source_rows f id = go (find (λ (e : Entry). bytes_eq e.0.now id) f.entries.items) ∙ ap (option_and_then (λ (r : Row). r.source)) (sym (find_row f.entries.items id))
  where
    go : (o : Option Entry) → option_and_then (λ (a : MatchedArg). a.source) (option_map (λ (e : Entry). e.1) o)
        ≡ option_and_then (λ (r : Row). r.source) (option_map row_of o)
    go None = refl
    go (Some e) = refl

pub given_is : (f : Found) (id : List ℕ) (r : Option ValueSource) → r ≡ option_and_then (λ (a : MatchedArg). a.source) (matched_of f id)
    → is_of_line r ≡ given (rows_of f) id
given_is f id r is = ap is_of_line (is ∙ source_rows f id)
