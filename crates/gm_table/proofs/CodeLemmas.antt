-- The number of a record tells it apart from each other record.
use Rattle.gm_table.proofs.Lower.{◌≡◌, ◌≢◌, ℕ, suc, ◌+◌, ◌<◌, ◌≤◌, List, Option, None, Some, refl, ap, sym, ◌∙◌, arith, REMOTENESS, Solved, Position, Rules, IsTrueValue, IsRecord}
use Rattle.std.proofs.Common.{◌^◌, ◌*◌}
use Rattle.std.proofs.lemmas.Nat.{from_le_bytes-to_le_bytes_2, from_le_bytes-to_le_bytes_4}
use Rattle.gm_game.specs.declared.position.Value.{Value}
use Rattle.gm_game.specs.declared.position.Value.TheVariants.{Lose, Draw, Tie, Win}
use Rattle.gm_game.specs.Values.{HasValue}
use Rattle.gm_game.specs.Records.{solved}
use Rattle.gm_table.specs.declared.version.Version.{Version}
use Rattle.gm_table.specs.declared.version.Version.TheVariants.{One, Two}
use Rattle.gm_table.specs.RecordCodes.{record_width, width, step, most, code, IsStorableSolved, IsStorable, record_number, record_bytes}
use Rattle.std.specs.Int.{from_le_bytes, to_le_bytes}

-- the limits of the versions
pub step_most : (v : Version) → step v ≡ suc (most v)
step_most One = refl
step_most Two = refl

-- no remoteness is above the limit
pub remoteness_small : (v : Version) (value : Value) (n : ℕ) → IsStorableSolved v value n → n < step v
remoteness_small v Lose n h = omega (arith, step_most v)
remoteness_small v Draw n h = omega (arith, step_most v)
remoteness_small v Tie n h = omega (arith, step_most v)
remoteness_small v Win n h = omega (arith, step_most v)

code_small : (value : Value) → (1 ≤ code value) × (code value ≤ 4)
code_small Lose = (omega arith, omega arith)
code_small Draw = (omega arith, omega arith)
code_small Tie = (omega arith, omega arith)
code_small Win = (omega arith, omega arith)

same_code : (v w : Value) → code v ≡ code w → v ≡ w
same_code Lose Lose e = refl
same_code Lose Draw e = absurd (omega arith)
same_code Lose Tie e = absurd (omega arith)
same_code Lose Win e = absurd (omega arith)
same_code Draw Lose e = absurd (omega arith)
same_code Draw Draw e = refl
same_code Draw Tie e = absurd (omega arith)
same_code Draw Win e = absurd (omega arith)
same_code Tie Lose e = absurd (omega arith)
same_code Tie Draw e = absurd (omega arith)
same_code Tie Tie e = refl
same_code Tie Win e = absurd (omega arith)
same_code Win Lose e = absurd (omega arith)
same_code Win Draw e = absurd (omega arith)
same_code Win Tie e = absurd (omega arith)
same_code Win Win e = refl

-- a number splits into code and remoteness in one way
pub split_once : (v : Version) (a b n m : ℕ) → n < step v → m < step v → a * step v + n ≡ b * step v + m → (a ≡ b) × (n ≡ m)
split_once One a b n m n< m< e = (omega arith, omega arith)
split_once Two a b n m n< m< e = (omega arith, omega arith)

same_solved : (v : Version) (s t : Solved) → IsStorableSolved v s.value s.remoteness → IsStorableSolved v t.value t.remoteness → code s.value * step v +
    s.remoteness ≡ code t.value * step v + t.remoteness → s ≡ t
same_solved v s t hs ht e =
    let (c, n) = split_once v (code s.value) (code t.value) s.remoteness t.remoteness (remoteness_small v s.value s.remoteness hs)
    (remoteness_small v t.value t.remoteness ht) e in
    ap (λ x. solved x s.remoteness) (same_code s.value t.value c) ∙ ap (solved t.value) n

-- the number of a record with a value isn't 0
above_zero : (v : Version) (s : Solved) → 0 < record_number v (Some s)
above_zero One s = let low = (code_small s.value).0 in omega arith
above_zero Two s = let low = (code_small s.value).0 in omega arith

pub same_record : (v : Version) (o p : Option Solved) → IsStorable v o → IsStorable v p → record_number v o ≡ record_number v p → o ≡ p
same_record v None None ho hp e = refl
same_record v None (Some t) ho hp e = let low = above_zero v t in absurd (omega arith)
same_record v (Some s) None ho hp e = let low = above_zero v s in absurd (omega arith)
same_record v (Some s) (Some t) ho hp e = ap (λ x. Some x) (same_solved v s t ho hp e)

number_small : (v : Version) (o : Option Solved) → IsStorable v o → record_number v o < 256 ^ width v
number_small One None h = omega arith
number_small Two None h = omega arith
number_small One (Some s) h = let high = (code_small s.value).1 in let small = remoteness_small One s.value s.remoteness h in omega arith
number_small Two (Some s) h = let high = (code_small s.value).1 in let small = remoteness_small Two s.value s.remoteness h in omega arith

-- the bytes of a number give it back
number_back : (v : Version) (n : ℕ) → n < 256 ^ width v → from_le_bytes (record_width v) (to_le_bytes (record_width v) n) ≡ n
number_back One n h = from_le_bytes-to_le_bytes_2 n h
number_back Two n h = from_le_bytes-to_le_bytes_4 n h

-- if a number is that of no record, its bytes are those of none
pub none_here : (v : Version) (number : ℕ) (one : List ℕ) → number < 256 ^ width v → to_le_bytes (record_width v) number ≡ one →
    ((o : Option Solved) → IsStorable v o → record_number v o ≢ number)
    → (o : Option Solved) → IsStorable v o → one ≢ record_bytes v o
none_here v number one small e none o ok same =
    none o ok (sym (number_back v (record_number v o) (number_small v o ok)) ∙ ap (from_le_bytes (record_width v)) (sym (e ∙ same)) ∙ number_back v number
    small)

-- so do those of a record
pub same_bytes : (v : Version) (o p : Option Solved) → IsStorable v o → IsStorable v p → record_bytes v o ≡ record_bytes v p → o ≡ p
same_bytes v o p ho hp e =
    same_record v o p ho hp (sym (number_back v (record_number v o) (number_small v o ho)) ∙ ap (from_le_bytes (record_width v)) e ∙ number_back v
    (record_number v p) (number_small v p hp))

-- a record of a table can be in a file
storable_value : (r : Rules) (p : Position) (value : Value) (n : ℕ) → HasValue r p value n → n ≤ REMOTENESS → IsStorableSolved Two value n
storable_value r p Lose n h small = small
storable_value r p Draw n h small = h.0
storable_value r p Tie n h small = small
storable_value r p Win n h small = small

pub storable_record : (r : Rules) (p : Position) (o : Option Solved) → IsRecord r REMOTENESS (IsTrueValue r) p o → IsStorable Two o
storable_record r p None h = tt
storable_record r p (Some s) h = storable_value r p s.value s.remoteness h.1 h.2
