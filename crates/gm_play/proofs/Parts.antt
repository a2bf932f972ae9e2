-- Prefixes of texts that are written.
use Rattle.gm_play.proofs.Lower.{◌≡◌, ℕ, List, [], ◌++◌, take, drop, Option, sym, subst, ap, ◌∙◌, append_assoc, append-nil, Appends, Appends-trans}
use Rattle.std.specs.Io.KnownBytes.{Keeps}
use Rattle.gm_play.specs.Sessions.{AppendsPart}
use Rattle.std.proofs.Common.{Result, Ok, Err, IfErr, take-append-drop}
use Rattle.std.specs.Result.{IsErrAnd}
use Rattle.std.proofs.KnownBytes.{Appends-kept}

pub part_kept : (a b c : Option (List ℕ)) (n : ℕ) (xs : List ℕ) → Appends a b (take n xs) → Keeps b c → AppendsPart a c xs
part_kept a b c n xs h k = (take n xs, drop n xs, sym (take-append-drop n xs), Appends-kept a b c (take n xs) h k)

pub part_stuck : (a b c : Option (List ℕ)) (n m : ℕ) (xs buf : List ℕ) → Appends a b (take n xs) → Appends b c (take m buf) → m ≡ 0 → AppendsPart a c xs
part_stuck a b c n m xs buf h k e =
    let k0 : Appends b c [] = subst (λ m. Appends b c (take m buf)) e k in
    (take n xs, drop n xs, sym (take-append-drop n xs), subst (Appends a c) (append-nil (take n xs)) (Appends-trans a b c (take n xs) [] h k0))

-- a prefix of a text is a prefix of a longer one
pub part_longer : (a b : Option (List ℕ)) (xs ys : List ℕ) → AppendsPart a b xs → AppendsPart a b (xs ++ ys)
part_longer a b xs ys (done, rest, e, h) = (done, rest ++ ys, ap (λ l. l ++ ys) e ∙ append_assoc done rest ys, h)

-- a text, and then a prefix of another
pub part_after : (a b c : Option (List ℕ)) (xs ys : List ℕ) → Appends a b xs → AppendsPart b c ys → AppendsPart a c (xs ++ ys)
part_after a b c xs ys h (done, rest, e, k) = (xs ++ done, rest, ap (λ l. xs ++ l) e ∙ sym (append_assoc xs done rest), Appends-trans a b c xs done h k)

-- an error that is passed on broke what it broke
pub passed : {T E : Type 0} → (r : Result T E) (Q : E → Type 0) (e : E) → IsErrAnd r (λ y. y ≡ e) → Q e → IfErr r Q
passed (Ok x) Q e h q = tt
passed (Err y) Q e h q = subst Q (sym h) q
