-- Fronts of texts that are written.
use Rattle.gm_tierdb.proofs.Lower.{◌≡◌, ℕ, ◌+◌, ◌≤◌, List, [], ◌++◌, length, length-append, arith, take, drop, Option, sym, subst, append-nil, Appends}
use Rattle.std.proofs.Common.{take-append-drop}
use Rattle.std.proofs.KnownBytes.{Appends-trans, Appends-kept}
use Rattle.std.specs.Io.KnownBytes.{Keeps}
use Rattle.gm_tierdb.specs.inner.Streams.{AppendsPart}

pub part_kept : (a b c : Option (List ℕ)) (n : ℕ) (xs : List ℕ) → Appends a b (take n xs) → Keeps b c → AppendsPart a c xs
part_kept a b c n xs h k = (take n xs, drop n xs, sym (take-append-drop n xs), Appends-kept a b c (take n xs) h k)

pub part_stuck : (a b c : Option (List ℕ)) (n m : ℕ) (xs buf : List ℕ) → Appends a b (take n xs) → Appends b c (take m buf) → m ≡ 0 → AppendsPart a c xs
part_stuck a b c n m xs buf h k e =
    let none : Appends b c [] = subst (λ m. Appends b c (take m buf)) e k in
    (take n xs, drop n xs, sym (take-append-drop n xs), subst (Appends a c) (append-nil (take n xs)) (Appends-trans a b c (take n xs) [] h none))

pub joined_small : (before given : List ℕ) (most : ℕ) → length before + length given ≤ most → length (before ++ given) ≤ most
joined_small before given most h = omega (arith, length-append before given)
