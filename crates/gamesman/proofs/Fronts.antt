-- First parts of texts that are written.
use Rattle.gamesman.proofs.Lower.{◌≡◌, ℕ, ◌+◌, ◌≤◌, Bool, true, false, List, ◌++◌, length, take, drop, Option, Result, Ok, Err, sym, ap, subst, ◌∙◌, arith, take-append-drop, Appends, Keeps, Appends-trans, Appends-kept, AppendsPart, part_after, Fault, IsPut}
use Rattle.std.proofs.Common.{◌-◌, OnErr, take-add, length-take}
use Rattle.gm_play.proofs.Parts.{part_longer}
use Rattle.gamesman.specs.Listing.{listed_names, listed_later}
use Rattle.std.proofs.lemmas.List.{take-take}

module _ (a b c : Option (List ℕ)) (done : ℕ) (xs : List ℕ) (within : done ≤ length xs) (before : Appends a b (take done xs)) where
  -- a write took some more bytes
  pub more_written : (n next : ℕ) → n ≤ length (take (length xs - done) (drop done xs)) → Appends b c (take n (take (length xs - done) (drop done xs))) →
      next ≡ done + n
      → (next ≤ length xs) × Appends a c (take next xs)
  more_written n next most more is =
      let long = length-take (length xs - done) (drop done xs) in
      let joined = ap (λ l. take done xs ++ l) (take-take n (length xs - done) (drop done xs) (omega arith)) ∙ sym (take-add done n xs) in
      (omega arith, subst (λ (k : ℕ). Appends a c (take k xs)) (sym is) (subst (Appends a c) joined (Appends-trans _ _ _ _ _ before more)))

  -- a write took no byte, and is tried again
  pub same_written : (next : ℕ) → Keeps b c → next ≡ done → (next ≤ length xs) × Appends a c (take next xs)
  same_written next keeps is = (omega arith, subst (λ (k : ℕ). Appends a c (take k xs)) (sym is) (Appends-kept a b c (take done xs) before keeps))

-- the first bytes of a text are a part of it
pub part_of : (a b : Option (List ℕ)) (done : ℕ) (xs : List ℕ) → Appends a b (take done xs) → AppendsPart a b xs
part_of a b done xs before = (take done xs, drop done xs, sym (take-append-drop done xs), before)

-- a text is written, and then the next one or a first part of it
pub put_after : (a b c : Option (List ℕ)) (xs ys : List ℕ) (result : Result ℕ Fault) → Appends a b xs → IsPut ys b c result → IsPut (xs ++ ys) a c result
put_after a b c xs ys (Ok status) before (done, put) = (done, Appends-trans a b c xs ys before put)
put_after a b c xs ys (Err fault) before (failed, part) = (failed, part_after a b c xs ys before part)

-- a first part of the names that `list` prints is also one of the names that `list --all` prints
pub part_listed : (all : Bool) (a b : Option (List ℕ)) → AppendsPart a b (listed_names false) → AppendsPart a b (listed_names all)
part_listed false a b part = part
part_listed true a b part = part_longer a b (listed_names false) listed_later part

-- a property after a failed write, from one after its last part
pub err_after : {A E : Type 0} (result : Result A E) (P Q : Type 0) → (P → Q) → OnErr result P → OnErr result Q
err_after (Ok x) P Q f h = tt
err_after (Err e) P Q f h = f h
