-- Distinct moves: of those that lead to the same canonical position, only the first.
use Rattle.gm_play.proofs.Lower.{◌≡◌, ◌+◌, ◌<◌, ◌≤◌, Bool, true, false, List, [], ◌∷◌, ◌++◌, ℕ, length, drop, get_or, sym, ap, subst, ◌∙◌, arith, All, length-append, drop_more, All-push, Rules, MoveValue, firsts_onto}
use Rattle.gm_play.specs.Firsts.{leads_alike, with_first, chosen}
use Rattle.std.proofs.lemmas.List.Elements.{All-head, All-tail, All-nil}
use Rattle.std.proofs.Common.{if◌then◌else◌}

kept_if : (P : MoveValue → Type 0) (b : Bool) (kept : List MoveValue) (x : MoveValue) → All P kept → P x → All P (if b then kept else kept ++ x ∷ [])
kept_if P true kept x h p = h
kept_if P false kept x h p = All-push P kept x h p

all_firsts : (r : Rules) (P : MoveValue → Type 0) (kept xs : List MoveValue) → All P kept → All P xs → All P (firsts_onto r kept xs)
all_firsts r P kept [] h t = h
all_firsts r P kept (x ∷ xs) h t = all_firsts r P (with_first r kept x) xs (kept_if P (leads_alike r kept x) kept x h (All-head P x xs t)) (All-tail P x xs t)

pub all_chosen : (r : Rules) (P : MoveValue → Type 0) (distinct : Bool) (list : List MoveValue) → All P list → All P (chosen r distinct list)
all_chosen r P true list h = all_firsts r P [] list (All-nil P) h
all_chosen r P false list h = h

-- one more move
pub next_on : (r : Rules) (kept new list all : List MoveValue) (k : ℕ) (d : MoveValue) → k < length list → new ≡ with_first r kept (get_or list k d) →
    firsts_onto r kept (drop k list) ≡ all → firsts_onto r new (drop (k + 1) list) ≡ all
next_on r kept new list all k d inside e h =
    ap (λ (ms : List MoveValue). firsts_onto r ms (drop (k + 1) list)) e ∙ ap (firsts_onto r kept) (sym (drop_more list k d inside)) ∙ h

few_if : (b : Bool) (kept : List MoveValue) (x : MoveValue) → length (if b then kept else kept ++ x ∷ []) ≤ length kept + 1
few_if true kept x = omega arith
few_if false kept x = (let e = length-append kept (x ∷ []) in omega arith)

pub next_few : (r : Rules) (kept new : List MoveValue) (x : MoveValue) (k : ℕ) → new ≡ with_first r kept x → length kept ≤ k → length new ≤ k + 1
next_few r kept new x k e h = (let f = few_if (leads_alike r kept x) kept x in let g : length new ≡ length (with_first r kept x) = ap length e in omega arith)

pub next_all : (r : Rules) (P : MoveValue → Type 0) (kept new : List MoveValue) (x : MoveValue) → new ≡ with_first r kept x → All P kept → P x → All P new
next_all r P kept new x e h p = subst (All P) (sym e) (kept_if P (leads_alike r kept x) kept x h p)
