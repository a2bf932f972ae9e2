-- An exact count stays exact when a level is added, and when it turns to ties.
use Rattle.gm_frontier.proofs.Lower.{◌≡◌, ℕ, ◌+◌, ◌<◌, ◌^◌, inl, inr, List, refl, sym, ap, subst, ◌∙◌, arith, Option, None, Some, Phase, WinLose, Ties, Place, Rules, IsGame, IsLastLevel, NoteData, LevelData, IsLevel, number_into, IsExpected}
use Rattle.gm_frontier.specs.Levels.{place_at}
use Rattle.gm_frontier.specs.Counts.{ExpectedData, IsNumberBefore, next_level, level_after}
use Rattle.gm_frontier.proofs.CountLemmas.{level_added, number_few, ties_begin}

-- what the fields of an Expected show
abbrev pub shown : ℕ → ℕ → ℕ → Option Place → Phase → ℕ → ExpectedData
shown tier lo hi last phase number = record { tier = tier; lo = lo; hi = hi; last = last; phase = phase; level = next_level last phase; number = number }

level_after_same : (phase : Phase) (n : ℕ) → level_after phase n phase ≡ n + 1
level_after_same WinLose n = refl
level_after_same Ties n = refl

pub expected_added : (r : Rules) → IsGame r → (tier lo hi : ℕ) (last : Option Place) (phase : Phase) (number : ℕ)
    → IsExpected r (shown tier lo hi last phase number)
    → (place : Place) (notes : List NoteData) → IsLevel r place notes → place ≡ place_at tier phase (next_level last phase) → (more : ℕ)
    → more ≡ number_into r tier lo hi notes → IsExpected r (shown tier lo hi (Some place) phase (number + more))
expected_added r g tier lo hi last phase number h place notes level e more m =
    let here = place_at tier phase (next_level last phase) in
    let next : level_after phase (next_level last phase) phase ≡ next_level last phase + 1 = level_after_same phase (next_level last phase) in
    let added : IsNumberBefore r tier lo hi phase (next_level last phase + 1) (number + number_into r tier lo hi notes) =
    level_added r g lo hi here notes (subst (λ (p : Place). IsLevel r p notes) e level) number h.number in
    let there : IsExpected r (shown tier lo hi (Some here) phase (number + more)) = record {
      small = h.small;
      next = inl (refl, next);
      number = subst (λ (n : ℕ). IsNumberBefore r tier lo hi phase n (number + more)) (sym next)
          (subst (λ (n : ℕ). IsNumberBefore r tier lo hi phase (next_level last phase + 1) (number + n)) (sym m) added);
    } in
    subst (λ (p : Place). IsExpected r (shown tier lo hi (Some p) phase (number + more))) (sym e) there

-- the same, as a method has it: the fields show d, and the level is the next one of d
pub level_added_to : (r : Rules) → IsGame r → (tier lo hi : ℕ) (last : Option Place) (phase : Phase) (number : ℕ)
    → IsExpected r (shown tier lo hi last phase number) → (d : ExpectedData) → shown tier lo hi last phase number ≡ d
    → (level : LevelData) → IsLevel r level.place level.notes → level.place ≡ place_at d.tier d.phase d.level → (more : ℕ)
    → more ≡ number_into r level.place.tier lo hi level.notes → IsExpected r (shown tier lo hi (Some level.place) phase (number + more))
level_added_to r g tier lo hi last phase number h d shows level is e more m =
    let next : level.place ≡ place_at tier phase (next_level last phase) =
    subst (λ (x : ExpectedData). level.place ≡ place_at x.tier x.phase x.level) (sym shows) e in
    expected_added r g tier lo hi last phase number h level.place level.notes is next more (m ∙ ap (λ (p : Place). number_into r p.tier lo hi level.notes) next)

-- and fits
pub expected_fits : (r : Rules) → IsGame r → (e : ExpectedData) → IsExpected r e → e.number < 2 ^ 64
expected_fits r g e h =
    let few = number_few r g e.tier e.lo e.hi e.phase e.level e.number h.number in
    let small = h.small in
    omega arith

pub expected_turned : (r : Rules) → IsGame r → (tier lo hi : ℕ) (last : Option Place) (number : ℕ) → IsExpected r (shown tier lo hi last WinLose number)
    → IsLastLevel r tier WinLose (next_level last WinLose) → IsExpected r (shown tier lo hi last Ties number)
expected_turned r g tier lo hi None number h end = record { small = h.small; next = (refl, end); number = ties_begin r g tier lo hi 0 number end h.number }
expected_turned r g tier lo hi (Some p) number h end = elim h.next [
  | inl (same, n) ↦ (let first : level_after p.phase p.level Ties ≡ 0 = ap (λ (q : Phase). level_after q p.level Ties) same in
      record {
        small = h.small;
        next = inr (refl, first, same, subst (IsLastLevel r tier WinLose) n end);
        number = subst (λ (k : ℕ). IsNumberBefore r tier lo hi Ties k number) (sym first)
            (ties_begin r g tier lo hi (level_after p.phase p.level WinLose) number end h.number);
      })
  | inr (never, first, same, rest) ↦ absurd (cc)
]
