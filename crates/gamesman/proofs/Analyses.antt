-- Lines of analyses, with one more tier.
use Rattle.gamesman.proofs.Lower.{◌≡◌, ℕ, ◌+◌, ◌<◌, List, [], ◌∷◌, ◌++◌, length, take, get_or, refl, sym, ap, subst, ◌∙◌, append_assoc, append-nil, take_more, Rules, AreAnalysisLines}
use Rattle.gamesman.specs.Analysing.{IsAnalysisLine}

lines_more : (r : Rules) (tiers : List ℕ) (tier : ℕ) (old line new : List ℕ) → AreAnalysisLines r tiers old → IsAnalysisLine r tier line → new ≡ old ++ line
    → AreAnalysisLines r (tiers ++ tier ∷ []) new
lines_more r [] tier old line new h is e = (line, [], is, refl, e ∙ ap (λ (l : List ℕ). l ++ line) h ∙ sym (append-nil line))
lines_more r (u ∷ us) tier old line new (first, rest, begins, are, split) is e = (
  first,
  rest ++ line,
  begins,
  lines_more r us tier rest line (rest ++ line) are is refl,
  e ∙ ap (λ (l : List ℕ). l ++ line) split ∙ append_assoc first
      rest line,
)

-- the lines up to one more tier
pub lines_next : (r : Rules) (tiers : List ℕ) (k : ℕ) (old new : List ℕ) → k < length tiers → AreAnalysisLines r (take k tiers) old
    → ((line : List ℕ) × IsAnalysisLine r (get_or tiers k 0) line × (new ≡ old ++ line)) → AreAnalysisLines r (take (k + 1) tiers) new
lines_next r tiers k old new inside h (line, is, e) =
    subst (λ (ts : List ℕ). AreAnalysisLines r ts new) (sym (take_more tiers k 0 inside)) (lines_more r (take k tiers) (get_or tiers k 0) old line new h is e)
