-- The trees of found positions have no float.
use Rattle.gm_json.proofs.Lower.{◌≡◌, ℕ, false, List, Option, None, Some, refl, Data, Position}
use Rattle.serde_json.specs.Written.{has_float}
use Rattle.gm_find.specs.declared.found.Found.{Found}
use Rattle.gm_find.specs.declared.tries.Tries.{Tries}
use Rattle.gm_json.specs.Founds.{found_tree}
use Rattle.gm_json.specs.Words.{move_or_null}

module _ (shown : Position → List ℕ) (move_shown : Position → ℕ → List ℕ) where
  best_no_float : (p : Position) (o : Option ℕ) → has_float (move_or_null move_shown p o) ≡ false
  best_no_float p None = refl
  best_no_float p (Some m) = refl

  tries_no_float : (x : Found) (o : Option Tries) → x.tries ≡ o → has_float (found_tree shown move_shown x) ≡ false
  tries_no_float x None e = rw (e, best_no_float x.position x.best) refl
  tries_no_float x (Some t) e = rw (e, best_no_float x.position x.best) refl

  pub found_no_float : (d : Data) (x : Found) → d ≡ found_tree shown move_shown x → has_float d ≡ false
  found_no_float d x e = rw e (tries_no_float x x.tries refl)
