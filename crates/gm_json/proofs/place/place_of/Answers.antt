use Rattle.gm_json.proofs.Lower.{◌≡◌, ◌∷◌, [], Some, refl, sym, subst, ap₂, at}
use Rattle.gm_json.specs.Places.{IsPlaceLine}
use Rattle.gm_json.proofs.Placing.{has_space, words_of, names}
use Rattle.std.proofs.lemmas.Bool.Decides.{Decides-eqb}
use Rattle.std.proofs.lemmas.Slice.Eq.{strip_prefix_is}
use Rattle.gm_json.proofs.place.place_of.Goals as goal

pub returns-in_err-space : goal.returns-in_err-space
returns-in_err-space c p =
    let line = c.args.line.now in
    let mark = strip_prefix_is Decides-eqb line (64 ∷ []) (Some c.in_ok-words.words) c.in_ok-words.ensures.cases in (
      λ e. absurd (cc (e, c.from_residual-in_err-space.ensures)),
      λ is. absurd (has_space line c.in_ok-words.words.now mark p is (sym c.in_err-space.ensures.value)),
    )

pub returns-in_err-tier : goal.returns-in_err-tier
returns-in_err-tier c p =
    let line = c.args.line.now in
    let mark = strip_prefix_is Decides-eqb line (64 ∷ []) (Some c.in_ok-words.words) c.in_ok-words.ensures.cases in (
      λ e. absurd (cc (e, c.from_residual-in_err-tier.ensures)),
      λ is.
          let words = words_of line c.in_ok-words.words.now mark p is c.in_ok-space.space (sym c.in_ok-space.ensures.value) in
          let read = (c.in_err-tier.ensures p.tier).1 (is.tier, words.0) in
          absurd (cc (read)),
    )

pub returns-in_err-index : goal.returns-in_err-index
returns-in_err-index c p =
    let line = c.args.line.now in
    let mark = strip_prefix_is Decides-eqb line (64 ∷ []) (Some c.in_ok-words.words) c.in_ok-words.ensures.cases in (
      λ e. absurd (cc (e, c.from_residual-in_err-index.ensures)),
      λ is.
          let words = words_of line c.in_ok-words.words.now mark p is c.in_ok-space.space (sym c.in_ok-space.ensures.value) in
          let read = (c.in_err-index.ensures p.index).1 (is.index, words.1) in
          absurd (cc (read)),
    )

pub returns : goal.returns
returns c p =
    let line = c.args.line.now in
    let words = c.in_ok-words.words.now in
    let mark = strip_prefix_is Decides-eqb line (64 ∷ []) (Some c.in_ok-words.words) c.in_ok-words.ensures.cases in
    let k = c.in_ok-space.space in
    let found = sym c.in_ok-space.ensures.value in
    let t = c.in_ok-tier.tier in
    let i = c.in_ok-index.index in (
      λ e.
          let same : at t i ≡ p = cc in
          subst (IsPlaceLine line) same (names line words mark k t i found ((c.in_ok-tier.ensures t).0 refl) ((c.in_ok-index.ensures i).0 refl)),
      λ is.
          let two = words_of line words mark p is k found in
          let tier : Some t ≡ Some p.tier = (c.in_ok-tier.ensures p.tier).1 (is.tier, two.0) in
          let index : Some i ≡ Some p.index = (c.in_ok-index.ensures p.index).1 (is.index, two.1) in
          let t_is : t ≡ p.tier = cc in
          let i_is : i ≡ p.index = cc in
          ap₂ (λ t i. Some (at t i)) t_is i_is,
    )
