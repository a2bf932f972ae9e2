-- The answers to commands that are answered from tables: what they need is not there, or their tables are not built, or a text is put.
use Rattle.gamesman.proofs.Lower.{◌≡◌, ℕ, Bool, List, [], Option, None, Some, Result, Ok, Err, refl, sym, ap, subst, inl, inr, Position, Rules, Fault, GameSpec, IsUnbuilt, IsMemoryFault, IsPut, IsTextFor, IsUnsearched, PositionSearch, text_asked, first_of, max}
use Rattle.std.proofs.Common.{IfOk, IfErr, ◌⊎◌}
use Rattle.std.specs.Borrow.{Bor}
use Rattle.gm_play.specs.PlayTexts.{IsReadAs}
use Rattle.gamesman.specs.Told.{IsNoPlace, IsUnknown, IsTold}
use Rattle.gamesman.specs.Answers.{IsAnsweredBy, IsPagedWith, IsAnsweredFromTables}
use Rattle.gm_page.specs.Pages.{IsPage}
use Rattle.gamesman.specs.Engines.{IsPaged}
use Rattle.gamesman.specs.Solving.{IsReport}
use Rattle.gamesman.specs.Searches.{IsAtText, IsUnplaced, IsCountsOf, IsLongestOf}
use Rattle.gamesman.specs.Analysing.{IsAnalysisText}
use Rattle.gamesman.specs.inner.Needed.{IsAbout, IsAboutNone, AreDigitsOf, IsEngineFaultOf, IsNeeded}
use Rattle.gamesman.specs.declared.needs.Needs.{Needs}
use Rattle.gm_command.specs.declared.requests.TableCommand.{TableCommand}
use Rattle.gm_command.specs.declared.requests.PageRequest.{PageRequest}
use Rattle.gm_command.specs.declared.requests.PlayRequest.{PlayRequest}
use Rattle.gm_command.specs.declared.requests.Question.{Question}
use Rattle.gm_command.specs.declared.requests.TableCommand.TheVariants.{Solve, Explore, Filter, Page, At, Find, Counts, Longest, Analyse, Play}
use Rattle.gamesman.proofs.Cut.{kept, write_refused, unbuilt_refused}
use Rattle.gamesman.proofs.Paged.{engine_cut}
use Rattle.gamesman.proofs.Telling.{memory_told, unbuilt_told, unknown_told, no_place_told, unsearched_told, put_told, find_unsearched}

-- a text that is put unless memory for it was refused
pub text_told : {T E : Type 0} (made : Result T E) (items : T → List ℕ) (memory : E → Fault) (IsText : List ℕ → Type 0) (IsWhy : Fault → Type 0)
    (before after : Option (List ℕ)) (result : Result ℕ Fault)
    → ((e : E) → IsMemoryFault (memory e)) → ((e : E) → IsWhy (memory e)) → IfOk made (λ v. IsText (items v))
    → IfOk made (λ v. IsPut (items v) before after result) → IfErr made (λ e. (result ≡ Err (memory e)) × (after ≡ before)) → IsTold IsText IsWhy before after result
text_told (Ok v) items memory IsText IsWhy before after result out why is put refused = put_told IsText IsWhy (items v) before after result is put
text_told (Err e) items memory IsText IsWhy before after result out why is put (result_is, after_is) =
    subst (λ (o : Option (List ℕ)). IsTold IsText IsWhy before o result) (sym after_is)
    (subst (λ (x : Result ℕ Fault). IsTold IsText IsWhy before before x) (sym result_is) (memory_told IsText before IsWhy (memory e) (why e) (out e)))

-- ---- a position
-- the position is that with the text of the question
pub asked_read : (g : GameSpec) (position : Option (Bor (List ℕ))) (needs : Needs) → IsAbout g position needs
    → IsReadAs g.rules g.shown g.move_shown (text_asked g position) needs.position
asked_read g None needs (from, legal, tier) = (legal, ap g.shown from)
asked_read g (Some text) needs (from, legal, tier) = from

-- an answer about it
pub answered_told : (r : Rules) (shown : Position → List ℕ) (move_shown : Position → ℕ → List ℕ) (text : List ℕ) (IsText : List ℕ → Type 0) (p : Position)
    → IsReadAs r shown move_shown text p → (before after : Option (List ℕ)) (result : Result ℕ Fault) → IsTold IsText (IsUnbuilt r p.tier) before after result
    → IsAnsweredBy r shown move_shown text IsText before after result
answered_told r shown move_shown text IsText p read before after (Ok status) is =
    record { written = is.written; refused = tt; unread = λ none. absurd (none p read) }
answered_told r shown move_shown text IsText p read before after (Err fault) is = record {
  written = is.written;
  refused = elim is.refused [
    | inl out ↦ write_refused r shown move_shown text fault out
    | inr why ↦ unbuilt_refused r shown move_shown text p read fault why
  ];
  unread = λ none. absurd (none p read);
}

-- a page, with the engine or without
abbrev pub IsPageOf : Option (Bor (List ℕ)) → GameSpec → List ℕ → ℕ → List ℕ → Type 0
IsPageOf None g text limit out = IsPage g.rules g.shown g.move_shown g.picture text limit [] out
IsPageOf (Some engine) g text limit out = IsPaged g text limit out

pub page_of : (engine : Option (Bor (List ℕ))) (g : GameSpec) (text : List ℕ) (limit : ℕ) (digits out : List ℕ) → AreDigitsOf engine digits
    → IsPage g.rules g.shown g.move_shown g.picture text limit digits out → IsPageOf engine g text limit out
page_of None g text limit digits out none is = subst (λ (ds : List ℕ). IsPage g.rules g.shown g.move_shown g.picture text limit ds out) none is
page_of (Some engine) g text limit digits out are is = (digits, are, is)

pub paged_told : (engine : Option (Bor (List ℕ))) (g : GameSpec) (text : List ℕ) (limit : ℕ) (p : Position) → IsReadAs g.rules g.shown g.move_shown text p
    → (before after : Option (List ℕ)) (result : Result ℕ Fault) → IsTold (IsPageOf engine g text limit) (IsUnbuilt g.rules p.tier) before after result
    → IsPagedWith engine g text limit before after result
paged_told None g text limit p read before after result is =
    answered_told g.rules g.shown g.move_shown text (IsPageOf None g text limit) p read before after result is
paged_told (Some engine) g text limit p read before after (Ok status) is =
    record { written = is.written; refused = tt; unread = λ none. absurd (none p read) }
paged_told (Some engine) g text limit p read before after (Err fault) is = record {
  written = is.written;
  refused = inr (elim is.refused [
    | inl out ↦ write_refused g.rules g.shown g.move_shown text fault out
    | inr why ↦ unbuilt_refused g.rules g.shown g.move_shown text p read fault why
  ]);
  unread = λ none. absurd (none p read);
}

-- ---- what a command needs is not there
-- no position has the text
pub explore_refused : (g : GameSpec) (position : Option (Bor (List ℕ))) (IsText : List ℕ → Type 0) (fault : Fault) (o : Option (List ℕ)) → IsAboutNone g position fault
    → IsAnsweredBy g.rules g.shown g.move_shown (text_asked g position) IsText o o (Err fault)
explore_refused g None IsText fault o (none, is) = absurd none
explore_refused g (Some text) IsText fault o (none, is) =
    rw is (record { written = kept o; refused = none; unread = λ n. refl })

pub page_refused : (engine : Option (Bor (List ℕ))) (g : GameSpec) (position : Option (Bor (List ℕ))) (limit : ℕ) (fault : Fault) (o : Option (List ℕ))
    → IsAboutNone g position fault → IsPagedWith engine g (text_asked g position) limit o o (Err fault)
page_refused None g position limit fault o is = explore_refused g position (IsPageOf None g (text_asked g position) limit) fault o is
page_refused (Some engine) g None limit fault o (none, is) = absurd none
page_refused (Some engine) g (Some text) limit fault o (none, is) =
    rw is (record { written = kept o; refused = inr none; unread = λ n. refl })

-- no engine is there
pub page_engineless : (engine : Option (Bor (List ℕ))) (g : GameSpec) (text : List ℕ) (limit : ℕ) (p : Position) (fault : Fault) (o : Option (List ℕ))
    → IsReadAs g.rules g.shown g.move_shown text p → IsEngineFaultOf engine fault → IsPagedWith engine g text limit o o (Err fault)
page_engineless None g text limit p fault o read is = absurd is
page_engineless (Some engine) g text limit p fault o read is = record {
  written = engine_cut (IsPaged g text limit) o fault is;
  refused = inl is;
  unread = λ none. absurd (none p read);
}

pub place_refused : (IsText : List ℕ → Type 0) (r : Rules) (tier index : ℕ) (fault : Fault) (o : Option (List ℕ))
    → (IsUnknown r tier fault ⊎ IsNoPlace r tier index fault) → IsTold IsText (IsUnplaced r tier index) o o (Err fault)
place_refused IsText r tier index fault o (inl is) = unknown_told IsText o (IsUnplaced r tier index) fault (inl (inl is)) r tier is
place_refused IsText r tier index fault o (inr is) = no_place_told IsText o (IsUnplaced r tier index) fault (inl (inr is)) r tier index is

-- ---- the tables are not built
module _ (g : GameSpec) (needs : Needs) (fault : Fault) (o : Option (List ℕ)) (is : IsUnbuilt g.rules needs.tier fault) where
  -- those from this tier on
  here : (tier : ℕ) → needs.tier ≡ tier → IsUnbuilt g.rules tier fault
  here tier same = subst (λ (t : ℕ). IsUnbuilt g.rules t fault) same is

  -- those of the game
  whole : (IsText : List ℕ → Type 0) → needs.tier ≡ g.rules.initial.tier → IsTold IsText (IsUnsearched g.rules None) o o (Err fault)
  whole IsText same = unsearched_told IsText o g.rules None fault (inr (here g.rules.initial.tier same))

  -- those of a position
  about : (position : Option (Bor (List ℕ))) (IsText : List ℕ → Type 0) → IsAbout g position needs
      → IsTold IsText (IsUnbuilt g.rules needs.position.tier) o o (Err fault)
  about position IsText (from, legal, same) =
      let why = here needs.position.tier same in
      unbuilt_told IsText o (IsUnbuilt g.rules needs.position.tier) fault why g.rules needs.position.tier why

  pub unbuilt_answered : (command : TableCommand) (input : Option (List ℕ)) → IsNeeded g command needs → IsAnsweredFromTables g command input o o (Err fault)
  unfolding IsAnsweredFromTables
  unbuilt_answered (Solve json) input same = whole (IsReport g.rules json) same
  unbuilt_answered (Explore position question) input this =
      let text = text_asked g position in
      answered_told g.rules g.shown g.move_shown text (IsTextFor g question text) needs.position (asked_read g position needs this) o o (Err fault)
      (about position (IsTextFor g question text) this)
  unbuilt_answered (Filter question) input same = inl (here g.rules.initial.tier same, kept o)
  unbuilt_answered (Page request) input (this, digits) =
      let text = text_asked g request.position in
      paged_told request.engine g text (max request.limit 1) needs.position (asked_read g request.position needs this) o o (Err fault)
      (about request.position (IsPageOf request.engine g text (max request.limit 1)) this)
  unbuilt_answered (At tier index json) input (at, reached, same) =
      let why = here tier same in
      unbuilt_told (IsAtText g.rules g.shown g.move_shown tier index json) o (IsUnplaced g.rules tier index) fault (inr why) g.rules tier why
  unbuilt_answered (Find search) input same = find_unsearched _ g search o fault (inr (here (first_of g.rules search.tier) same))
  unbuilt_answered (Counts request) input same = whole (IsCountsOf g.rules request) same
  unbuilt_answered (Longest reached limit json) input same = whole (IsLongestOf g.rules g.shown g.move_shown reached limit json) same
  unbuilt_answered Analyse input same = whole (IsAnalysisText g.rules) same
  unbuilt_answered (Play request) input (from, legal, same) =
      inr (needs.position, from, inl (fault, refl, here needs.position.tier same, kept o))

-- ---- the tables for a position
-- a command about no position, at no place and for no search needs all tables of the game
pub whole_needed : (g : GameSpec) (needs : Needs) (command : TableCommand) → needs.tier ≡ g.rules.initial.tier
    → ((position : Option (Bor (List ℕ))) (question : Question) → command ≡ Explore position question → ⊥) → ((request : PlayRequest) → command ≡ Play request → ⊥)
    → ((request : PageRequest) → command ≡ Page request → ⊥) → ((tier index : ℕ) (json : Bool) → command ≡ At tier index json → ⊥)
    → ((search : PositionSearch) → command ≡ Find search → ⊥) → IsNeeded g command needs
whole_needed g needs (Solve json) same e p w a f = same
whole_needed g needs (Explore position question) same e p w a f = absurd (e position question refl)
whole_needed g needs (Filter question) same e p w a f = same
whole_needed g needs (Page request) same e p w a f = absurd (w request refl)
whole_needed g needs (At tier index json) same e p w a f = absurd (a tier index json refl)
whole_needed g needs (Find search) same e p w a f = absurd (f search refl)
whole_needed g needs (Counts request) same e p w a f = same
whole_needed g needs (Longest reached limit json) same e p w a f = same
whole_needed g needs Analyse same e p w a f = same
whole_needed g needs (Play request) same e p w a f = absurd (p request refl)
