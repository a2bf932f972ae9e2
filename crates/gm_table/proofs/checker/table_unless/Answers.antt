use Rattle.gm_table.proofs.Lower.{Option, IfSome, refl, ap, subst}
use Rattle.std.proofs.Common.{Err}
use Rattle.gm_table.specs.declared.checker.CheckError.{CheckError}
use Rattle.gm_table.specs.Checks.{AreWrong}
use Rattle.gm_table.proofs.ValueLemmas.{true_iff_fit}
use Rattle.gm_table.proofs.VerdictLemmas.{true_no_first, wrong_untrue, names_first}
use Rattle.gm_table.proofs.checker.table_unless.Goals as goal

pub returns-in-Some-clause-are_true : goal.returns-in-Some-clause-are_true
returns-in-Some-clause-are_true g c =
    let r = g.G.Game.rules in
    let entries = c.args.tables.now in
    let records = c.args.records.now in
    let same = true_iff_fit r g.met.G.Game.lawful entries c.truth.ensures c.args.tier records c.requires.children in
    let wrong = subst (λ (o : Option CheckError). IfSome o (AreWrong r entries c.args.tier records)) c.in-Some.is c.requires.wrong in
    (λ e. absurd (subst (AreWrong r entries c.args.tier records) e wrong), λ t. absurd (wrong_untrue r entries c.args.tier records same c.in-Some.why wrong t))

pub returns-in-Some-clause-wrong_record : goal.returns-in-Some-clause-wrong_record
returns-in-Some-clause-wrong_record g c i =
    let r = g.G.Game.rules in
    let entries = c.args.tables.now in
    let records = c.args.records.now in
    let same = true_iff_fit r g.met.G.Game.lawful entries c.truth.ensures c.args.tier records c.requires.children in
    let wrong = subst (λ (o : Option CheckError). IfSome o (AreWrong r entries c.args.tier records)) c.in-Some.is c.requires.wrong in
    let named = names_first r entries c.args.tier records same c.in-Some.why wrong i in
    (λ e. named.0 (cc), λ h. ap (λ (why : CheckError). Err why) (named.1 h))

pub returns-in-Ok-clause-fit : goal.returns-in-Ok-clause-fit
returns-in-Ok-clause-fit g c =
    let same = true_iff_fit g.G.Game.rules g.met.G.Game.lawful c.args.tables.now c.truth.ensures c.args.tier c.args.records.now c.requires.children in
    (λ e. same.0 (c.requires.none.0 c.in_default.is), λ f. tt)

pub returns-in-Ok-clause-wrong_record : goal.returns-in-Ok-clause-wrong_record
returns-in-Ok-clause-wrong_record g c i =
    let same = true_iff_fit g.G.Game.rules g.met.G.Game.lawful c.args.tables.now c.truth.ensures c.args.tier c.args.records.now c.requires.children in (
      λ e. absurd (cc),
      λ h. absurd (true_no_first g.G.Game.rules c.args.tables.now c.args.tier c.args.records.now same (c.requires.none.0 c.in_default.is) i
          h.1),
    )

pub returns-in-Err-clause-fit : goal.returns-in-Err-clause-fit
returns-in-Err-clause-fit g c =
    let same = true_iff_fit g.G.Game.rules g.met.G.Game.lawful c.args.tables.now c.truth.ensures c.args.tier c.args.records.now c.requires.children in
    (λ e. same.0 (c.requires.none.0 c.in_default.is), λ f. refl)

pub returns-in-Err-clause-wrong_record : goal.returns-in-Err-clause-wrong_record
returns-in-Err-clause-wrong_record g c i =
    let same = true_iff_fit g.G.Game.rules g.met.G.Game.lawful c.args.tables.now c.truth.ensures c.args.tier c.args.records.now c.requires.children in (
      λ e. absurd (cc),
      λ h. absurd (true_no_first g.G.Game.rules c.args.tables.now c.args.tier c.args.records.now same (c.requires.none.0 c.in_default.is) i
          h.1),
    )
