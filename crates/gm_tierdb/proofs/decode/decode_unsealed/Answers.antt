use Rattle.gm_tierdb.proofs.Lower.{sym, subst, Two, AreDecoded, records_part}
use Rattle.gm_tierdb.proofs.RefusalLemmas.{old_version}
use Rattle.gm_tierdb.proofs.SealLemmas.{unsealed_text, whole_of_text, refuses_of_whole, not_old_text, error_again}
use Rattle.gm_tierdb.proofs.decode.decode_unsealed.Goals as goal

pub returns-in_err-parts-clause-exact : goal.returns-in_err-parts-clause-exact
returns-in_err-parts-clause-exact g c records is =
    absurd (whole_of_text g.G.Game.rules g.met.G.Game.lawful.name_length c.args.tier records c.args.bytes.now is c.in_err-parts.field-0.0
    c.in_err-parts.ensures.refused)

pub returns-in_err-parts-clause-old : goal.returns-in_err-parts-clause-old
returns-in_err-parts-clause-old g c records is =
    error_again c.from_residual.result c.in_err-parts.field-0.0 _ c.from_residual.ensures.1
    (old_version g.G.Game.rules g.met.G.Game.lawful.name_length c.args.tier records c.args.bytes.now is _
    (refuses_of_whole Two g.G.Game.rules c.args.tier c.args.bytes.now _ c.in_err-parts.ensures.refused))

pub returns-in_err-records-clause-exact : goal.returns-in_err-records-clause-exact
returns-in_err-records-clause-exact g c records is =
    absurd (whole_of_text g.G.Game.rules g.met.G.Game.lawful.name_length c.args.tier records c.args.bytes.now is c.in_err-records.field-0.0
    c.in_err-records.ensures.refused)

pub returns-in_err-records-clause-old : goal.returns-in_err-records-clause-old
returns-in_err-records-clause-old g c records is =
    error_again c.from_residual-in_err-records.result c.in_err-records.field-0.0 _ c.from_residual-in_err-records.ensures.1
    (old_version g.G.Game.rules g.met.G.Game.lawful.name_length c.args.tier records c.args.bytes.now is _
    (refuses_of_whole Two g.G.Game.rules c.args.tier c.args.bytes.now _ c.in_err-records.ensures.refused))

pub returns-in-Some-clause-found : goal.returns-in-Some-clause-found
returns-in-Some-clause-found g c =
    let size = g.G.Game.rules.tier_size c.args.tier in
    unsealed_text g.G.Game.rules g.met.G.Game.lawful.name_length c.args.tier c.args.bytes.now c.in_ok-records.ensures.whole c.in-Some.records
    (subst (AreDecoded Two size (records_part Two size c.args.bytes.now)) c.in-Some.is c.in_ok-records.ensures.found)

pub returns-in-Some-clause-exact : goal.returns-in-Some-clause-exact
returns-in-Some-clause-exact g c records is = sym ((returns-in-Some-clause-found g c).only records is).1

pub returns-in-Some-clause-old : goal.returns-in-Some-clause-old
returns-in-Some-clause-old g c records is =
    absurd (not_old_text g.G.Game.rules g.met.G.Game.lawful.name_length c.args.tier records c.args.bytes.now is c.in_ok-records.ensures.whole.0)

pub returns-in-None-clause-old : goal.returns-in-None-clause-old
returns-in-None-clause-old g c records is =
    absurd (not_old_text g.G.Game.rules g.met.G.Game.lawful.name_length c.args.tier records c.args.bytes.now is c.in_ok-records.ensures.whole.0)
