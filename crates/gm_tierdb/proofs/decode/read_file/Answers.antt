use Rattle.gm_tierdb.proofs.Lower.{subst, rules, AreDecoded, records_part}
use Rattle.gm_tierdb.specs.Refusals.{HasRecords}
use Rattle.gm_tierdb.specs.inner.Seals.{IsSealed}
use Rattle.gm_tierdb.proofs.SealLemmas.{sealed_text}
use Rattle.gm_tierdb.proofs.decode.read_file.Goals as goal

pub returns-in-Some-clause-found : goal.returns-in-Some-clause-found
returns-in-Some-clause-found g c =
    let v = c.args.version in
    let size = g.G.Game.rules.tier_size c.args.tier in
    let seal : IsSealed c.args.bytes.now = search rules in
    sealed_text v g.G.Game.rules c.args.tier c.args.bytes.now c.in_ok-read.ensures.whole seal c.in-Some.records
    (subst (AreDecoded v size (records_part v size c.args.bytes.now)) c.in-Some.is c.in_ok-read.ensures.found)

pub returns-in-None-clause-refused : goal.returns-in-None-clause-refused
returns-in-None-clause-refused g c =
    let v = c.args.version in
    let size = g.G.Game.rules.tier_size c.args.tier in
    let seal : IsSealed c.args.bytes.now = search rules in
    let has : HasRecords v size (records_part v size c.args.bytes.now) =
    subst (AreDecoded v size (records_part v size c.args.bytes.now)) c.in-None.is c.in_ok-read.ensures.found in
    (has.0, sealed_text v g.G.Game.rules c.args.tier c.args.bytes.now c.in_ok-read.ensures.whole seal has.0 has.1)
