use Rattle.gm_immediate.proofs.Lower.{subst, arith, IsBlockFound}
use Rattle.gm_immediate.proofs.Parts.{joined_none, joined_more, joined_true, joined_deliveries, joined_few, found_at}
use Rattle.gm_immediate.proofs.Deliveries.{not_too_far}
use Rattle.gm_immediate.proofs.one_pass.OnePass.join.Goals as goal

pub loop-block-init : goal.loop-block-init
loop-block-init g c = joined_none g.G.Game.rules c.args.self.now.tier c.in_ok-all.all c.in_ok-all.ensures

pub returns-in-Err-clause-stop : goal.returns-in-Err-clause-stop
returns-in-Err-clause-stop g c =
    let self = c.args.self.now in
    let found = found_at g.G.Game.rules self.tier self.dealing.rows c.args.found.now c.place_of.result c.loop-block.block c.index-found-place_of.result
    c.requires c.place_of.ensures.within c.place_of.ensures.value c.index-found-place_of.is in
    (subst (IsBlockFound g.G.Game.rules self.tier c.loop-block.block) c.in-Err.is found).finding

pub overflow_add-number : goal.overflow_add-number
overflow_add-number g c =
    let self = c.args.self.now in
    let found = found_at g.G.Game.rules self.tier self.dealing.rows c.args.found.now c.place_of.result c.loop-block.block c.index-found-place_of.result
    c.requires c.place_of.ensures.within c.place_of.ensures.value c.index-found-place_of.is in
    let block = (subst (IsBlockFound g.G.Game.rules self.tier c.loop-block.block) c.in-Ok.is found).finding in
    let few = joined_few g.G.Game.rules self.tier c.loop-block.block c.loop-block.all c.in-Ok.records c.loop-block.number c.in-Ok.more
    c.loop-block.invariant block in
    let size = self.size_is in
    let within = self.dealing.within in
    omega arith

pub loop-block-preserved : goal.loop-block-preserved
loop-block-preserved g c =
    let self = c.args.self.now in
    let found = found_at g.G.Game.rules self.tier self.dealing.rows c.args.found.now c.place_of.result c.loop-block.block c.index-found-place_of.result
    c.requires c.place_of.ensures.within c.place_of.ensures.value c.index-found-place_of.is in
    let block = (subst (IsBlockFound g.G.Game.rules self.tier c.loop-block.block) c.in-Ok.is found).finding in
    joined_more g.G.Game.rules self.tier c.loop-block.block c.loop-block.all c.in-Ok.records c.append.new.self c.loop-block.number c.in-Ok.more
    c.loop-block.invariant block c.in_ok-append-in-Ok.ensures.ok

pub returns-clause-records : goal.returns-clause-records
returns-clause-records g c =
    let self = c.args.self.now in
    let end = c.loop-block-test.false in
    let enough = c.blocks-block-end.ensures.enough in
    let size = self.size_is in
    joined_true g.G.Game.rules self.tier c.loop-block.block c.loop-block.all c.loop-block.number c.loop-block.invariant (omega arith)

pub returns-clause-number : goal.returns-clause-number
returns-clause-number g c =
    let self = c.args.self.now in
    let end = c.loop-block-test.false in
    let enough = c.blocks-block-end.ensures.enough in
    let size = self.size_is in
    joined_deliveries g.G.Game.rules g.met.G.Game.lawful self.tier c.loop-block.block c.loop-block.all c.loop-block.number c.loop-block.invariant (omega arith)

pub returns-clause-near : goal.returns-clause-near
returns-clause-near g c = not_too_far g.G.Game.rules g.met.G.Game.lawful c.args.self.now.tier c.loop-block.all (returns-clause-records g c)
